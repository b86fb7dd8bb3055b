-- For callers: A run replaced in two steps.
use Rattle.std.proofs.Common.{◌≡◌, ℕ, ◌+◌, ◌-◌, ◌≤◌, length, take, drop, ◌++◌, List, arith, refl, ◌∙◌, ap}
use Rattle.std.proofs.lemmas.List.{take_at, drop_at, length-take-le, append_assoc, take-append-drop, drop-drop, length-append}
use Rattle.std.specs.List.{splice}

-- what lies before the end of the pieces that a splice put in
pub take-splice : {X : Type 0} (xs ys : List X) (i j n : ℕ) → i ≤ length xs → n ≡ i + length ys →
    take n (splice xs i j ys) ≡ take i xs ++ ys
take-splice xs ys i j n within is =
    let front : length (take i xs ++ ys) ≡ n = omega (arith, length-append (take i xs) ys, length-take-le i xs within) in
    rw (← append_assoc (take i xs) ys (drop j xs)) (take_at (take i xs ++ ys) (drop j xs) n front)

-- what lies behind them
pub drop-splice : {X : Type 0} (xs ys : List X) (i j n k : ℕ) → i ≤ length xs → n ≡ i + length ys + k →
    drop n (splice xs i j ys) ≡ drop (j + k) xs
drop-splice xs ys i j n k within is =
    let front : length (take i xs ++ ys) ≡ i + length ys = omega (arith, length-append (take i xs) ys, length-take-le i xs within) in
    let rest : drop (i + length ys) ((take i xs ++ ys) ++ drop j xs) ≡ drop j xs = drop_at (take i xs ++ ys) (drop j xs) (i + length ys) front in
    rw (is, ← append_assoc (take i xs) ys (drop j xs), ← drop-drop k (i + length ys) ((take i xs ++ ys) ++ drop j xs), rest) (drop-drop k j xs)

-- pieces written over a part of a run, and the rest of the run taken out
pub overwritten_then_cut : {X : Type 0} (xs ys zs : List X) (index count : ℕ) → index + count ≤ length xs → length ys ≤ count →
    zs ≡ splice xs index (index + length ys) ys →
    take (index + length ys) zs ++ drop (index + length ys + (count - length ys)) zs ≡ splice xs index (index + count) ys
overwritten_then_cut xs ys zs index count within fits is =
    let front : take (index + length ys) zs ≡ take index xs ++ ys = rw is (take-splice xs ys index (index + length ys) (index + length ys) (omega arith) refl) in
    let back : drop (index + length ys + (count - length ys)) zs ≡ drop (index + length ys + (count - length ys)) xs =
    rw is (drop-splice xs ys index (index + length ys) (index + length ys + (count - length ys)) (count - length ys) (omega arith) refl) in
    let end : index + length ys + (count - length ys) ≡ index + count = omega arith in
    rw (front, back, end) (append_assoc (take index xs) ys (drop (index + count) xs))

-- a run overwritten by the first pieces, and the others put in behind it
pub overwritten_then_filled : {X : Type 0} (xs ys zs : List X) (index count : ℕ) → index + count ≤ length xs → count ≤ length ys →
    zs ≡ splice xs index (index + count) (take count ys) →
    splice zs (index + count) (index + count) (drop count ys) ≡ splice xs index (index + count) ys
overwritten_then_filled xs ys zs index count within fits is =
    let size : length (take count ys) ≡ count = length-take-le count ys fits in
    let front : take (index + count) zs ≡ take index xs ++ take count ys = rw is (take-splice xs (take count ys) index (index + count) (index + count) (omega arith) (omega arith)) in
    let back : drop (index + count) zs ≡ drop (index + count) xs = rw is (drop-splice xs (take count ys) index (index + count) (index + count) 0 (omega arith) (omega arith) ∙ ap (λ n. drop n xs) (omega arith)) in
    let whole : take count ys ++ drop count ys ≡ ys = take-append-drop count ys in
    rw (
      front,
      back,
      append_assoc (take index xs) (take count ys) (drop count ys ++ drop (index + count) xs),
      ← append_assoc (take count ys) (drop count ys) (drop (index + count) xs),
      whole,
    ) refl
