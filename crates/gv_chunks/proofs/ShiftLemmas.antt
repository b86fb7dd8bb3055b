-- The rest of a run moved up or down as a block, and a single piece written.
use Rattle.std.proofs.Common.{◌≡◌, ℕ, ◌+◌, ◌-◌, ◌<◌, ◌≤◌, List, [], ◌∷◌, ◌++◌, length, take, drop, slice_index_or, slice_set, arith, refl, sym, ap, ◌∙◌}
use Rattle.std.proofs.lemmas.List.{take_at, drop_all, take-append-le, drop-append-le, take-append-drop, take-set, drop-set, drop-set-lt, take_more_set, append_assoc, drop-drop, append-nil, length-append, length-drop, length-take-le}
use Rattle.std.proofs.Math.ListN.{length-set}
use Rattle.std.proofs.Math.Seq.{take-append-add, drop-append-add}
use Rattle.std.specs.List.{splice}

-- a list of which all from `at` on was written
pub written_from : {X : Type 0} (xs ys : List X) (at n : ℕ) → n ≡ length xs → at ≤ length xs → length ys ≡ length xs - at →
    take n ((take at xs ++ (ys ++ drop (length xs - at) (drop at xs))) ++ drop (length (take at xs ++ (ys ++ drop (length xs - at) (drop at xs)))) xs) ≡ take at xs ++ ys
written_from xs ys at n is within size =
    let none : drop (length xs - at) (drop at xs) ≡ [] = drop_all (length xs - at) (drop at xs) (omega (arith, length-drop at xs)) in
    let all : length (take at xs ++ ys) ≡ n = omega (arith, length-append (take at xs) ys, length-take-le at xs within) in
    rw (none, append-nil ys) (take_at (take at xs ++ ys) (drop (length (take at xs ++ ys)) xs) n all)

-- what stands behind a run moved down over it, and the end cut off
pub lowered_then_cut : {X : Type 0} (xs ys : List X) (index count n : ℕ) → index + count ≤ length xs → n ≡ length xs - count →
    take (length xs - index - count) ys ≡ drop count (drop index xs) → take n (take index xs ++ ys) ≡ take index xs ++ drop (index + count) xs
lowered_then_cut xs ys index count n within is moved =
    let front : length (take index xs) ≡ index = length-take-le index xs (omega arith) in
    let at : n ≡ length (take index xs) + (length xs - index - count) = omega arith in
    rw (at, take-append-add (take index xs) ys (length xs - index - count), moved) (ap (λ rest. take index xs ++ rest) (drop-drop count index xs))

-- what stands behind an index moved up, by as many as the pieces are, and the pieces written there
pub raised_then_filled : {X : Type 0} (xs pieces ys : List X) (index : ℕ) → index ≤ length xs →
    drop (length pieces) ys ≡ take (length (xs ++ pieces) - index - length pieces) (drop index (xs ++ pieces)) →
    splice (take index (xs ++ pieces) ++ ys) index (index + length pieces) pieces ≡ splice xs index index pieces
raised_then_filled xs pieces ys index within moved =
    let whole = xs ++ pieces in
    let size : length whole ≡ length xs + length pieces = length-append xs pieces in
    let front : length (take index whole) ≡ index = length-take-le index whole (omega arith) in
    let before : take index (take index whole ++ ys) ≡ take index xs = take_at (take index whole) ys index front ∙ take-append-le index xs pieces within in
    let at : index + length pieces ≡ length (take index whole) + length pieces = omega arith in
    let count : length whole - index - length pieces ≡ length xs - index = omega arith in
    let behind : drop (length pieces) ys ≡ drop index xs =
    moved ∙ (rw (count, drop-append-le index xs pieces within) (take_at (drop index xs) pieces (length xs - index) (length-drop index xs))) in
    let rest : drop (index + length pieces) (take index whole ++ ys) ≡ drop index xs = rw at (drop-append-add (take index whole) ys (length pieces) ∙ behind) in
    rw (before, rest) refl

-- all pieces, where there is one
pub one_piece : {X : Type 0} (ys : List X) (y : X) → 1 ≤ length ys → length ys < 2 → y ≡ slice_index_or ys 0 y → (y ∷ []) ≡ ys
one_piece [] y one few is = absurd (omega arith)
one_piece (x ∷ []) y one few is = ap (λ z. z ∷ []) is
one_piece (x ∷ z ∷ zs) y one few is = absurd (omega arith)

-- one piece written over another
pub one_written : {X : Type 0} (xs ys : List X) (i : ℕ) (y : X) → i < length xs → 1 ≤ length ys → length ys < 2 → y ≡ slice_index_or ys 0 y →
    slice_set xs i y ≡ splice xs i (i + length ys) ys
one_written xs [] i y within some one is = absurd (omega arith)
one_written xs (x ∷ []) i y within some one is =
    sym (take-append-drop i (slice_set xs i y)) ∙ (rw (take-set xs i y, drop-set xs i y within) (ap (λ z. take i xs ++ (z ∷ drop (i + 1) xs)) is))
one_written xs (x ∷ z ∷ zs) i y within some one is = absurd (omega arith)

-- two pieces written over others
pub two_written : {X : Type 0} (xs ys : List X) (i : ℕ) (y z : X) → i + 1 < length xs → 2 ≤ length ys → length ys < 3 → y ≡ slice_index_or ys 0 y → z ≡ slice_index_or ys 1 z →
    slice_set (slice_set xs i y) (i + 1) z ≡ splice xs i (i + length ys) ys
two_written xs [] i y z within two few first second = absurd (omega arith)
two_written xs (x ∷ []) i y z within two few first second = absurd (omega arith)
two_written xs (x ∷ w ∷ []) i y z within two few first second =
    let more : i + 1 < length (slice_set xs i y) = omega (arith, within, length-set xs i y) in
    let front : take (i + 1) (slice_set xs i y) ≡ take i xs ++ (y ∷ []) = take_more_set xs i y (omega arith) in
    let back : drop (i + 1 + 1) (slice_set xs i y) ≡ drop (i + 1 + 1) xs = drop-set-lt (i + 1 + 1) xs i y (omega arith) in
    let at : i + 1 + 1 ≡ i + 2 = omega arith in
    sym (take-append-drop (i + 1) (slice_set (slice_set xs i y) (i + 1) z))
    ∙ (rw (take-set (slice_set xs i y) (i + 1) z, drop-set (slice_set xs i y) (i + 1) z more, front, back, append_assoc (take i xs) (y ∷ []) (z ∷ drop (i + 1 + 1) xs), at)
    (ap (λ v. take i xs ++ (v ∷ z ∷ drop (i + 2) xs)) first ∙ ap (λ v. take i xs ++ (x ∷ v ∷ drop (i + 2) xs)) second))
two_written xs (x ∷ w ∷ v ∷ vs) i y z within two few first second = absurd (omega arith)
