-- What holds of each index before and behind a point of a list.
use Rattle.std.proofs.Common.{◌≡◌, ℕ, ◌+◌, ◌≤◌, ◌<◌, length, take, drop, List, [], ◌∷◌, arith, get_or, ap, ◌∙◌}
use Rattle.std.proofs.lemmas.List.{length-take, length-take-le, length-drop, get_or-take, get_or-drop}
use Rattle.std.proofs.lemmas.List.Elements.{All-from_get_or, All-get_or}
use Rattle.std.specs.List.{All, AllWithin}

pub All-take_within : {X : Type 0} (P : X → Type 0) (xs : List X) (i : ℕ) → i ≤ length xs → AllWithin P xs 0 i → All P (take i xs)
All-take_within P [] i within all = let e : i ≡ 0 = omega arith in rw e (λ k d below. absurd (omega arith))
All-take_within P (x ∷ xs) i within all =
    All-from_get_or P (take i (x ∷ xs)) x (λ k below. let less : k < i = omega (arith, length-take-le i (x ∷ xs) within) in rw get_or-take (all k x (omega arith) less))

pub All-drop_within : {X : Type 0} (P : X → Type 0) (xs : List X) (i : ℕ) → i ≤ length xs → AllWithin P xs i (length xs) → All P (drop i xs)
All-drop_within P [] i within all = let e : i ≡ 0 = omega arith in rw e (λ k d below. absurd (omega arith))
All-drop_within P (x ∷ xs) i within all =
    All-from_get_or P (drop i (x ∷ xs)) x (λ k below. rw get_or-drop (all (i + k) x (omega arith) (omega (arith, length-drop i (x ∷ xs)))))

-- each index before the point, and the index at it
pub All-take_at : {X : Type 0} (P : X → Type 0) (xs : List X) (i k : ℕ) (d : X) → i ≤ length xs → All P (take i xs) → k < i → P (get_or xs k d)
All-take_at P xs i k d within all less =
    rw (← get_or-take i xs k d less) (All-get_or P (take i xs) k d (omega (arith, length-take-le i xs within)) all)

pub All-drop_at : {X : Type 0} (P : X → Type 0) (xs : List X) (i : ℕ) (d : X) → i < length xs → All P (drop i xs) → P (get_or xs i d)
All-drop_at P xs i d within all =
    let same : get_or (drop i xs) 0 d ≡ get_or xs i d = get_or-drop i xs 0 d ∙ ap (λ n. get_or xs n d) (omega arith) in
    rw (← same) (All-get_or P (drop i xs) 0 d (omega (arith, length-drop i xs)) all)

-- a piece of a list: it ends where the list does, or before, and has what the list has
pub piece-within : {X : Type 0} (xs piece : List X) (i : ℕ) → i ≤ length xs → piece ≡ take (length piece) (drop i xs) → i + length piece ≤ length xs
piece-within xs piece i within is =
    omega (arith, length-drop i xs, ap length is ∙ length-take (length piece) (drop i xs))

pub piece-at : {X : Type 0} (xs piece : List X) (i k : ℕ) (d : X) → piece ≡ take (length piece) (drop i xs) → k < length piece → get_or piece k d ≡ get_or xs (i + k) d
piece-at {X = X} xs piece i k d is less =
    ap (λ (ys : List X). get_or ys k d) is ∙ get_or-take (length piece) (drop i xs) k d less ∙ get_or-drop i xs k d
