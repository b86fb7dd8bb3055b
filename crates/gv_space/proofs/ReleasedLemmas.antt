-- For callers: the counts of buffers once mappings are given up one list after another.
use Rattle.std.proofs.Common.{◌≡◌, ℕ, ◌-◌, List, [], ◌∷◌, ◌++◌, map, length, refl, ap, ◌∙◌, arith, length-append}
use Rattle.gv_types.specs.declared.mapping.Mapping.{Mapping}
use Rattle.gv_buffers.specs.Buffers.{Buffer}
use Rattle.gv_space.specs.Counts.{count_of, less_kept}
use Rattle.gv_space.specs.State.{SpaceState}
use Rattle.gv_space.specs.Undo.{released}
use Rattle.gv_space.proofs.CountLemmas.{count_of-append}

less_twice : (b : Buffer) (first later : List Mapping) →
    less_kept (less_kept b (count_of b.id first)) (count_of b.id later) ≡ less_kept b (count_of b.id (first ++ later))
less_twice b first later =
    let total : b.kept - count_of b.id first - count_of b.id later ≡ b.kept - count_of b.id (first ++ later) = omega (arith, count_of-append b.id first later) in
    ap (λ (n : ℕ). record b { kept = n }) total

each_twice : (bs : List Buffer) (first later : List Mapping) →
    map (λ (b : Buffer). less_kept b (count_of b.id later)) (map (λ (b : Buffer). less_kept b (count_of b.id first)) bs)
    ≡ map (λ (b : Buffer). less_kept b (count_of b.id (first ++ later))) bs
each_twice [] first later = refl
each_twice (b ∷ bs) first later =
    ap (λ (x : Buffer). x ∷ map (λ (b : Buffer). less_kept b (count_of b.id later)) (map (λ (b : Buffer). less_kept b (count_of b.id first)) bs)) (less_twice b first later)
    ∙ ap (λ (xs : List Buffer). less_kept b (count_of b.id (first ++ later)) ∷ xs) (each_twice bs first later)

-- mappings given up one list after the other
pub released-released : (s : SpaceState) (first later : List Mapping) → released (released s first) later ≡ released s (first ++ later)
released-released s first later =
    let count_is : s.kept_count - length first - length later ≡ s.kept_count - length (first ++ later) = omega (arith, length-append first later) in
    ap (λ (n : ℕ). record (released (released s first) later) { kept_count = n }) count_is
    ∙ ap (λ (live : List Buffer). record s { buffers = record s.buffers { live = live }; kept_count = s.kept_count - length (first ++ later) }) (each_twice s.buffers.live first later)

less_none : (bs : List Buffer) → map (λ (b : Buffer). less_kept b (count_of b.id [])) bs ≡ bs
less_none [] = refl
less_none (b ∷ bs) =
    let same : b.kept - 0 ≡ b.kept = omega arith in
    ap (λ (n : ℕ). record b { kept = n } ∷ map (λ (b : Buffer). less_kept b (count_of b.id [])) bs) same ∙ ap (λ (xs : List Buffer). b ∷ xs) (less_none bs)

-- nothing given up
pub released-none : (s : SpaceState) → released s [] ≡ s
released-none s =
    let count_is : s.kept_count - 0 ≡ s.kept_count = omega arith in
    ap (λ (n : ℕ). record (released s []) { kept_count = n }) count_is ∙ ap (λ (live : List Buffer). record s { buffers = record s.buffers { live = live } }) (less_none s.buffers.live)
