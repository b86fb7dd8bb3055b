-- Chunks that hold nothing rotated to the front, and filled.
use Rattle.std.proofs.Common.{◌≡◌, ℕ, ◌+◌, ◌-◌, ◌≤◌, List, [], ◌++◌, length, take, drop, arith, ◌∙◌, ap, sym}
use Rattle.std.proofs.Math.Seq.{drop-append-add}
use Rattle.std.proofs.lemmas.List.{drop-drop, length-drop, take_at, drop_at, drop-take}
use Rattle.std.specs.Global.{Vec}
use Rattle.gv_types.specs.declared.mapping.Mapping.{Mapping}
use Rattle.gv_chunks.specs.Chunks.{chunks_joined}
use Rattle.gv_chunks.proofs.ChunkLemmas.{joined-append, joined_parts, nil_back, nil_front}
use Rattle.gv_chunks.proofs.MergedLemmas.{joined_front}

-- behind chunks that hold nothing stand chunks that hold nothing
pub nothing_from : (xs : List (Vec Mapping)) (i j : ℕ) → i ≤ j → chunks_joined (drop i xs) ≡ [] → chunks_joined (drop j xs) ≡ []
nothing_from xs i j behind none =
    let there : drop (j - i) (drop i xs) ≡ drop j xs = drop-drop (j - i) i xs ∙ ap (λ k. drop k xs) (omega arith) in
    let parts : chunks_joined (take (j - i) (drop i xs)) ++ chunks_joined (drop (j - i) (drop i xs)) ≡ [] = sym (joined_parts (drop i xs) (j - i)) ∙ none in
    sym (ap chunks_joined there) ∙ nil_back (chunks_joined (take (j - i) (drop i xs))) _ parts

-- the front of chunks that were rotated holds nothing
pub front_of_turned : (xs : List (Vec Mapping)) (m n : ℕ) → m + n ≡ length xs → chunks_joined (drop m xs) ≡ [] → chunks_joined (take n (drop m xs ++ take m xs)) ≡ []
front_of_turned xs m n size none = ap chunks_joined (take_at (drop m xs) (take m xs) n (omega (arith, length-drop m xs))) ∙ none

-- and filled it stands before all others
pub filled_front : (xs fs : List (Vec Mapping)) (m n : ℕ) (pieces : List Mapping) → m + n ≡ length xs → chunks_joined (drop m xs) ≡ [] → chunks_joined fs ≡ pieces →
    chunks_joined (fs ++ drop n (drop m xs ++ take m xs)) ≡ pieces ++ chunks_joined xs
filled_front xs fs m n pieces size none is =
    let rest : drop n (drop m xs ++ take m xs) ≡ take m xs = drop_at (drop m xs) (take m xs) n (omega (arith, length-drop m xs)) in
    rw rest (joined-append fs (take m xs) ∙ (ap (λ ms. ms ++ chunks_joined (take m xs)) is ∙ ap (λ ms. pieces ++ ms) (joined_front xs m none)))

-- and those behind all that stand still hold nothing
pub spare_of_turned : (xs fs : List (Vec Mapping)) (m n s : ℕ) → m + n ≡ length xs → length fs ≡ n → s ≤ m → chunks_joined (drop s xs) ≡ [] →
    chunks_joined (drop (s + n) (fs ++ drop n (drop m xs ++ take m xs))) ≡ []
spare_of_turned xs fs m n s size same within none =
    let rest : drop n (drop m xs ++ take m xs) ≡ take m xs = drop_at (drop m xs) (take m xs) n (omega (arith, length-drop m xs)) in
    let past : s + n ≡ length fs + s = omega arith in
    let there : drop s (take m xs) ≡ take (m - s) (drop s xs) = ap (λ k. drop s (take k xs)) (omega arith) ∙ drop-take s (m - s) xs in
    let parts : chunks_joined (take (m - s) (drop s xs)) ++ chunks_joined (drop (m - s) (drop s xs)) ≡ [] = sym (joined_parts (drop s xs) (m - s)) ∙ none in
    rw (rest, past) (ap chunks_joined (drop-append-add fs (take m xs) s ∙ there) ∙ nil_front _ _ parts)
