-- A run of chunks taken out or put in: the chunks in use, and those behind them that hold nothing.
use Rattle.std.proofs.Common.{◌≡◌, ℕ, ◌+◌, ◌-◌, ◌≤◌, List, [], ◌++◌, length, take, drop, arith, refl, ◌∙◌, ap, sym}
use Rattle.std.proofs.Math.Seq.{drop-append-add}
use Rattle.std.proofs.lemmas.List.{append-nil, drop-append-le, drop-take, drop_at, take_at, length-take-le}
use Rattle.std.specs.List.{splice}
use Rattle.std.specs.Global.{Vec}
use Rattle.gv_types.specs.declared.mapping.Mapping.{Mapping}
use Rattle.gv_chunks.specs.Chunks.{chunks_joined}
use Rattle.gv_chunks.proofs.ChunkLemmas.{joined-append, joined_parts, nil_front}

-- the last chunks of the front hold nothing
pub none_in_front : (xs : List (Vec Mapping)) (m n : ℕ) → m ≤ n → chunks_joined (drop m xs) ≡ [] → chunks_joined (drop m (take n xs)) ≡ []
none_in_front xs m n within none =
    let there : drop m (take n xs) ≡ take (n - m) (drop m xs) = ap (λ k. drop m (take k xs)) (omega arith) ∙ drop-take m (n - m) xs in
    let parts : chunks_joined (take (n - m) (drop m xs)) ++ chunks_joined (drop (n - m) (drop m xs)) ≡ [] = sym (joined_parts (drop m xs) (n - m)) ∙ none in
    ap chunks_joined there ∙ nil_front _ _ parts

-- what stands behind a front and holds nothing there holds nothing in the whole
pub none_behind_front : (f b : List (Vec Mapping)) (s n : ℕ) → length f ≡ s → chunks_joined (drop n b) ≡ [] → chunks_joined (drop (s + n) (f ++ b)) ≡ []
none_behind_front f b s n size none = ap chunks_joined (ap (λ k. drop (k + n) (f ++ b)) (sym size) ∙ drop-append-add f b n) ∙ none

-- chunks that hold nothing add nothing behind others
pub joined_with_rest : (f b : List (Vec Mapping)) → chunks_joined b ≡ [] → chunks_joined (f ++ b) ≡ chunks_joined f
joined_with_rest f b none = joined-append f b ∙ (ap (λ ms. chunks_joined f ++ ms) none ∙ append-nil (chunks_joined f))

-- nor from an index on from which those hold nothing
pub none_with_rest : (f b : List (Vec Mapping)) (n : ℕ) → n ≤ length f → chunks_joined (drop n f) ≡ [] → chunks_joined b ≡ [] → chunks_joined (drop n (f ++ b)) ≡ []
none_with_rest f b n within none rest = ap chunks_joined (drop-append-le n f b within) ∙ (joined_with_rest (drop n f) b rest ∙ none)

-- a run taken out, and pieces put in where it was
pub out_then_in : (xs mid pieces : List Mapping) (index behind : ℕ) → index ≤ length xs → mid ≡ take index xs ++ drop behind xs →
    splice mid index index pieces ≡ splice xs index behind pieces
out_then_in xs mid pieces index behind within is =
    let size : length (take index xs) ≡ index = length-take-le index xs within in
    let front : take index (take index xs ++ drop behind xs) ≡ take index xs = take_at (take index xs) (drop behind xs) index size in
    let back : drop index (take index xs ++ drop behind xs) ≡ drop behind xs = drop_at (take index xs) (drop behind xs) index size in
    rw (is, front, back) refl
