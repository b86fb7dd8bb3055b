-- Two neighbouring chunks joined, and the one that was emptied rotated to the end.
use Rattle.std.proofs.Common.{◌≡◌, ℕ, ◌+◌, ◌<◌, List, [], ◌∷◌, ◌++◌, length, take, drop, slice_index_or, slice_set, arith, refl, ◌∙◌, ap}
use Rattle.std.proofs.Math.Seq.{drop-append-add}
use Rattle.std.proofs.lemmas.List.{length-set, take-set, append-nil, append_assoc, drop_at, get_or_append_left, get_or-append_right, get_or-set_same, get_or_default}
use Rattle.std.specs.Global.{Vec}
use Rattle.gv_types.specs.declared.mapping.Mapping.{Mapping}
use Rattle.gv_chunks.specs.Chunks.{chunks_joined}
use Rattle.gv_chunks.proofs.ChunkLemmas.{joined-append, joined_around}

-- the first chunk, and the others
pub joined_first : (b : List (Vec Mapping)) (d : Vec Mapping) → 0 < length b → chunks_joined b ≡ (slice_index_or b 0 d).items ++ chunks_joined (drop 1 b)
joined_first [] d some_left = absurd (omega arith)
joined_first (x ∷ bs) d some_left = refl

-- the first chunk emptied and rotated to the end leaves the others
pub joined_turned : (b : List (Vec Mapping)) (e : Vec Mapping) → 0 < length b → e.items ≡ [] →
    chunks_joined (drop 1 (slice_set b 0 e) ++ take 1 (slice_set b 0 e)) ≡ chunks_joined (drop 1 b)
joined_turned [] e some_left none = absurd (omega arith)
joined_turned (x ∷ bs) e some_left none =
    joined-append bs (e ∷ []) ∙ (ap (λ ms. chunks_joined bs ++ ms) (append-nil e.items ∙ none) ∙ append-nil (chunks_joined bs))

-- and stands last
pub last_turned : (b : List (Vec Mapping)) (e : Vec Mapping) (m : ℕ) → length b ≡ m + 1 → e.items ≡ [] →
    chunks_joined (drop m (drop 1 (slice_set b 0 e) ++ take 1 (slice_set b 0 e))) ≡ []
last_turned [] e m size none = absurd (omega arith)
last_turned (x ∷ bs) e m size none = ap chunks_joined (drop_at bs (e ∷ []) m (omega arith)) ∙ (append-nil e.items ∙ none)

-- the list is what it was
pub joined_both : (f b bs : List (Vec Mapping)) (n : ℕ) (d e w : Vec Mapping) → length f ≡ n + 1 → 0 < length b →
    w.items ≡ (slice_index_or f n d).items ++ (slice_index_or b 0 e).items → chunks_joined bs ≡ chunks_joined (drop 1 b) →
    chunks_joined (slice_set f n w ++ bs) ≡ chunks_joined (f ++ b)
joined_both f b bs n d e w size some_left put rotated =
    let within : n < length f = omega arith in
    let same : length (slice_set f n w) ≡ n + 1 = omega (arith, length-set f n w) in
    rw (
      joined_around (slice_set f n w) bs n d same,
      take-set f n w,
      get_or-set_same f n w d within,
      put,
      rotated,
      joined_around f b n d size,
      joined_first b e some_left,
    ) (ap (λ ms. chunks_joined (take n f) ++ ms) (append_assoc (slice_index_or f n d).items (slice_index_or b 0 e).items (chunks_joined (drop 1 b))))

-- the chunk holds what both held
pub joint_at : (f b bs : List (Vec Mapping)) (n : ℕ) (d e w any : Vec Mapping) → length f ≡ n + 1 → 0 < length b →
    w.items ≡ (slice_index_or f n d).items ++ (slice_index_or b 0 e).items →
    (slice_index_or (slice_set f n w ++ bs) n any).items ≡ (slice_index_or (f ++ b) n any).items ++ (slice_index_or (f ++ b) (n + 1) any).items
joint_at f b bs n d e w any size some_left put =
    let within : n < length f = omega arith in
    let now : slice_index_or (slice_set f n w ++ bs) n any ≡ w =
    get_or_append_left (slice_set f n w) bs any n (omega (arith, length-set f n w)) ∙ get_or-set_same f n w any within in
    let first : slice_index_or (f ++ b) n any ≡ slice_index_or f n d =
    get_or_append_left f b any n within ∙ get_or_default f n any d within in
    let second : slice_index_or (f ++ b) (n + 1) any ≡ slice_index_or b 0 e =
    get_or-append_right f b (n + 1) (n + 1) any size (omega arith) ∙ (ap (λ k. slice_index_or b k any) (omega arith) ∙ get_or_default b 0 any e some_left) in
    rw (now, first, second) put

-- the chunk that holds nothing stands behind all others
pub spare_at : (f bs : List (Vec Mapping)) (i m k : ℕ) (w : Vec Mapping) → k ≡ length f + m → chunks_joined (drop m bs) ≡ [] →
    chunks_joined (drop k (slice_set f i w ++ bs)) ≡ []
spare_at f bs i m k w is none =
    let past : k ≡ length (slice_set f i w) + m = omega (arith, length-set f i w) in
    ap chunks_joined (ap (λ n. drop n (slice_set f i w ++ bs)) past ∙ drop-append-add (slice_set f i w) bs m) ∙ none
