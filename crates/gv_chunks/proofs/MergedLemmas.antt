-- Chunks of which no two neighbours fit into one: how few they are, and how a join keeps them so.
use Rattle.std.proofs.Common.{◌≡◌, ℕ, ◌+◌, ◌-◌, ◌*◌, ◌<◌, ◌≤◌, List, [], ◌∷◌, ◌++◌, length, take, drop, slice_index_or, vec_len, arith, ◌∙◌, ap, sym, suc, inl, inr}
use Rattle.std.proofs.lemmas.List.{append-nil, get_or-take, get_or-drop, get_or_append_left, length-append, length-drop, length-take-le, drop-drop, drop-append-le, take-append-drop}
use Rattle.std.proofs.lemmas.Bool.{cases_lt}
use Rattle.std.specs.Global.{Vec}
use Rattle.gv_types.specs.declared.mapping.Mapping.{Mapping}
use Rattle.gv_chunks.specs.Chunks.{chunks_joined, AreChunks, AreFilled, AreMerged, AreMergedFrom}
use Rattle.gv_chunks.specs.declared.TheConstants.{CHUNK}
use Rattle.gv_chunks.proofs.ChunkLemmas.{joined-append, joined_parts, joined_at}

-- the chunks behind the first are merged too
pub merged_rest : (c : Vec Mapping) (cs : List (Vec Mapping)) → AreMerged (c ∷ cs) → AreMerged cs
merged_rest c cs merged k d low within =
    let held = merged (suc k) d (omega arith) (omega arith) in
    let next : suc k + 1 ≡ suc (k + 1) = omega arith in
    rw next at held

-- how few merged chunks are, by what the first holds
pub few_behind : (c : Vec Mapping) (cs : List (Vec Mapping)) → AreMerged (c ∷ cs) → CHUNK * length cs + vec_len c ≤ 2 * length (chunks_joined (c ∷ cs))
few_behind c [] merged = omega (arith, c.ok, length-append c.items [])
few_behind c (d ∷ cs) merged =
    let behind : CHUNK * length cs + vec_len d ≤ 2 * length (chunks_joined (d ∷ cs)) = few_behind d cs (merged_rest c (d ∷ cs) merged) in
    let pair : CHUNK < vec_len c + vec_len d = merged 0 c (omega arith) (omega arith) in
    omega (arith, c.ok, length-append c.items (chunks_joined (d ∷ cs)))

-- as many as that
pub few_merged : (cs : List (Vec Mapping)) → AreMerged cs → CHUNK * length cs ≤ 2 * length (chunks_joined cs) + CHUNK
few_merged [] merged = omega arith
few_merged (c ∷ cs) merged = omega (arith, few_behind c cs merged)

-- the first chunks hold all that the list holds, where the others hold nothing
pub joined_front : (xs : List (Vec Mapping)) (n : ℕ) → chunks_joined (drop n xs) ≡ [] → chunks_joined (take n xs) ≡ chunks_joined xs
joined_front xs n none = sym (joined_parts xs n ∙ (ap (λ ms. chunks_joined (take n xs) ++ ms) none ∙ append-nil (chunks_joined (take n xs))))

-- so they are few where they are merged
pub few_standing : (xs : List (Vec Mapping)) (n : ℕ) → n ≤ length xs → chunks_joined (drop n xs) ≡ [] → AreMerged (take n xs) → CHUNK * n ≤ 2 * length (chunks_joined xs) + CHUNK
few_standing xs n within none merged =
    let few : CHUNK * length (take n xs) ≤ 2 * length (chunks_joined (take n xs)) + CHUNK = few_merged (take n xs) merged in
    rw (length-take-le n xs within, joined_front xs n none) at few

-- what stands behind two chunks that were joined
pub behind_joined : (old new : List (Vec Mapping)) (i : ℕ) → i + 1 < length old → length new ≡ length old →
    take (length old - (i + 2)) (drop (i + 1) new) ≡ drop (i + 2) old → drop (i + 1) new ≡ drop (i + 2) old ++ drop (length old - 1) new
behind_joined old new i within same behind =
    let last : drop (length old - (i + 2)) (drop (i + 1) new) ≡ drop (length old - 1) new = drop-drop (length old - (i + 2)) (i + 1) new ∙ ap (λ n. drop n new) (omega arith) in
    sym (take-append-drop (length old - (i + 2)) (drop (i + 1) new)) ∙ (ap (λ xs. xs ++ drop (length old - (i + 2)) (drop (i + 1) new)) behind ∙ ap (λ xs. drop (i + 2) old ++ xs) last)

-- one more of them holds nothing
pub spare_joined : (old new : List (Vec Mapping)) (i n : ℕ) → i + 1 < n → n ≤ length old → drop (i + 1) new ≡ drop (i + 2) old ++ drop (length old - 1) new →
    chunks_joined (drop n old) ≡ [] → chunks_joined (drop (length old - 1) new) ≡ [] → chunks_joined (drop (n - 1) new) ≡ []
spare_joined old new i n within room behind none last =
    let there : drop (n - 1) new ≡ drop (n - (i + 2)) (drop (i + 1) new) = ap (λ k. drop k new) (omega arith) ∙ sym (drop-drop (n - (i + 2)) (i + 1) new) in
    let back : drop (n - (i + 2)) (drop (i + 2) old) ≡ drop n old = drop-drop (n - (i + 2)) (i + 2) old ∙ ap (λ k. drop k old) (omega arith) in
    let parts : drop (n - (i + 2)) (drop (i + 2) old ++ drop (length old - 1) new) ≡ drop (n - (i + 2)) (drop (i + 2) old) ++ drop (length old - 1) new =
    drop-append-le (n - (i + 2)) (drop (i + 2) old) (drop (length old - 1) new) (omega (arith, length-drop (i + 2) old)) in
    ap chunks_joined (there ∙ (ap (drop (n - (i + 2))) behind ∙ (parts ∙ ap (λ xs. xs ++ drop (length old - 1) new) back)))
    ∙ (joined-append (drop n old) (drop (length old - 1) new) ∙ (ap (λ ms. ms ++ chunks_joined (drop (length old - 1) new)) none ∙ last))

-- the chunks behind have moved up by one
pub moved_up : (old new : List (Vec Mapping)) (i j : ℕ) (d : Vec Mapping) → i < j → j + 1 < length old → drop (i + 1) new ≡ drop (i + 2) old ++ drop (length old - 1) new →
    slice_index_or new j d ≡ slice_index_or old (j + 1) d
moved_up old new i j d behind_it within behind =
    let there : slice_index_or (drop (i + 1) new) (j - (i + 1)) d ≡ slice_index_or new j d = get_or-drop (i + 1) new (j - (i + 1)) d ∙ ap (λ k. slice_index_or new k d) (omega arith) in
    let back : slice_index_or (drop (i + 2) old) (j - (i + 1)) d ≡ slice_index_or old (j + 1) d = get_or-drop (i + 2) old (j - (i + 1)) d ∙ ap (λ k. slice_index_or old k d) (omega arith) in
    sym there ∙ (ap (λ xs. slice_index_or xs (j - (i + 1)) d) behind
    ∙ (get_or_append_left (drop (i + 2) old) (drop (length old - 1) new) d (j - (i + 1)) (omega (arith, length-drop (i + 2) old)) ∙ back))

-- a chunk that was joined, or has moved up, holds no less than the one behind it held
grown : (old new : List (Vec Mapping)) (i k : ℕ) (d : Vec Mapping) → i ≤ k → k + 1 < length old → drop (i + 1) new ≡ drop (i + 2) old ++ drop (length old - 1) new →
    ((d : Vec Mapping) → (slice_index_or new i d).items ≡ (slice_index_or old i d).items ++ (slice_index_or old (i + 1) d).items) →
    vec_len (slice_index_or old (k + 1) d) ≤ vec_len (slice_index_or new k d)
grown old new i k d low within behind joint =
    elim (cases_lt i k) [
      | inl later ↦ rw (moved_up old new i k d later within behind) (omega arith)
      | inr none_later ↦
          let at : k ≡ i = omega arith in
          let sizes : length (slice_index_or new i d).items ≡ length ((slice_index_or old i d).items ++ (slice_index_or old (i + 1) d).items) = ap length (joint d) in
          rw at (omega (arith, (slice_index_or new i d).ok, (slice_index_or old (i + 1) d).ok, length-append (slice_index_or old i d).items (slice_index_or old (i + 1) d).items))
    ]

-- a join leaves what is merged behind it merged
pub merged_joined : (old new : List (Vec Mapping)) (i n : ℕ) → i + 1 < n → n ≤ length old → length new ≡ length old → drop (i + 1) new ≡ drop (i + 2) old ++ drop (length old - 1) new →
    ((d : Vec Mapping) → (slice_index_or new i d).items ≡ (slice_index_or old i d).items ++ (slice_index_or old (i + 1) d).items) →
    AreMergedFrom (i + 1) (take n old) → AreMergedFrom i (take (n - 1) new)
merged_joined old new i n within room same behind joint merged k d low pair =
    let size : length (take (n - 1) new) ≡ n - 1 = length-take-le (n - 1) new (omega arith) in
    let before : length (take n old) ≡ n = length-take-le n old room in
    let first : slice_index_or (take (n - 1) new) k d ≡ slice_index_or new k d = get_or-take (n - 1) new k d (omega arith) in
    let second : slice_index_or (take (n - 1) new) (k + 1) d ≡ slice_index_or old (k + 2) d =
    get_or-take (n - 1) new (k + 1) d (omega arith) ∙ (moved_up old new i (k + 1) d (omega arith) (omega arith) behind ∙ ap (λ j. slice_index_or old j d) (omega arith)) in
    let held : CHUNK < vec_len (slice_index_or (take n old) (k + 1) d) + vec_len (slice_index_or (take n old) (k + 1 + 1) d) = merged (k + 1) d (omega arith) (omega arith) in
    let one : slice_index_or (take n old) (k + 1) d ≡ slice_index_or old (k + 1) d = get_or-take n old (k + 1) d (omega arith) in
    let two : slice_index_or (take n old) (k + 1 + 1) d ≡ slice_index_or old (k + 2) d = get_or-take n old (k + 1 + 1) d (omega arith) ∙ ap (λ j. slice_index_or old j d) (omega arith) in
    let kept : CHUNK < vec_len (slice_index_or old (k + 1) d) + vec_len (slice_index_or old (k + 2) d) = rw (one, two) at held in
    let larger : vec_len (slice_index_or old (k + 1) d) ≤ vec_len (slice_index_or new k d) = grown old new i k d low (omega arith) behind joint in
    rw (first, second) (omega arith)

-- chunks that are merged each hold something, where anything is held
pub filled_merged : (xs : List (Vec Mapping)) (n : ℕ) → n ≤ length xs → AreChunks xs → AreMerged (take n xs) → chunks_joined (drop n xs) ≡ [] → 0 < length (chunks_joined xs) → AreFilled (take n xs)
filled_merged xs n within room merged none some_held k d inside =
    let size : length (take n xs) ≡ n = length-take-le n xs within in
    elim (cases_lt (k + 1) n) [
      | inl before ↦
          let next : slice_index_or (take n xs) (k + 1) d ≡ slice_index_or xs (k + 1) d = get_or-take n xs (k + 1) d before in
          let pair : CHUNK < vec_len (slice_index_or (take n xs) k d) + vec_len (slice_index_or (take n xs) (k + 1) d) = merged k d (omega arith) (omega arith) in
          let both : CHUNK < vec_len (slice_index_or (take n xs) k d) + vec_len (slice_index_or xs (k + 1) d) = rw next at pair in
          omega (arith, (slice_index_or xs (k + 1) d).ok, room (k + 1) d (omega arith))
      | inr last ↦ elim (cases_lt 0 k) [
        | inl later ↦
            let there : k - 1 + 1 ≡ k = omega arith in
            let first : slice_index_or (take n xs) (k - 1) d ≡ slice_index_or xs (k - 1) d = get_or-take n xs (k - 1) d (omega arith) in
            let pair : CHUNK < vec_len (slice_index_or (take n xs) (k - 1) d) + vec_len (slice_index_or (take n xs) (k - 1 + 1) d) = merged (k - 1) d (omega arith) (omega arith) in
            let both : CHUNK < vec_len (slice_index_or xs (k - 1) d) + vec_len (slice_index_or (take n xs) k d) = rw (first, there) at pair in
            omega (arith, (slice_index_or xs (k - 1) d).ok, room (k - 1) d (omega arith))
        | inr none_before ↦
            let one : n ≡ 1 = omega arith in
            let at : k ≡ 0 = omega arith in
            let here : slice_index_or (take n xs) 0 d ≡ slice_index_or xs 0 d = get_or-take n xs 0 d (omega arith) in
            let rest : chunks_joined (drop (0 + 1) xs) ≡ [] = rw one at none in
            let all : chunks_joined xs ≡ (slice_index_or xs 0 d).items = joined_at xs 0 d (omega arith) ∙ (ap (λ ms. (slice_index_or xs 0 d).items ++ ms) rest ∙ append-nil (slice_index_or xs 0 d).items) in
            rw (at, here) (omega (arith, (slice_index_or xs 0 d).ok, ap length all))
      ]
    ]
