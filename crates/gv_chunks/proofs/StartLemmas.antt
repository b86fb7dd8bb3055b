-- For callers: where the mappings of a chunk stand in the list that the chunks are together.
use Rattle.std.proofs.Common.{◌≡◌, ℕ, [], ◌∷◌, ◌++◌, ◌+◌, ◌∙◌, ◌≤◌, ◌<◌, refl, length, get_or, take, drop, List, slice_index_or, arith, sym, ap}
use Rattle.std.proofs.Math.Seq.{take-append-add, drop-append-add}
use Rattle.std.proofs.lemmas.List.{take_at, drop_at, take_more, append-nil, length-append, get_or-append-add, get_or_append_left, take-take, take-append-le, drop-append-le}
use Rattle.std.specs.Global.{Vec}
use Rattle.gv_types.specs.declared.mapping.Mapping.{Mapping}
use Rattle.gv_chunks.specs.Chunks.{chunks_joined}
use Rattle.gv_chunks.proofs.ChunkLemmas.{joined-append, joined_parts, joined_at}

-- the mappings before a chunk, and those from it on
pub take_start : (xs : List (Vec Mapping)) (i : ℕ) → take (length (chunks_joined (take i xs))) (chunks_joined xs) ≡ chunks_joined (take i xs)
take_start xs i =
    ap (take (length (chunks_joined (take i xs)))) (joined_parts xs i) ∙ take_at (chunks_joined (take i xs)) (chunks_joined (drop i xs)) (length (chunks_joined (take i xs))) refl

pub drop_start : (xs : List (Vec Mapping)) (i : ℕ) → drop (length (chunks_joined (take i xs))) (chunks_joined xs) ≡ chunks_joined (drop i xs)
drop_start xs i =
    ap (drop (length (chunks_joined (take i xs)))) (joined_parts xs i) ∙ drop_at (chunks_joined (take i xs)) (chunks_joined (drop i xs)) (length (chunks_joined (take i xs))) refl

-- how many they are
pub start_within : (xs : List (Vec Mapping)) (i : ℕ) → length (chunks_joined (take i xs)) ≤ length (chunks_joined xs)
start_within xs i = omega (arith, ap length (joined_parts xs i), length-append (chunks_joined (take i xs)) (chunks_joined (drop i xs)))

pub start_rises : (xs : List (Vec Mapping)) (i j : ℕ) → i ≤ j → length (chunks_joined (take i xs)) ≤ length (chunks_joined (take j xs))
start_rises xs i j up =
    let same : take i (take j xs) ≡ take i xs = take-take i j xs up in
    rw same at (start_within (take j xs) i)

module _ (xs : List (Vec Mapping)) (i : ℕ) (d : Vec Mapping) (ms : List Mapping) (within : i < length xs) (is : ms ≡ (slice_index_or xs i d).items) where
  -- the list around a chunk
  around_chunk : chunks_joined xs ≡ chunks_joined (take i xs) ++ (ms ++ chunks_joined (drop (i + 1) xs))
  around_chunk = joined_at xs i d within ∙ ap (λ ns. chunks_joined (take i xs) ++ (ns ++ chunks_joined (drop (i + 1) xs))) (sym is)

  -- the mappings up to the end of a chunk
  pub take_chunk : chunks_joined (take (i + 1) xs) ≡ chunks_joined (take i xs) ++ ms
  take_chunk =
      ap chunks_joined (take_more xs i d within) ∙ (joined-append (take i xs) (slice_index_or xs i d ∷ [])
      ∙ ap (λ ns. chunks_joined (take i xs) ++ ns) (append-nil (slice_index_or xs i d).items ∙ sym is))

  pub end_of_chunk : length (chunks_joined (take (i + 1) xs)) ≡ length (chunks_joined (take i xs)) + length ms
  end_of_chunk = ap length take_chunk ∙ length-append (chunks_joined (take i xs)) ms

  -- the mappings before an index in a chunk, and those from it on
  pub take_in_chunk : (offset : ℕ) → offset ≤ length ms → take (length (chunks_joined (take i xs)) + offset) (chunks_joined xs) ≡ chunks_joined (take i xs) ++ take offset ms
  take_in_chunk offset few =
      ap (take (length (chunks_joined (take i xs)) + offset)) around_chunk
      ∙ (take-append-add (chunks_joined (take i xs)) (ms ++ chunks_joined (drop (i + 1) xs)) offset
      ∙ ap (λ ns. chunks_joined (take i xs) ++ ns) (take-append-le offset ms (chunks_joined (drop (i + 1) xs)) few))

  pub drop_in_chunk : (offset : ℕ) → offset ≤ length ms → drop (length (chunks_joined (take i xs)) + offset) (chunks_joined xs) ≡ drop offset ms ++ chunks_joined (drop (i + 1) xs)
  drop_in_chunk offset few =
      ap (drop (length (chunks_joined (take i xs)) + offset)) around_chunk
      ∙ (drop-append-add (chunks_joined (take i xs)) (ms ++ chunks_joined (drop (i + 1) xs)) offset
      ∙ drop-append-le offset ms (chunks_joined (drop (i + 1) xs)) few)

  pub index_within : (offset : ℕ) → offset ≤ length ms → length (chunks_joined (take i xs)) + offset ≤ length (chunks_joined xs)
  index_within offset few = omega (arith, start_within xs (i + 1), end_of_chunk)

  -- the mapping at an index in a chunk
  pub at_in_chunk : (k : ℕ) (e : Mapping) → k < length ms → get_or (chunks_joined xs) (length (chunks_joined (take i xs)) + k) e ≡ get_or ms k e
  at_in_chunk k e below =
      ap (λ ns. get_or ns (length (chunks_joined (take i xs)) + k) e) around_chunk
      ∙ (get_or-append-add (chunks_joined (take i xs)) (ms ++ chunks_joined (drop (i + 1) xs)) k e
      ∙ get_or_append_left ms (chunks_joined (drop (i + 1) xs)) e k below)
