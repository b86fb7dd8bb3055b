-- A list in order that stands in chunks.
use Rattle.std.proofs.Common.{◌≡◌, ℕ, [], ◌∷◌, ◌++◌, ◌+◌, ◌∙◌, ◌≤◌, ◌<◌, None, refl, length, take, drop, List, slice_index_or, arith, subst, ap}
use Rattle.std.proofs.lemmas.List.{take_at}
use Rattle.std.proofs.lemmas.List.Elements.{All-append}
use Rattle.std.specs.List.{All}
use Rattle.std.specs.Global.{Vec}
use Rattle.gv_types.specs.Page.{PAGES}
use Rattle.gv_types.specs.PageRange.{end_of}
use Rattle.gv_types.specs.declared.mapping.Mapping.{Mapping}
use Rattle.gv_chunks.specs.Chunks.{chunks_joined}
use Rattle.gv_chunks.proofs.ChunkLemmas.{joined_at}
use Rattle.gv_chunks.proofs.StartLemmas.{take_in_chunk, drop_in_chunk, index_within}
use Rattle.gv_ranges.specs.List.{at, IsLaidOut, IsLaidOutFrom, IsIndexOfPage}
use Rattle.gv_ranges.proofs.ClipLemmas.{at-append_none, at-append_left}
use Rattle.gv_ranges.proofs.LookupLemmas.{at_none}
use Rattle.gv_ranges.proofs.OverlapSaysLemmas.{at_begun_past}
use Rattle.gv_ranges.proofs.RestLemmas.{laid_out-drop, laid_out-take}

-- the chunk decides what a page holds where those before it end at the page and those behind it begin past it
pub at-chunk : (xs : List (Vec Mapping)) (page i : ℕ) (d : Vec Mapping) → i < length xs →
    All (λ m. end_of m.range ≤ page) (chunks_joined (take i xs)) → All (λ m. page < m.range.first) (chunks_joined (drop (i + 1) xs)) →
    at (chunks_joined xs) page ≡ at (slice_index_or xs i d).items page
at-chunk xs page i d within ended later =
    let v : List Mapping = (slice_index_or xs i d).items in
    let rest : List Mapping = chunks_joined (drop (i + 1) xs) in
    ap (λ ms. at ms page) (joined_at xs i d within)
    ∙ (at-append_none (chunks_joined (take i xs)) (v ++ rest) page (at_none (chunks_joined (take i xs)) page ended)
    ∙ at-append_left v rest page (at_begun_past rest page later))

-- no chunk holds nothing
pub at-no_chunks : (xs : List (Vec Mapping)) (page : ℕ) → length xs ≡ 0 → at (chunks_joined xs) page ≡ None
at-no_chunks [] page none = refl
at-no_chunks (x ∷ xs) page none = absurd (omega arith)

-- a chunk of a list in order is in order
pub laid_out-chunk : (xs : List (Vec Mapping)) (i : ℕ) (d : Vec Mapping) (ms : List Mapping) → IsLaidOut (chunks_joined xs) → i < length xs →
    ms ≡ (slice_index_or xs i d).items → IsLaidOut ms
laid_out-chunk xs i d ms laid within is =
    let behind : drop (length (chunks_joined (take i xs)) + 0) (chunks_joined xs) ≡ ms ++ chunks_joined (drop (i + 1) xs) = drop_in_chunk xs i d ms within is 0 (omega arith) in
    subst IsLaidOut (ap (take (length ms)) behind ∙ take_at ms (chunks_joined (drop (i + 1) xs)) (length ms) refl)
    (laid_out-take (drop (length (chunks_joined (take i xs)) + 0) (chunks_joined xs)) 0 (length ms) (laid_out-drop (chunks_joined xs) 0 (length (chunks_joined (take i xs)) + 0) laid))

-- what holds before a chunk and of its first mappings, and of its others and behind it
module _ (P : Mapping → Type 0) (xs : List (Vec Mapping)) (i offset : ℕ) (d : Vec Mapping) (ms : List Mapping) (within : i < length xs)
    (is : ms ≡ (slice_index_or xs i d).items) (few : offset ≤ length ms) where
  pub All-take_in_chunk : All P (chunks_joined (take i xs)) → All P (take offset ms) → All P (take (length (chunks_joined (take i xs)) + offset) (chunks_joined xs))
  All-take_in_chunk before here = rw (take_in_chunk xs i d ms within is offset few) (All-append P (chunks_joined (take i xs)) (take offset ms) before here)

  pub All-drop_in_chunk : All P (drop offset ms) → All P (chunks_joined (drop (i + 1) xs)) → All P (drop (length (chunks_joined (take i xs)) + offset) (chunks_joined xs))
  All-drop_in_chunk here behind = rw (drop_in_chunk xs i d ms within is offset few) (All-append P (drop offset ms) (chunks_joined (drop (i + 1) xs)) here behind)

-- a list in order has no more mappings than pages
few_from : (ms : List Mapping) (low : ℕ) → IsLaidOutFrom low ms → low ≤ PAGES → low + length ms ≤ PAGES
few_from [] low laid fits = omega arith
few_from (m ∷ ms) low laid fits =
    let rest : end_of m.range + length ms ≤ PAGES = few_from ms (end_of m.range) laid.2 laid.1.0.1 in
    let some_pages : 0 < m.range.count = laid.1.0.0 in
    omega arith

pub few_mappings : (ms : List Mapping) → IsLaidOut ms → length ms ≤ PAGES
few_mappings ms laid =
    let fits : 0 + length ms ≤ PAGES = few_from ms 0 laid (omega arith) in
    omega (arith, fits)

-- so an index in a chunk is small
pub few_before : (xs : List (Vec Mapping)) (i offset start : ℕ) (d : Vec Mapping) (ms : List Mapping) → IsLaidOut (chunks_joined xs) → i < length xs →
    ms ≡ (slice_index_or xs i d).items → offset ≤ length ms → start ≡ length (chunks_joined (take i xs)) → start + offset ≤ PAGES
few_before xs i offset start d ms laid within is few start_is =
    omega (arith, index_within xs i d ms within is offset few, few_mappings (chunks_joined xs) laid)

-- how many mappings end at a page or before it, by how many of the chunk do that the page lies in
pub indexed-in_chunk : (xs : List (Vec Mapping)) (page i offset start : ℕ) (d : Vec Mapping) (ms : List Mapping) → i < length xs →
    ms ≡ (slice_index_or xs i d).items → IsIndexOfPage ms page offset →
    All (λ m. end_of m.range ≤ page) (chunks_joined (take i xs)) → All (λ m. page < m.range.first) (chunks_joined (drop (i + 1) xs)) →
    start ≡ length (chunks_joined (take i xs)) → IsIndexOfPage (chunks_joined xs) page (start + offset)
indexed-in_chunk xs page i offset start d ms within is indexed ended later start_is =
    let not_ended : All (λ m. page < end_of m.range) (chunks_joined (drop (i + 1) xs)) = λ k e below. let h = later k e below in omega (arith, h) in
    record {
      within = rw start_is (index_within xs i d ms within is offset indexed.within);
      ended = rw start_is (All-take_in_chunk (λ m. end_of m.range ≤ page) xs i offset d ms within is indexed.within ended indexed.ended);
      not_ended = rw start_is (All-drop_in_chunk (λ m. page < end_of m.range) xs i offset d ms within is indexed.within indexed.not_ended not_ended);
    }
