use Rattle.std.proofs.Common.{◌+◌, ◌<◌, length, slice_index_or, arith, sym}
use Rattle.std.proofs.lemmas.Bool.{eqb-true}
use Rattle.std.proofs.lemmas.List.{get_or_default}
use Rattle.gv_ranges.proofs.ChunkedListLemmas.{laid_out-chunk}
use Rattle.gv_ranges.proofs.EndingAfterLemmas.{behind_past, behind_no_chunks, behind_in_chunk, behind_next_chunk, behind_last_chunk}
use Rattle.gv_ranges.proofs.chunk_search.first_ending_after_of.Goals as goal
use Rattle.gv_ranges.proofs.chunk_search.first_ending_after_of.Goals.{then-page-ge-SPACE_PAGES-via-then-page-ge-SPACE_PAGES, then-page-ge-SPACE_PAGES-via-else-page-ge-SPACE_PAGES+then-is_empty}

pub first_ending_after_in-requires-clause-laid_out : goal.first_ending_after_in-requires-clause-laid_out
first_ending_after_in-requires-clause-laid_out c =
    laid_out-chunk c.args.used.chunks.now c.chunk_of_page-chunk.result c.index-used-chunk.result c.deref.result.now c.requires.laid_out c.chunk_of_page-chunk.ensures.within
    c.deref.ensures.value

pub returns-then-page-ge-SPACE_PAGES : goal.returns-then-page-ge-SPACE_PAGES
returns-then-page-ge-SPACE_PAGES c =
    elim c.then-page-ge-SPACE_PAGES.branch [
      | then-page-ge-SPACE_PAGES-via-then-page-ge-SPACE_PAGES w ↦ behind_past _ 0 c.args.page c.requires.laid_out w.if-page-ge-SPACE_PAGES.true
      | then-page-ge-SPACE_PAGES-via-else-page-ge-SPACE_PAGES+then-is_empty w ↦ behind_no_chunks c.args.used.chunks.now c.args.page (eqb-true _ _ (sym w.if-is_empty.ensures))
    ]

pub returns-in-Some : goal.returns-in-Some
returns-in-Some c =
    behind_in_chunk c.args.used.chunks.now c.args.page c.chunk_of_page-chunk.result c.index-used-chunk.result c.deref.result.now c.chunk_of_page-chunk.ensures.within
    c.deref.ensures.value c.chunk_of_page-chunk.ensures.ended c.in-Some.m.now c.in-Some.ensures

pub returns-then-chunk-used : goal.returns-then-chunk-used
returns-then-chunk-used c =
    let d = c.index-used-chunk.result in
    let i = c.chunk_of_page-chunk.result in
    let v = slice_index_or c.args.used.chunks.now (i + 1) d in
    let some : 0 < length v.items = omega (arith, c.requires.filled (i + 1) d (omega arith), v.ok) in
    let same = get_or_default c.args.used.chunks.now (i + 1) d c.index-used-chunk-then-chunk-used.result (omega arith) in
    behind_next_chunk c.args.used.chunks.now c.args.page i d c.deref.result.now c.chunk_of_page-chunk.ensures.within
    c.deref.ensures.value c.chunk_of_page-chunk.ensures.ended c.index.result.now c.in_default.ensures (omega arith) some
    (rw same c.index.ensures) c.chunk_of_page-chunk.ensures.later

pub returns : goal.returns
returns c =
    behind_last_chunk c.args.used.chunks.now c.args.page c.chunk_of_page-chunk.result c.index-used-chunk.result c.deref.result.now c.chunk_of_page-chunk.ensures.within
    c.deref.ensures.value c.chunk_of_page-chunk.ensures.ended c.in_default.ensures (omega arith)
