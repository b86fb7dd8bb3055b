use Rattle.std.proofs.Common.{◌≡◌, ◌+◌, arith, ◌∙◌, length, take}
use Rattle.gv_ranges.specs.List.{IsIndexOfPage}
use Rattle.gv_chunks.specs.Chunks.{chunks_joined}
use Rattle.gv_ranges.proofs.ChunkedListLemmas.{laid_out-chunk, few_before, indexed-in_chunk}
use Rattle.gv_ranges.proofs.SearchSteps.{indices_rise, run_between}
use Rattle.gv_ranges.proofs.chunk_search.overlap_in.Goals as goal

pub count_ended-ended-requires-clause-laid_out : goal.count_ended-ended-requires-clause-laid_out
count_ended-ended-requires-clause-laid_out c =
    laid_out-chunk c.args.used.chunks.now c.chunk_of_page-hint.result c.index-used-hint.result c.deref.result.now c.requires.laid_out c.chunk_of_page-hint.ensures.within
    c.deref.ensures.value

pub overflow_add-index : goal.overflow_add-index
overflow_add-index c =
    let few = few_before c.args.used.chunks.now c.chunk_of_page-hint.result c.count_ended-ended.result _ c.index-used-hint.result c.deref.result.now c.requires.laid_out c.chunk_of_page-hint.ensures.within
    c.deref.ensures.value c.count_ended-ended.ensures.within (c.requires.starts c.chunk_of_page-hint.result 0 c.chunk_of_page-hint.ensures.within).1 in
    omega (arith, few)

-- how many mappings end before the range
indexed : (c : goal.After-count_begun_in-behind) → IsIndexOfPage (chunks_joined c.args.used.chunks.now) c.args.range.first (c.get.result + c.count_ended-ended.result)
indexed c =
    indexed-in_chunk c.args.used.chunks.now c.args.range.first c.chunk_of_page-hint.result c.count_ended-ended.result _ c.index-used-hint.result c.deref.result.now c.chunk_of_page-hint.ensures.within
    c.deref.ensures.value (rw c.first-2.ensures.value at c.count_ended-ended.ensures)
    (rw c.first.ensures.value at c.chunk_of_page-hint.ensures.ended) (rw c.first.ensures.value at c.chunk_of_page-hint.ensures.later)
    (c.get.ensures 0 ∙ (c.requires.starts c.chunk_of_page-hint.result 0 c.chunk_of_page-hint.ensures.within).1)

pub overflow_sub-result : goal.overflow_sub-result
overflow_sub-result c =
    indices_rise (chunks_joined c.args.used.chunks.now) c.args.range _ c.count_begun_in-behind.result c.requires.laid_out c.first.ensures.in_space (indexed c) c.count_begun_in-behind.ensures.within
    (rw c.end.ensures.value at c.count_begun_in-behind.ensures.not_begun)

pub returns-clause-run : goal.returns-clause-run
returns-clause-run c =
    run_between (chunks_joined c.args.used.chunks.now) c.args.range _ c.count_begun_in-behind.result c.requires.laid_out c.first.ensures.in_space (indexed c.before.before) c.count_begun_in-behind.ensures.within
    (rw c.end.ensures.value at c.count_begun_in-behind.ensures.not_begun) (rw c.end.ensures.value at c.count_begun_in-behind.ensures.begun)

pub returns-clause-block : goal.returns-clause-block
returns-clause-block c =
    let start : c.get.result ≡ length (chunks_joined (take c.chunk_of_page-hint.result c.args.used.chunks.now)) =
    c.get.ensures 0 ∙ (c.requires.starts c.chunk_of_page-hint.result 0 c.chunk_of_page-hint.ensures.within).1 in
    rw start c.piece_of.ensures.value
