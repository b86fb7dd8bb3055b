use Rattle.std.proofs.Common.{◌<◌, ◌≤◌, arith}
use Rattle.gv_ranges.proofs.ChunkedListLemmas.{laid_out-chunk, few_before, All-take_in_chunk, All-drop_in_chunk}
use Rattle.gv_chunks.proofs.StartLemmas.{index_within}
use Rattle.gv_ranges.proofs.chunk_search.count_begun_in.Goals as goal

pub count_begun-count-requires-clause-laid_out : goal.count_begun-count-requires-clause-laid_out
count_begun-count-requires-clause-laid_out c =
    laid_out-chunk c.args.used.chunks.now c.last_begun_chunk-last.result c.index-used-last.result c.deref.result.now c.requires.laid_out c.last_begun_chunk-last.ensures.within
    c.deref.ensures.value

pub overflow_add-result : goal.overflow_add-result
overflow_add-result c =
    let few = few_before c.args.used.chunks.now c.last_begun_chunk-last.result c.count_begun-count.result _ c.index-used-last.result c.deref.result.now c.requires.laid_out c.last_begun_chunk-last.ensures.within
    c.deref.ensures.value c.count_begun-count.ensures.within (c.requires.starts c.last_begun_chunk-last.result 0 c.last_begun_chunk-last.ensures.within).1 in
    omega (arith, few)

pub returns-clause-within : goal.returns-clause-within
returns-clause-within c =
    rw (c.get.ensures 0, (c.requires.starts c.last_begun_chunk-last.result 0 c.last_begun_chunk-last.ensures.within).1)
    (index_within c.args.used.chunks.now c.last_begun_chunk-last.result c.index-used-last.result c.deref.result.now c.last_begun_chunk-last.ensures.within
    c.deref.ensures.value c.count_begun-count.result c.count_begun-count.ensures.within)

pub returns-clause-begun : goal.returns-clause-begun
returns-clause-begun c =
    rw (c.get.ensures 0, (c.requires.starts c.last_begun_chunk-last.result 0 c.last_begun_chunk-last.ensures.within).1)
    (All-take_in_chunk (λ m. m.range.first < c.args.page) c.args.used.chunks.now c.last_begun_chunk-last.result c.count_begun-count.result c.index-used-last.result c.deref.result.now c.last_begun_chunk-last.ensures.within
    c.deref.ensures.value c.count_begun-count.ensures.within c.last_begun_chunk-last.ensures.begun c.count_begun-count.ensures.begun)

pub returns-clause-not_begun : goal.returns-clause-not_begun
returns-clause-not_begun c =
    rw (c.get.ensures 0, (c.requires.starts c.last_begun_chunk-last.result 0 c.last_begun_chunk-last.ensures.within).1)
    (All-drop_in_chunk (λ m. c.args.page ≤ m.range.first) c.args.used.chunks.now c.last_begun_chunk-last.result c.count_begun-count.result c.index-used-last.result c.deref.result.now c.last_begun_chunk-last.ensures.within
    c.deref.ensures.value c.count_begun-count.ensures.within c.count_begun-count.ensures.not_begun c.last_begun_chunk-last.ensures.not_begun)
