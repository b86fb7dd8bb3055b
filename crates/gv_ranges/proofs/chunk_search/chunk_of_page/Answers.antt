use Rattle.std.proofs.Common.{◌+◌, ◌/◌, arith, refl}
use Rattle.gv_ranges.proofs.ChunkFirstPages.{first_within, first_in_space, halved_chunks}
use Rattle.gv_ranges.proofs.chunk_search.chunk_of_page.Goals as goal

pub bounds-firsts-chunk : goal.bounds-firsts-chunk
bounds-firsts-chunk c =
    let inv = c.loop-remaining.invariant in
    first_within c.args.chunks.now c.args.firsts.now (c.loop-remaining.chunk + c.loop-remaining.remaining / 2) c.requires.filled c.requires.firsts (omega (arith, inv.within))

pub step_past-chunk-requires-clause-first : goal.step_past-chunk-requires-clause-first
step_past-chunk-requires-clause-first c =
    let inv = c.loop-remaining.invariant in
    first_in_space c.args.chunks.now c.args.firsts.now (c.loop-remaining.chunk + c.loop-remaining.remaining / 2) 0 c.requires.filled c.requires.firsts c.requires.laid_out (omega (arith, inv.within))

pub loop-remaining-preserved : goal.loop-remaining-preserved
loop-remaining-preserved c =
    let inv = c.loop-remaining.invariant in
    let next = halved_chunks c.args.chunks.now c.args.firsts.now c.args.page c.loop-remaining.chunk c.loop-remaining.remaining (c.loop-remaining.remaining / 2) _ c.step_past-chunk.result
    c.requires.filled c.requires.firsts c.requires.laid_out inv.within c.loop-remaining-test.true refl inv.ended inv.later c.step_past-chunk.ensures refl in
    record { some = omega arith; within = next.0; ended = next.1; later = next.2 }
