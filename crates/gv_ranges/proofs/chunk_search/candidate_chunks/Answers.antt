use Rattle.std.proofs.Common.{◌+◌, ◌*◌, ◌/◌, arith, refl}
use Rattle.gv_ranges.proofs.ChunkFirstPages.{first_within, first_in_space, quartered_chunks}
use Rattle.gv_ranges.proofs.chunk_search.candidate_chunks.Goals as goal

pub bounds-firsts-chunk : goal.bounds-firsts-chunk
bounds-firsts-chunk c =
    let inv = c.loop-remaining.invariant in
    first_within c.args.chunks.now c.args.firsts.now (c.loop-remaining.chunk + c.loop-remaining.remaining / 4) c.requires.filled c.requires.firsts (omega (arith, inv.within))

pub step_past-low-requires-clause-first : goal.step_past-low-requires-clause-first
step_past-low-requires-clause-first c =
    let inv = c.loop-remaining.invariant in
    first_in_space c.args.chunks.now c.args.firsts.now (c.loop-remaining.chunk + c.loop-remaining.remaining / 4) 0 c.requires.filled c.requires.firsts c.requires.laid_out (omega (arith, inv.within))

pub bounds-firsts-chunk-in-loop-remaining : goal.bounds-firsts-chunk-in-loop-remaining
bounds-firsts-chunk-in-loop-remaining c =
    let inv = c.loop-remaining.invariant in
    first_within c.args.chunks.now c.args.firsts.now (c.loop-remaining.chunk + 2 * (c.loop-remaining.remaining / 4)) c.requires.filled c.requires.firsts (omega (arith, inv.within))

pub step_past-middle-requires-clause-first : goal.step_past-middle-requires-clause-first
step_past-middle-requires-clause-first c =
    let inv = c.loop-remaining.invariant in
    first_in_space c.args.chunks.now c.args.firsts.now (c.loop-remaining.chunk + 2 * (c.loop-remaining.remaining / 4)) 0 c.requires.filled c.requires.firsts c.requires.laid_out (omega (arith, inv.within))

pub bounds-firsts-chunk-in-loop-remaining-2 : goal.bounds-firsts-chunk-in-loop-remaining-2
bounds-firsts-chunk-in-loop-remaining-2 c =
    let inv = c.loop-remaining.invariant in
    first_within c.args.chunks.now c.args.firsts.now (c.loop-remaining.chunk + 3 * (c.loop-remaining.remaining / 4)) c.requires.filled c.requires.firsts (omega (arith, inv.within))

pub step_past-high-requires-clause-first : goal.step_past-high-requires-clause-first
step_past-high-requires-clause-first c =
    let inv = c.loop-remaining.invariant in
    first_in_space c.args.chunks.now c.args.firsts.now (c.loop-remaining.chunk + 3 * (c.loop-remaining.remaining / 4)) 0 c.requires.filled c.requires.firsts c.requires.laid_out (omega (arith, inv.within))

pub loop-remaining-preserved : goal.loop-remaining-preserved
loop-remaining-preserved c =
    let inv = c.loop-remaining.invariant in
    let next = quartered_chunks c.args.chunks.now c.args.firsts.now c.args.page c.loop-remaining.chunk c.loop-remaining.remaining (c.loop-remaining.remaining / 4) _
    c.step_past-low.result c.step_past-middle.result c.step_past-high.result
    c.requires.filled c.requires.firsts c.requires.laid_out inv.within c.loop-remaining-test.true refl inv.ended inv.later
    c.step_past-low.ensures c.step_past-middle.ensures c.step_past-high.ensures refl in
    record { some = omega arith; within = next.0; ended = next.1; later = next.2 }
