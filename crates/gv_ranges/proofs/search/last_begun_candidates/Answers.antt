use Rattle.std.proofs.Common.{◌/◌, arith, refl}
use Rattle.gv_ranges.proofs.SearchSteps.{quartered}
use Rattle.gv_ranges.proofs.search.last_begun_candidates.Goals as goal

pub loop-remaining-preserved : goal.loop-remaining-preserved
loop-remaining-preserved c =
    let inv = c.loop-remaining.invariant in
    let next = quartered c.args.mappings.now c.args.page c.loop-remaining.index c.loop-remaining.remaining (c.loop-remaining.remaining / 4) _
    c.first-first.result c.first-second.result c.first-third.result c.step_past-low.result c.step_past-middle.result c.step_past-high.result
    c.index-mappings-index.result c.index-mappings-index-in-loop-remaining.result c.index-mappings-index-in-loop-remaining-2.result
    c.requires.laid_out inv.within c.loop-remaining-test.true refl inv.ended inv.later
    c.index-mappings-index.is c.index-mappings-index-in-loop-remaining.is c.index-mappings-index-in-loop-remaining-2.is
    c.first-first.ensures.value c.first-second.ensures.value
    c.first-third.ensures.value
    c.step_past-low.ensures c.step_past-middle.ensures c.step_past-high.ensures refl in
    record { some = omega arith; within = next.0; ended = next.1; later = next.2 }
