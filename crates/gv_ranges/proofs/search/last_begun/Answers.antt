use Rattle.std.proofs.Common.{◌+◌, ◌/◌, ◌≡◌, arith, refl}
use Rattle.gv_ranges.proofs.SearchSteps.{halved}
use Rattle.gv_ranges.proofs.search.last_begun.Goals as goal

pub loop-remaining-preserved : goal.loop-remaining-preserved
loop-remaining-preserved c =
    let inv = c.loop-remaining.invariant in
    let next = halved c.args.mappings.now c.args.page c.loop-remaining.index c.loop-remaining.remaining (c.loop-remaining.remaining / 2)
    _ c.first-first.result c.step_past-index.result c.index-mappings-index.result c.requires.laid_out inv.within c.loop-remaining-test.true refl inv.ended inv.later
    c.index-mappings-index.is c.first-first.ensures.value c.step_past-index.ensures refl in
    record { some = omega arith; within = next.0; ended = next.1; later = next.2 }

pub returns-clause-later : goal.returns-clause-later
returns-clause-later c =
    let one : c.loop-remaining.index + c.loop-remaining.remaining ≡ c.loop-remaining.index + 1 = (let some = c.loop-remaining.invariant.some in omega (arith, some)) in
    rw one at c.loop-remaining.invariant.later
