use Rattle.std.proofs.Common.{arith, ◌-◌, ◌*◌}
use Rattle.gv_types.specs.PageRange.{span}
use Rattle.gv_table.specs.Levels.{pages_of}
use Rattle.gv_table.proofs.PagesOf.{row-past, index-below, over-rises, pages_of-some}
use Rattle.gv_table.proofs.RangesMeet.{meets-bounds}
use Rattle.gv_table.proofs.levels.slots_met.Goals as goal

pub returns-clause-beyond : goal.returns-clause-beyond
returns-clause-beyond c = λ k from below.
    let h = row-past (c.end.result - c.args.first - 1) k (pages_of c.args.level) (pages_of-some c.args.level) (omega arith) in
    let met = meets-bounds (span c.args.first (512 * pages_of c.args.level)) c.args.range c.requires.met in
    omega (arith, h, met)

pub returns-clause-ordered : goal.returns-clause-ordered
returns-clause-ordered c =
    let some = pages_of-some c.args.level in
    let met = meets-bounds (span c.args.first (512 * pages_of c.args.level)) c.args.range c.requires.met in
    let rise = over-rises c.saturating_sub.result (c.end.result - c.args.first - 1) (pages_of c.args.level) some (omega (arith, met)) in
    let few = index-below c.saturating_sub.result (pages_of c.args.level) some (omega (arith, met, some)) in
    omega (arith, rise, few)
