use Rattle.std.proofs.Common.{◌≡◌, ◌∙◌, ◌≤◌, ℕ, arith, ap}
use Rattle.gv_table.specs.Counts.{needed}
use Rattle.gv_table.proofs.Needs.{needed-zero, needed-present}
use Rattle.gv_table.proofs.Slots.{some-table}
use Rattle.gv_table.proofs.needed_tables.needs_none.Goals as goal

pub returns-in-Pages-clause-none : goal.returns-in-Pages-clause-none
returns-in-Pages-clause-none c = λ low kind pieces range first.
    let few : c.args.level ≤ 1 = grind (arith, low) in
    needed-present kind pieces range c.args.level first c.args.slot.now few (some-table c.args.slot.now c.in-Pages.is)

pub returns-in-Empty-clause-none : goal.returns-in-Empty-clause-none
returns-in-Empty-clause-none c = λ zero kind pieces range first.
    let none : c.args.level ≡ 0 = grind (arith, zero) in
    ap (λ (n : ℕ). needed kind pieces range n first c.args.slot.now) none ∙ needed-zero kind pieces range first c.args.slot.now
