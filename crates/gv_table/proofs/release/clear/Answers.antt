use Rattle.std.proofs.Common.{arith, sym, ◌∙◌, ◌≡◌, false}
use Rattle.gv_table.specs.Kinds.{Kind}
use Rattle.gv_table.specs.Tree.{is_table}
use Rattle.gv_table.proofs.TablesInSlots.{tables_in-other, tables_at-other}
use Rattle.gv_table.proofs.release.clear.Goals as goal

pub returns-clause-put : goal.returns-clause-put
returns-clause-put c =
    let other : is_table c.args.slot.now ≡ false = sym c.is_table.ensures ∙ c.if-is_table.false in
    let none = λ (kind : Kind). tables_in-other kind c.args.level c.args.slot.now other in
    λ kind. omega (arith, none kind)

pub returns-clause-counted : goal.returns-clause-counted
returns-clause-counted c = λ target.
    let other : is_table c.args.slot.now ≡ false = sym c.is_table.ensures ∙ c.if-is_table.false in
    let none = tables_at-other target c.args.level c.args.slot.now other in
    omega (arith, none)
