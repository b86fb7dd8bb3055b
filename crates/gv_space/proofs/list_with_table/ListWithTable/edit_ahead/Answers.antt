use Rattle.std.proofs.Common.{◌∙◌, refl, rules}
use Rattle.gv_table.specs.Table.{IsTree}
use Rattle.gv_table.proofs.SameTreeLemmas.{tables-gained}
use Rattle.gv_space.proofs.list_with_table.ListWithTable.edit_ahead.Goals as goal

pub returns-clause-tables : goal.returns-clause-tables
returns-clause-tables c = λ done table is.
    let tree : IsTree c.splice_at.new.self.mappings c.try_paint_within.new.self = search rules in
    tables-gained c.splice_at.new.self.mappings c.args.self.now.mappings table c.try_paint_within.new.self is tree ∙
    c.if-not-try_paint_within.ensures.none refl c.args.self.now.mappings (rw (← c.self.view_is) c.len-len.ensures.laid_out) (rw (← c.self.view_is) c.self.invariant)
