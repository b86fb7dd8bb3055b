use Rattle.std.proofs.Common.{◌∙◌}
use Rattle.gv_table.proofs.SameTreeLemmas.{tables-gained}
use Rattle.gv_space.proofs.list_with_table.ListWithTable.edit_anywhere.Goals as goal

pub returns-clause-tables : goal.returns-clause-tables
returns-clause-tables c =
    λ table is.
    tables-gained c.splice_at.new.self.mappings c.args.self.now.mappings table c.paint.new.table is c.paint.ensures.tree ∙
    c.paint.ensures.back c.args.self.now.mappings (rw (← c.self.view_is) c.len-len.ensures.laid_out) (rw (← c.self.view_is) c.self.invariant)
