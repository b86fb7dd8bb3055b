use Rattle.std.proofs.Common.{subst}
use Rattle.gv_table.specs.Table.{IsTree}
use Rattle.gv_space.specs.ListWithTable.{ListWithTableState}
use Rattle.gv_space.proofs.list_with_table.ListWithTable.walk.Goals as goal

pub returns-clause-tree : goal.returns-clause-tree
returns-clause-tree c =
    (c.self.inside.table, subst (λ (l : ListWithTableState). IsTree l.mappings c.self.inside.table) c.self.view_is c.self.invariant, c.walk.ensures)
