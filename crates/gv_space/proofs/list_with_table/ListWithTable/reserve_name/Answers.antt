use Rattle.std.proofs.Common.{sym, subst}
use Rattle.gv_table.specs.BufferNames.{AreNamed}
use Rattle.gv_space.specs.ListWithTable.{ListWithTableState}
use Rattle.gv_space.proofs.TableNames.{named-same}
use Rattle.gv_space.proofs.list_with_table.ListWithTable.reserve_name.Goals as goal

pub invariant_of-self : goal.invariant_of-self
invariant_of-self c =
    let are = subst (λ (m : ListWithTableState). AreNamed m.names m.mappings) (sym c.self.view_is) c.requires.named in
    c.reserve_name.ensures.tree c.self.inside.list.mappings c.self.invariant (named-same c.self.inside.table.names c.reserve_name.new.self.names c.self.inside.list.mappings c.reserve_name.ensures.same are)
