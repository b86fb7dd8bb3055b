use Rattle.std.proofs.Common.{sym, subst}
use Rattle.gv_table.specs.BufferNames.{AreNamed}
use Rattle.gv_space.specs.ListWithTable.{ListWithTableState, AreApart}
use Rattle.gv_space.proofs.TableNames.{named-others}
use Rattle.gv_space.proofs.list_with_table.ListWithTable.name.Goals as goal

pub invariant_of-self : goal.invariant_of-self
invariant_of-self c =
    let are = subst (λ (m : ListWithTableState). AreNamed m.names m.mappings) (sym c.self.view_is) c.requires.named in
    c.name.ensures.tree c.self.inside.list.mappings c.self.invariant (named-others c.self.inside.table.names c.name.new.self.names c.args.id.index c.self.inside.list.mappings c.name.ensures.others
    (subst (λ (m : ListWithTableState). AreApart c.args.id.index m.mappings) (sym c.self.view_is) c.requires.apart) are)
