use Rattle.std.proofs.Common.{ap, sym, subst}
use Rattle.gv_table.specs.declared.slot.Slot.{Slot}
use Rattle.gv_table.specs.Table.{PageTable}
use Rattle.gv_table.specs.Tree.{IsTreeOf}
use Rattle.gv_table.proofs.NamedTrees.{named-tree, unnamed-tree, present-named}
use Rattle.gv_table.proofs.page_table.PageTable.reserve_name.Goals as goal

pub returns-clause-tree : goal.returns-clause-tree
returns-clause-tree c = λ ms tree are.
    named-tree c.extend_names.new.names.items ms 5 0 c.self.inside.root are
    (unnamed-tree c.self.inside.names.items c.self.invariant.named ms 5 0 c.self.inside.root c.self.invariant.encoded
    (subst (λ (s : Slot). IsTreeOf ms 5 0 s) (sym (ap (λ (t : PageTable). t.root) c.self.view_is)) tree))

pub returns-clause-present : goal.returns-clause-present
returns-clause-present c = present-named _ c.self.inside.root c.args.self.now c.self.inside.names.items (ap (λ (t : PageTable). t.root) c.self.view_is)
