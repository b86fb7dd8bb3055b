use Rattle.std.proofs.Common.{◌≡◌, [], refl, subst, sym, ◌∙◌}
use Rattle.gv_table.specs.declared.slot.Slot.{Slot}
use Rattle.gv_table.specs.declared.slot.Slot.TheVariants.{Empty}
use Rattle.gv_table.specs.Named.{named, AreLeavesEncodable}
use Rattle.gv_table.specs.Shape.{IsShaped}
use Rattle.gv_table.specs.Tree.{IsTreeOf}
use Rattle.gv_table.specs.Counts.{tables_at}
use Rattle.gv_table.proofs.TablesInSlots.{tables_at-other}
use Rattle.gv_table.proofs.Named.{named-Empty}
use Rattle.gv_table.proofs.NamedTrees.{empty-encoded}
use Rattle.gv_table.proofs.Shapes.{shaped-other}
use Rattle.gv_table.proofs.Slots.{is_table-Empty}
use Rattle.gv_table.proofs.Trees.{IsTreeOf-nothing}
use Rattle.gv_table.proofs.Wants.{wanted-nothing}
use Rattle.gv_table.proofs.page_table.PageTable.take_down.Goals as goal

pub invariant_of-self : goal.invariant_of-self
invariant_of-self c =
    let emptied = c.free_tables.ensures in
    record {
      counted = λ target. c.new-self-inside.ensures target ∙
          sym (subst (λ (s : Slot). tables_at target 5 s ≡ 0) (sym emptied) (tables_at-other target 5 Empty is_table-Empty));
      shaped = subst (IsShaped 5) (sym emptied) (shaped-other 5 Empty is_table-Empty);
      encoded = subst (AreLeavesEncodable 5) (sym emptied) (empty-encoded 5);
      named = c.self.invariant.named;
    }

pub returns : goal.returns
returns c =
    let names = c.self.inside.names.items in
    subst (λ (s : Slot). IsTreeOf [] 5 0 (named names s)) (sym c.free_tables.ensures)
    (subst (λ (s : Slot). IsTreeOf [] 5 0 s) (sym (named-Empty names)) (IsTreeOf-nothing [] 5 0 Empty (wanted-nothing [] 5 0 refl) refl))
