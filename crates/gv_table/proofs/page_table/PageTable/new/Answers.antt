use Rattle.std.proofs.Common.{◌≡◌, List, [], refl, arith, sym, subst, ◌∙◌}
use Rattle.gv_types.specs.declared.mapping.BufferId.{BufferId}
use Rattle.gv_table.specs.declared.slot.Slot.{Slot}
use Rattle.gv_table.specs.declared.slot.Slot.TheVariants.{Empty}
use Rattle.gv_table.specs.BufferNames.{AreNames}
use Rattle.gv_table.specs.Tree.{IsTreeOf}
use Rattle.gv_table.proofs.TablesInSlots.{tables_at-other}
use Rattle.gv_table.proofs.Named.{named-Empty}
use Rattle.gv_table.proofs.NamedTrees.{empty-encoded}
use Rattle.gv_table.proofs.Shapes.{shaped-other}
use Rattle.gv_table.proofs.Slots.{is_table-Empty}
use Rattle.gv_table.proofs.Wants.{wanted-nothing}
use Rattle.gv_table.proofs.Trees.{IsTreeOf-nothing}
use Rattle.gv_table.proofs.page_table.PageTable.new.Goals as goal

pub returns : goal.returns
returns c = subst (λ (s : Slot). IsTreeOf [] 5 0 s) (sym (named-Empty c.new-2.result.items)) (IsTreeOf-nothing [] 5 0 Empty (wanted-nothing [] 5 0 refl) refl)

none : (names : List BufferId) → names ≡ [] → AreNames names
none names e = rw e (record { few = omega arith; indexed = λ k d below. absurd (omega arith) })

pub invariant_of-result : goal.invariant_of-result
invariant_of-result c = record {
  counted = λ target. c.new.ensures target ∙ sym (tables_at-other target 5 Empty is_table-Empty);
  shaped = shaped-other 5 Empty is_table-Empty;
  encoded = empty-encoded 5;
  named = none c.new-2.result.items c.new-2.ensures.items;
}
