use Rattle.std.proofs.Common.{sym, ap, ◌∙◌, inl, inr}
use Rattle.gv_types.specs.declared.mapping.BufferId.{BufferId}
use Rattle.gv_table.specs.declared.slot.Slot.TheVariants.{Buffer}
use Rattle.gv_table.specs.Tree.{is_table}
use Rattle.gv_table.proofs.Slots.{is_table-Table, is_table-Pages, leaf-Zero, leaf-Buffer}
use Rattle.gv_table.proofs.slot.Slot.entry.Goals as goal

pub returns-in-Empty : goal.returns-in-Empty
returns-in-Empty c = elim c.in-Empty.is [
  | inl e ↦ inl e
  | inr (inl p) ↦ inr (ap is_table p.1 ∙ is_table-Pages p.0)
  | inr (inr p) ↦ inr (ap is_table p.1 ∙ is_table-Table p.0)
]

pub returns-in-Zero : goal.returns-in-Zero
returns-in-Zero c = c.in-Zero.is ∙ sym (leaf-Zero c.in-Zero.flags)

pub returns-in-Buffer : goal.returns-in-Buffer
returns-in-Buffer c =
    c.in-Buffer.is ∙ ap (λ (d : BufferId). Buffer c.in-Buffer.flags d c.in-Buffer.page) (sym c.id.ensures) ∙ sym (leaf-Buffer c.in-Buffer.flags c.id.result c.in-Buffer.page)
