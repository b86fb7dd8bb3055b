use Rattle.std.proofs.Common.{◌≡◌, ◌∙◌, ℕ, zero, suc, true, false, sym, ap}
use Rattle.gv_table.specs.declared.slot.Slot.{Slot}
use Rattle.gv_table.specs.declared.slot.Slot.TheVariants.{Empty}
use Rattle.gv_table.specs.Chain.{IsChainOf, is_slots}
use Rattle.gv_table.proofs.Slots.{no-table, no-slots, is_slots-Pages}
use Rattle.gv_table.proofs.chain.linked.Goals as goal

-- a chain whose first slot is no table of slots is none
no_link : (count : ℕ) (slot : Slot) → IsChainOf count slot → is_slots slot ≡ false → Empty ≡ slot
unfolding IsChainOf
no_link zero slot chain other = sym chain
no_link (suc count) slot chain other = let bad : true ≡ false = sym chain.0 ∙ other in cc

pub returns-in-Pages : goal.returns-in-Pages
returns-in-Pages c = λ count chain. no_link count c.args.slot chain (ap is_slots c.in-Pages.is ∙ is_slots-Pages c.in-Pages.field-0)

pub returns : goal.returns
returns c = λ count chain. no_link count c.args.slot chain (no-slots _ (no-table _ c.in-Empty.is))
