-- A chain of empty tables, linked through their first slots.
use Rattle.std.specs.Prelude.{◌≡◌, ℕ, Box, zero, suc, ◌+◌, ◌<◌, Bool, true, false, List, slice_index_or, Option, Some, None}
use Rattle.std.specs.Global.{Global}
use Rattle.gv_table.specs.declared.slot.Slot.{Slot, out-Slot}
use Rattle.gv_table.specs.declared.slot.Slot.TheVariants.{Empty, Table}
use Rattle.gv_table.specs.declared.slot.Slot.TheOpen as layer
use Rattle.gv_table.specs.declared.slot.Slot.TheFolds.{fold-Slot}
use Rattle.gv_table.specs.Levels.{slots_per_table}
use Rattle.gv_table.specs.Tree.{child}

-- the slots of a table are all empty
abbrev pub AreEmpty : List Slot → Type 0
AreEmpty slots = (k : ℕ) → k < slots_per_table → slice_index_or slots k Empty ≡ Empty

-- a table is one more than the chain in its first slot
abbrev pub length_step : layer.Slot-F ℕ → ℕ
length_step layer.Empty = 0
length_step (layer.Zero flags) = 0
length_step (layer.Buffer flags id page) = 0
length_step (layer.Pages pages) = 0
length_step (layer.Table slots) = 1 + slice_index_or slots.value 0 0

-- how many tables a chain has
unfoldable pub chain_length : Slot → ℕ
chain_length = fold-Slot ℕ length_step

-- whether a slot is a table of other slots
abbrev pub layer_is_slots : layer.Slot-F Slot → Bool
layer_is_slots layer.Empty = false
layer_is_slots (layer.Zero flags) = false
layer_is_slots (layer.Buffer flags id page) = false
layer_is_slots (layer.Pages pages) = false
layer_is_slots (layer.Table slots) = true

unfoldable pub is_slots : Slot → Bool
is_slots slot = layer_is_slots (out-Slot slot)

-- some tables, one after another, each empty but for its first slot
unfoldable pub IsChainOf : ℕ → Slot → Type 0
IsChainOf zero slot = slot ≡ Empty
IsChainOf (suc count) slot =
    (is_slots slot ≡ true) × IsChainOf count (child slot 0) ×
    ((k : ℕ) → 0 < k → k < slots_per_table → child slot k ≡ Empty)

-- the slot that links to a table, if there is one
abbrev pub link_to : Option (Box (List Slot) Global) → Slot
link_to None = Empty
link_to (Some slots) = Table slots
