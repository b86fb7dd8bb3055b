-- A chain of empty tables of single pages.
use Rattle.std.specs.Prelude.{◌≡◌, ℕ, Box, zero, suc, ◌+◌, ◌<◌, Bool, true, false, List, [], slice_index_or, Option, Some, None}
use Rattle.std.specs.Global.{Global}
use Rattle.gv_table.specs.BufferNames.{PageSlot}
use Rattle.gv_table.specs.declared.slot.Slot.{Slot, out-Slot}
use Rattle.gv_table.specs.declared.slot.Slot.TheVariants.{Empty, Pages}
use Rattle.gv_table.specs.declared.slot.Slot.TheOpen as layer
use Rattle.gv_table.specs.declared.slot.Slot.TheFolds.{fold-Slot}
use Rattle.gv_table.specs.Levels.{slots_per_table}
use Rattle.gv_table.specs.Tree.{no_page}

-- the slots of a table of pages are all empty
abbrev pub ArePagesEmpty : List PageSlot → Type 0
ArePagesEmpty slots = (k : ℕ) → k < slots_per_table → slice_index_or slots k no_page ≡ no_page

-- a table of pages is one more than those behind its link
abbrev pub link_step : layer.Slot-F ℕ → ℕ
link_step layer.Empty = 0
link_step (layer.Zero flags) = 0
link_step (layer.Buffer flags id page) = 0
link_step (layer.Pages pages) = 1 + pages.value.1
link_step (layer.Table slots) = 0

-- how many tables of pages a chain has
unfoldable pub pages_linked : Slot → ℕ
pages_linked = fold-Slot ℕ link_step

-- the slots of one layer that is a table of pages, and its link
abbrev pub layer_is_pages : layer.Slot-F Slot → Bool
layer_is_pages layer.Empty = false
layer_is_pages (layer.Zero flags) = false
layer_is_pages (layer.Buffer flags id page) = false
layer_is_pages (layer.Pages pages) = true
layer_is_pages (layer.Table slots) = false

abbrev pub layer_pages : layer.Slot-F Slot → List PageSlot
layer_pages layer.Empty = []
layer_pages (layer.Zero flags) = []
layer_pages (layer.Buffer flags id page) = []
layer_pages (layer.Pages pages) = pages.value.0
layer_pages (layer.Table slots) = []

abbrev pub layer_link : layer.Slot-F Slot → Slot
layer_link layer.Empty = Empty
layer_link (layer.Zero flags) = Empty
layer_link (layer.Buffer flags id page) = Empty
layer_link (layer.Pages pages) = pages.value.1
layer_link (layer.Table slots) = Empty

unfoldable pub is_pages : Slot → Bool
is_pages slot = layer_is_pages (out-Slot slot)

unfoldable pub pages_in : Slot → List PageSlot
pages_in slot = layer_pages (out-Slot slot)

unfoldable pub link_in : Slot → Slot
link_in slot = layer_link (out-Slot slot)

-- some tables of pages, one after another, each empty
unfoldable pub IsPageChain : ℕ → Slot → Type 0
IsPageChain zero slot = slot ≡ Empty
IsPageChain (suc count) slot = (is_pages slot ≡ true) × ArePagesEmpty (pages_in slot) × IsPageChain count (link_in slot)

-- the slot that links to a table, if there is one
abbrev pub pages_link : Option (Box (List PageSlot × Slot) Global) → Slot
pages_link None = Empty
pages_link (Some table) = Pages table
