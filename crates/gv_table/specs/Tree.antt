-- The tree of a list of mappings.
use Rattle.std.specs.Prelude.{◌≡◌, ◌⊎◌, ℕ, zero, suc, ◌+◌, ◌-◌, ◌*◌, ◌/◌, ◌%◌, ◌^◌, ◌<◌, ◌==◌, nat_lt, if◌then◌else◌, Bool, true, false, List, slice_index_or, Option, Some, None}
use Rattle.gv_types.specs.PageRange.{PageRangeState}
use Rattle.gv_types.specs.declared.mapping.Backing.{Backing}
use Rattle.gv_types.specs.declared.mapping.Backing.TheVariants as backing
use Rattle.gv_types.specs.declared.mapping.Entry.{Entry}
use Rattle.gv_types.specs.declared.mapping.Flags.{Flags}
use Rattle.gv_types.specs.Mapping.{buffer_id}
use Rattle.gv_types.specs.declared.mapping.Mapping.{Mapping}
use Rattle.gv_ranges.specs.List.{at, IsLaidOut}
use Rattle.gv_table.specs.declared.wanted.Wanted.{Wanted}
use Rattle.gv_table.specs.declared.wanted.Wanted.TheVariants as variant
use Rattle.gv_table.specs.declared.slot.Slot.{Slot, out-Slot}
use Rattle.gv_table.specs.declared.slot.Slot.TheVariants.{Empty, Zero, Buffer}
use Rattle.gv_table.specs.declared.slot.Slot.TheOpen as layer
use Rattle.gv_table.specs.BufferNames.{PageSlot, AreEncodable}
use Rattle.gv_table.specs.Levels.{slots_per_table, pages_of}
use Rattle.gv_table.specs.Reads.{AreAlikeOutside}
use Rattle.gv_table.specs.Wanted.{wanted}

-- whether one layer of a slot is that of a table
abbrev pub layer_is_table : layer.Slot-F Slot → Bool
layer_is_table layer.Empty = false
layer_is_table (layer.Zero flags) = false
layer_is_table (layer.Buffer flags id page) = false
layer_is_table (layer.Pages pages) = true
layer_is_table (layer.Table slots) = true

-- whether a slot is a table
unfoldable pub is_table : Slot → Bool
is_table slot = layer_is_table (out-Slot slot)

-- the slot of a page of which nothing is encoded
abbrev pub no_page : PageSlot
no_page = 0

-- The slot of a single page, as its number tells it: nothing by 0, else a page in units and a head in 2^40s, which is 1 and 2 for zeros, and
-- from 3 on twice a buffer's index; one more where it is read-only.
abbrev pub decoded_slot : ℕ → ℕ → Slot
decoded_slot head page =
    if nat_lt head 3 then Zero (record { read_only = head == 2 })
    else Buffer (record { read_only = (head - 3) % 2 == 1 }) (buffer_id ((head - 3) / 2) 0) page

unfoldable pub slot_of : PageSlot → Slot
slot_of p = if p == 0 then Empty else decoded_slot (p / 2 ^ 40) (p % 2 ^ 40)

-- a slot of one layer; a slot that is no table has empty ones
abbrev pub layer_child : layer.Slot-F Slot → ℕ → Slot
layer_child layer.Empty index = Empty
layer_child (layer.Zero flags) index = Empty
layer_child (layer.Buffer flags id page) index = Empty
layer_child (layer.Pages pages) index = slot_of (slice_index_or pages.value.0 index no_page)
layer_child (layer.Table slots) index = slice_index_or slots.value index Empty

-- a slot of the slot's table
unfoldable pub child : Slot → ℕ → Slot
child slot index = layer_child (out-Slot slot) index

-- the leaf with these flags and backing
abbrev pub leaf_with : Flags → Backing → Slot
leaf_with flags backing.Zero = Zero flags
leaf_with flags (backing.Buffer id page) = Buffer flags id page

-- the leaf of an entry
unfoldable pub leaf : Entry → Slot
leaf entry = leaf_with entry.flags entry.backing

-- a slot that is no leaf
abbrev pub HasNoEntry : Slot → Type 0
HasNoEntry slot = (slot ≡ Empty) ⊎ (is_table slot ≡ true)

-- the slot of one page
abbrev pub page_slot : Option Entry → Slot
page_slot None = Empty
page_slot (Some entry) = leaf entry

-- a slot that holds what is wanted, where a table also has the right parts
abbrev pub HoldsWanted : Wanted → Slot → Type 0 → Type 0
HoldsWanted variant.Nothing slot Parts = slot ≡ Empty
HoldsWanted (variant.Entry entry) slot Parts = slot ≡ leaf entry
HoldsWanted variant.Table slot Parts = (is_table slot ≡ true) × Parts

-- a slot at a level, with its first page, is that of the tree of the mappings
unfoldable pub IsTreeOf : List Mapping → ℕ → ℕ → Slot → Type 0
IsTreeOf ms zero first slot = slot ≡ page_slot (at ms first)
IsTreeOf ms (suc level) first slot =
    HoldsWanted (wanted ms (suc level) first) slot
    ((k : ℕ) → k < slots_per_table → IsTreeOf ms level (first + k * pages_of level) (child slot k))

-- the slot is that of the tree of a list in order which is like the mappings outside the range
pub record IsTreeOutside (ms : List Mapping) (range : PageRangeState) (level first : ℕ) (slot : Slot) : Type 0 where
  pub earlier : List Mapping
  pub laid_out : IsLaidOut earlier
  pub alike : AreAlikeOutside range earlier ms
  pub tree : IsTreeOf earlier level first slot

-- and that list's buffers can be encoded
pub record IsEncodableOutside (ms : List Mapping) (range : PageRangeState) (level first : ℕ) (slot : Slot) : Type 0 where
  pub earlier : List Mapping
  pub laid_out : IsLaidOut earlier
  pub encoded : AreEncodable earlier
  pub alike : AreAlikeOutside range earlier ms
  pub tree : IsTreeOf earlier level first slot
