-- A tree whose buffers are encoded by their indexes alone, and the ids that stand for these.
use Rattle.std.specs.Prelude.{◌≡◌, ℕ, zero, suc, ◌<◌, List, map, slice_index_or}
use Rattle.gv_types.specs.declared.mapping.Backing.{Backing}
use Rattle.gv_types.specs.declared.mapping.Backing.TheVariants as backing
use Rattle.gv_types.specs.declared.mapping.BufferId.{BufferId}
use Rattle.gv_types.specs.declared.mapping.Entry.{Entry}
use Rattle.gv_table.specs.declared.slot.Slot.{Slot, out-Slot}
use Rattle.gv_table.specs.declared.slot.Slot.TheVariants.{Empty, Zero, Buffer, Table}
use Rattle.gv_table.specs.declared.slot.Slot.TheOpen as layer
use Rattle.gv_table.specs.declared.slot.Slot.TheFolds.{fold-Slot}
use Rattle.gv_table.specs.declared.table_counts.TableCounts.{TableCounts}
use Rattle.gv_table.specs.BufferNames.{PageSlot, IsEncodable, AreNames}
use Rattle.gv_table.specs.Levels.{top_level, slots_per_table, pages_of}
use Rattle.gv_table.specs.Tree.{child, leaf, slot_of}
use Rattle.gv_table.specs.Counts.{tables_at, count_at}
use Rattle.gv_table.specs.Shape.{IsShaped}

-- the id that stands for a buffer's index
abbrev pub named_id : List BufferId → BufferId → BufferId
named_id names id = slice_index_or names id.index id

abbrev pub named_backing : List BufferId → Backing → Backing
named_backing names (backing.Buffer id page) = backing.Buffer (named_id names id) page
named_backing names backing.Zero = backing.Zero

abbrev pub named_entry : List BufferId → Entry → Entry
named_entry names e = record { backing = named_backing names e.backing; flags = e.flags }

-- one layer of a slot of one page
abbrev pub named_page_layer : List BufferId → layer.Slot-F Slot → Slot
named_page_layer names layer.Empty = Empty
named_page_layer names (layer.Zero flags) = Zero flags
named_page_layer names (layer.Buffer flags id page) = Buffer flags (named_id names id) page
named_page_layer names (layer.Pages pages) = Empty
named_page_layer names (layer.Table slots) = Empty

abbrev pub named_page : List BufferId → PageSlot → Slot
named_page names p = named_page_layer names (out-Slot (slot_of p))

-- one layer of a slot, whose parts are named
abbrev pub named_layer : List BufferId → layer.Slot-F Slot → Slot
named_layer names layer.Empty = Empty
named_layer names (layer.Zero flags) = Zero flags
named_layer names (layer.Buffer flags id page) = Buffer flags (named_id names id) page
named_layer names (layer.Pages pages) = Table (record { ptr = pages.ptr; value = map (named_page names) pages.value.0; alloc = pages.alloc })
named_layer names (layer.Table slots) = Table slots

-- the slot with its buffers' ids
unfoldable pub named : List BufferId → Slot → Slot
named names = fold-Slot Slot (named_layer names)

-- each leaf's buffer is encoded by its index alone, and its pages can be encoded
unfoldable pub AreLeavesEncodable : ℕ → Slot → Type 0
AreLeavesEncodable zero slot = (e : Entry) → slot ≡ leaf e → IsEncodable e.backing 1
AreLeavesEncodable (suc level) slot =
    ((e : Entry) → slot ≡ leaf e → IsEncodable e.backing (pages_of (suc level))) ×
    ((k : ℕ) → k < slots_per_table → AreLeavesEncodable level (child slot k))

-- what a page table keeps: the counts are of its tables, and each index is the name of one buffer
pub record IsConsistent (root : Slot) (counts : TableCounts) (names : List BufferId) : Type 0 where
  pub counted : (target : ℕ) → count_at counts target ≡ tables_at target top_level root
  pub shaped : IsShaped top_level root
  pub encoded : AreLeavesEncodable top_level root
  pub named : AreNames names
