-- The shape of the tables: how many slots, which levels, how many pages a slot covers.
use Rattle.std.specs.Prelude.{ℕ, ◌+◌, ◌-◌, ◌*◌, ◌<◌, ◌≤◌, ◌^◌, max}
use Rattle.gv_types.specs.PageRange.{PageRangeState, span, end_of}

-- how many slots a table has
abbrev pub slots_per_table : ℕ
slots_per_table = 512

-- the level of the slots of the root
abbrev pub root_level : ℕ
root_level = 4

-- the level of the slot that the root fills: a table with slots at a level fills a slot one level higher
abbrev pub top_level : ℕ
top_level = root_level + 1

-- no slot above this level is a leaf
abbrev pub greatest_leaf_level : ℕ
greatest_leaf_level = 2

-- how many pages a slot at a level covers
unfoldable pub pages_of : ℕ → ℕ
pages_of level = slots_per_table ^ level

-- the pages of a slot at a level that begins at a page
abbrev pub slot_pages : ℕ → ℕ → PageRangeState
slot_pages level first = span first (pages_of level)

-- a slot's first page that is not before the range
abbrev pub first_within : PageRangeState → ℕ → ℕ
first_within range first = max first range.first

-- a range lies in a slot at a level that begins at a page
pub record LiesInSlot (range : PageRangeState) (level first : ℕ) : Type 0 where
  pub from : first ≤ range.first
  pub upto : end_of range ≤ first + pages_of level

-- a range lies in one part of the slot, which is no slot of one page
pub record IsInPart (range : PageRangeState) (level first index : ℕ) : Type 0 where
  pub some : 1 < level
  pub known : index < slots_per_table
  pub part : LiesInSlot range (level - 1) (first + index * pages_of (level - 1))
