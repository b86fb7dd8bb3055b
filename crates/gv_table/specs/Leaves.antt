-- Slots that a range is made of, where none is a table and none is to be one.
use Rattle.std.specs.Prelude.{◌≡◌, ◌+◌, ◌*◌, ◌<◌, ◌≤◌, ℕ, false, IsTrue, List}
use Rattle.gv_types.specs.PageRange.{PageRangeState, lies_in}
use Rattle.gv_types.specs.declared.mapping.Mapping.{Mapping}
use Rattle.gv_table.specs.declared.slot.Slot.{Slot}
use Rattle.gv_table.specs.Levels.{pages_of, slot_pages}
use Rattle.gv_table.specs.Tree.{is_table, IsTreeOf}
use Rattle.gv_table.specs.Wanted.{wanted, is_divided}

-- a slot lies whole in the range, and the list wants no table of it
pub record IsWhole (ms : List Mapping) (range : PageRangeState) (level first : ℕ) : Type 0 where
  pub within : IsTrue (lies_in (slot_pages level first) range)
  pub undivided : is_divided (wanted ms level first) ≡ false

-- such are the slots of a run, in a row that begins at the page `first`
abbrev pub AreWhole : List Mapping → PageRangeState → ℕ → ℕ → ℕ → ℕ → Type 0
AreWhole ms range level first low high = (k : ℕ) → low ≤ k → k < high → IsWhole ms range level (first + k * pages_of level)

-- such a slot, which was no table, is what the list wants of it
pub record IsLeafOf (ms : List Mapping) (range : PageRangeState) (level first : ℕ) (old new : Slot) : Type 0 where
  pub whole : IsWhole ms range level first
  pub other : is_table old ≡ false
  pub tree : IsTreeOf ms level first new
