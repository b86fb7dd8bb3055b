-- When the values of a journal fit an address space.
use Rattle.std.specs.Prelude.{ℕ, Option}
use Rattle.gv_types.specs.declared.mapping.Entry.{Entry}
use Rattle.gv_space.specs.State.{SpaceState, AreKept}
use Rattle.gv_journal.specs.Items.{JournalState, entries}
use Rattle.gv_journal.specs.History.{base, kept_by, Translates, UndoSavesTheView, Rewinds}

-- The list is what the items say over what is below them, each live undo value saves what it has to, the items can be
-- taken back in turn, and all that undo values keep is counted and valid.
pub record FitsOver (s : SpaceState) (j : JournalState) (below : ℕ → Option Entry) : Type 0 where
  pub translates : Translates s.mappings (entries j) below
  pub saves : UndoSavesTheView (entries j) below
  pub rewinds : Rewinds s.limits.mappings s.room j.first s.mappings j.items below
  pub kept : AreKept s (kept_by j.items)

-- so it is over what lies under the oldest item
abbrev pub FitsSpace : SpaceState → JournalState → Type 0
FitsSpace s j = FitsOver s j (base s.mappings j.items)
