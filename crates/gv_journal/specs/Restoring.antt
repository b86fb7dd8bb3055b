-- For a withdrawal: what undo values took is put back, that of the newest first. No public clause cites this module.
use Rattle.std.specs.Prelude.{◌≡◌, ℕ, ◌*◌, ◌≤◌, if◌then◌else◌, List, [], ◌∷◌, length, max, Option, Some, None}
use Rattle.gv_types.specs.Page.{IsPage}
use Rattle.gv_types.specs.PageRange.{PageRangeState, covers}
use Rattle.gv_types.specs.declared.operation.PageOp.{PageOp}
use Rattle.gv_types.specs.declared.operation.PageOp.TheVariants.{Map, Unmap, UnmapBuffer}
use Rattle.gv_types.specs.declared.fault.Fault.{Fault}
use Rattle.gv_types.specs.declared.mapping.Entry.{Entry}
use Rattle.gv_types.specs.declared.mapping.Mapping.{Mapping}
use Rattle.gv_ranges.specs.List.{at}
use Rattle.gv_ranges.specs.Edit.{restored}
use Rattle.gv_space.specs.State.{SpaceState}
use Rattle.gv_space.specs.Undo.{OpUndoState, IsUndoOf}
use Rattle.gv_space.specs.Refusal.{first_of, limit_fault}
use Rattle.gv_space.specs.Change.{changed_to}
use Rattle.gv_journal.specs.Applying.{met, AreChanges}

-- the space once what an undo value took is put back
abbrev pub after_put : SpaceState → OpUndoState → SpaceState
after_put s u = changed_to (restored s.mappings u.range u.change.taken) (met s.mappings u.range) s

abbrev pub after_puts : List OpUndoState → SpaceState → SpaceState
after_puts [] s = s
after_puts (u ∷ older) s = after_puts older (after_put s u)

-- the first limit that is passed meanwhile
abbrev pub put_limits : List OpUndoState → SpaceState → Option Fault
put_limits [] s = None
put_limits (u ∷ older) s =
    first_of (limit_fault s u.range (restored s.mappings u.range u.change.taken)) (put_limits older (after_put s u))

-- what a page holds then
abbrev pub put_back : List OpUndoState → ℕ → Option Entry → Option Entry
put_back [] page now = now
put_back (u ∷ older) page now = put_back older page (if covers u.range page then at u.change.taken page else now)

-- They were put back, and these undo values take that back.
pub record ArePutBack (old new : SpaceState) (saved fresh : List OpUndoState) : Type 0 where
  pub state : new ≡ record (after_puts saved old) { room = new.room }
  pub changes : AreChanges old new fresh
  pub pages : (page : ℕ) → IsPage page → at new.mappings page ≡ put_back saved page (at old.mappings page)

-- the list once what undo values took is put back
abbrev pub list_after_puts : List OpUndoState → List Mapping → List Mapping
list_after_puts [] ms = ms
list_after_puts (u ∷ older) ms = list_after_puts older (restored ms u.range u.change.taken)

-- how long the longest of the lists on the way is, and the room that this makes
abbrev pub longest_of_puts : List OpUndoState → List Mapping → ℕ
longest_of_puts [] ms = length ms
longest_of_puts (u ∷ older) ms = max (length ms) (longest_of_puts older (restored ms u.range u.change.taken))

abbrev pub GrowsForPuts : List OpUndoState → SpaceState → SpaceState → Type 0
GrowsForPuts us old new = new.room ≤ max old.room (2 * longest_of_puts us old.mappings)

-- the undo values of that, in the order in which they were put back
abbrev pub AreUndosOfPuts : List Mapping → List OpUndoState → List OpUndoState → Type 0
AreUndosOfPuts ms [] [] = Unit {0}
AreUndosOfPuts ms (u ∷ older) (fresh ∷ later) =
    (fresh.range ≡ u.range)
    × IsUndoOf ms (restored ms u.range u.change.taken) fresh
    × AreUndosOfPuts (restored ms u.range u.change.taken) older later
AreUndosOfPuts ms [] (fresh ∷ later) = ⊥
AreUndosOfPuts ms (u ∷ older) [] = ⊥

-- the pages of an operation, if it names any
abbrev pub pages_named : PageOp → Option PageRangeState
pages_named (Map range backing flags) = Some range
pages_named (Unmap range) = Some range
pages_named (UnmapBuffer buffer) = None
