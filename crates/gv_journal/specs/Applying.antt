-- What operations make of an address space.
use Rattle.std.specs.Prelude.{◌≡◌, ℕ, ◌*◌, ◌≤◌, List, [], ◌∷◌, ◌++◌, length, max, reverse, map, filter}
use Rattle.gv_types.specs.Page.{IsPage}
use Rattle.gv_types.specs.PageRange.{PageRangeState, meets}
use Rattle.gv_types.specs.Operation.{range_of, in_pages, view as view_of_ops}
use Rattle.gv_types.specs.declared.mapping.Mapping.{Mapping}
use Rattle.gv_types.specs.declared.operation.Op.{Op}
use Rattle.gv_types.specs.declared.operation.Op.TheVariants.{Map, MapZero, Unmap, UnmapBuffer}
use Rattle.gv_types.specs.declared.operation.PageOp.{PageOp}
use Rattle.gv_types.specs.declared.operation.PageOp.TheVariants.{Unmap as UnmapPages}
use Rattle.gv_ranges.specs.List.{at}
use Rattle.gv_ranges.specs.Edit.{edited, edited_by_all}
use Rattle.gv_space.specs.Counts.{ranges_of}
use Rattle.gv_space.specs.State.{SpaceState, AreKept}
use Rattle.gv_space.specs.Undo.{OpUndoState}
use Rattle.gv_space.specs.Change.{changed_to}
use Rattle.gv_journal.specs.Undoing.{taken_by, undone_by, reverted_by, AreRevertible}
use Rattle.gv_journal.specs.History.{Save, AreUndosOf}

-- the mappings that meet a range
abbrev pub met : List Mapping → PageRangeState → List Mapping
met ms range = filter (λ m. meets m.range range) ms

-- the space after an operation: the list edited, and what met its range kept in an undo value
abbrev pub after_op : SpaceState → PageOp → SpaceState
after_op s op = changed_to (edited s.mappings op) (met s.mappings (range_of op)) s

-- the space after operations
abbrev pub after_all : List PageOp → SpaceState → SpaceState
after_all [] s = s
after_all (op ∷ older) s = after_op (after_all older s) op

-- what an operation of a request does to a list, the first operation first: an unmap of a whole buffer is the unmaps of
-- its mappings, in the order of the list
abbrev pub does : List Mapping → Op → List PageOp
does ms (Map addr len buffer offset flags) = in_pages (Map addr len buffer offset flags) ∷ []
does ms (MapZero addr len flags) = in_pages (MapZero addr len flags) ∷ []
does ms (Unmap addr len) = in_pages (Unmap addr len) ∷ []
does ms (UnmapBuffer id) = map UnmapPages (ranges_of id ms)

-- what the operations of a request do in turn, the first one first
abbrev pub all_do : List Mapping → List Op → List PageOp
all_do ms [] = []
all_do ms (op ∷ ops) = does ms op ++ all_do (edited_by_all (reverse (does ms op)) ms) ops

-- how long the longest list is that operations meet or make in turn, the first operation first
abbrev pub longest : List PageOp → List Mapping → ℕ
longest [] ms = length ms
longest (op ∷ later) ms = max (length ms) (longest later (edited ms op))

-- where there was no room for that, there is now for twice that at most
abbrev pub GrowsFor : List PageOp → SpaceState → SpaceState → Type 0
GrowsFor ops old new = new.room ≤ max old.room (2 * longest ops old.mappings)

-- Changes made the old space the new one, and these undo values take them back.
pub record AreChanges (old new : SpaceState) (us : List OpUndoState) : Type 0 where
  pub room : old.room ≤ new.room
  pub revertible : AreRevertible new.limits.mappings new.room new.mappings us
  pub list : undone_by new.mappings us ≡ old.mappings
  pub kept : (others : List Mapping) → AreKept old others → AreKept new (taken_by us ++ others)
  pub back : reverted_by new us ≡ record old { room = new.room }

-- So did these operations.
pub record AreApplied (old new : SpaceState) (ops : List PageOp) (us : List OpUndoState) : Type 0 where
  pub state : new ≡ record (after_all ops old) { room = new.room }
  pub changes : AreChanges old new us
  pub pages : (page : ℕ) → IsPage page → at new.mappings page ≡ view_of_ops ops (at old.mappings) page
  pub undos : AreUndosOf old.mappings ops us
  pub save : Save ops us (at old.mappings)
