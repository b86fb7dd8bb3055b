-- What an undo value holds, and when it fits.
use Rattle.std.specs.Prelude.{◌≡◌, ℕ, ◌-◌, ◌≤◌, ◌++◌, IsTrue, List, length}
use Rattle.gv_types.specs.PageRange.{PageRangeState, covers}
use Rattle.gv_types.specs.declared.mapping.Mapping.{Mapping}
use Rattle.gv_ranges.specs.List.{at, IsLaidOut, IsOverlappingRun, run}
use Rattle.gv_ranges.specs.Edit.{Undo, LieIn, replaced, undone}
use Rattle.gv_table.specs.declared.page_table.PageTable.{PageTable}
use Rattle.gv_table.specs.declared.kind_counts.KindCounts.{KindCounts}
use Rattle.gv_table.specs.Table.{IsTree, gained_by}
use Rattle.gv_space.specs.Counts.{by_count, counted, less_kept}
use Rattle.gv_space.specs.State.{SpaceState, AreKept}

-- what contracts see of an `OpUndo`: the change of the list, the range that it was made in, and how many tables of
-- each kind that left the tree it owns
pub record OpUndoState : Type 0 where
  pub change : Undo
  pub range : PageRangeState
  pub tables : KindCounts

-- an undo value with these
abbrev pub undo_with : ℕ → ℕ → List Mapping → PageRangeState → KindCounts → OpUndoState
undo_with index put_in taken range tables = record { change = record { index = index; put_in = put_in; taken = taken }; range = range; tables = tables }

-- Some pieces were put in the range of the old list, which made it the new one. The undo value has just the run of the
-- old list that met the range, at its index, and how many mappings stand for it now; and just the tables that the tree
-- of the old list has more than that of the new one.
pub record IsUndoOf (old new : List Mapping) (u : OpUndoState) : Type 0 where
  pub laid_out : IsLaidOut old
  pub pieces : List Mapping
  pub sorted : IsLaidOut pieces
  pub lie : LieIn u.range pieces
  pub made : new ≡ replaced old u.range pieces
  pub met : IsOverlappingRun old u.range u.change.index (length u.change.taken)
  pub taken : u.change.taken ≡ run old u.change.index (length u.change.taken)
  pub put_in : u.change.put_in ≡ length (replaced u.change.taken u.range pieces)
  pub tables : (table : PageTable) → IsTree new table → gained_by old table ≡ u.tables

-- what was taken says of each page of the range what the list before the change said
abbrev pub TookWhatWas : List Mapping → OpUndoState → Type 0
TookWhatWas before u = (page : ℕ) → IsTrue (covers u.range page) → at u.change.taken page ≡ at before page

-- these mappings are among those that undo values hold
pub record AreAmongKept (s : SpaceState) (ms : List Mapping) : Type 0 where
  pub others : List Mapping
  pub are_kept : AreKept s (ms ++ others)

-- the list is the one that the change left, there is room for the one before it, and its mappings are counted
pub record CanRevert (s : SpaceState) (u : OpUndoState) : Type 0 where
  pub undo : IsUndoOf (undone s.mappings u.change) s.mappings u
  pub few : length (undone s.mappings u.change) ≤ s.limits.mappings
  pub room : length (undone s.mappings u.change) ≤ s.room
  pub kept : AreAmongKept s u.change.taken

-- the space once an undo value's mappings are given up: they are kept no longer
abbrev pub released : SpaceState → List Mapping → SpaceState
released s taken = record s { buffers = by_count less_kept taken s.buffers; kept_count = s.kept_count - length taken }

-- the space once a change is undone: the list before it, counted anew, and what was taken out is kept no longer
abbrev pub reverted : SpaceState → OpUndoState → SpaceState
reverted s u =
    let before = undone s.mappings u.change in
    record s {
      mappings = before;
      buffers = by_count counted before (by_count less_kept u.change.taken s.buffers);
      kept_count = s.kept_count - length u.change.taken;
    }
