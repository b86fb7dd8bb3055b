-- What a change of the list makes of an address space.
use Rattle.std.specs.Prelude.{◌≡◌, ◌+◌, ◌*◌, ◌≤◌, ◌++◌, List, length, max}
use Rattle.gv_types.specs.declared.mapping.Mapping.{Mapping}
use Rattle.gv_space.specs.Counts.{by_count, counted, more_kept}
use Rattle.gv_space.specs.State.{SpaceState, AreKept}
use Rattle.gv_space.specs.Undo.{OpUndoState, IsUndoOf, CanRevert, reverted}

-- the space with another list, counted anew, and the mappings that were taken out kept in an undo value
abbrev pub changed_to : List Mapping → List Mapping → SpaceState → SpaceState
changed_to ms taken s =
    record s {
      mappings = ms;
      buffers = by_count counted ms (by_count more_kept taken s.buffers);
      kept_count = s.kept_count + length taken;
    }

-- The list became this one, no room was given up, and the undo value fits: it holds what the change took out, and undoing
-- it gives the space before.
pub record IsChanged (old new : SpaceState) (ms : List Mapping) (u : OpUndoState) : Type 0 where
  pub state : new ≡ record (changed_to ms u.change.taken old) { room = new.room }
  pub room : old.room ≤ new.room
  pub undo : IsUndoOf old.mappings new.mappings u
  pub can_revert : CanRevert new u
  pub kept : (others : List Mapping) → AreKept old others → AreKept new (u.change.taken ++ others)
  pub back : reverted new u ≡ record old { room = new.room }

-- Room for a change to this list comes only where it or the list before has none, and then the room is at most the double, or
-- what the longer of both needs.
pub record GrowsJustFor (ms : List Mapping) (old new : SpaceState) : Type 0 where
  pub enough : length old.mappings ≤ old.room → length ms ≤ old.room → new.room ≡ old.room
  pub double_or_need : new.room ≤ max (2 * old.room) (max (length old.mappings) (length ms))
