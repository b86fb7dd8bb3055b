-- Undo values spent in turn, the newest first.
use Rattle.std.specs.Prelude.{ℕ, ◌≤◌, List, [], ◌∷◌, ◌++◌, length}
use Rattle.gv_types.specs.declared.mapping.Mapping.{Mapping}
use Rattle.gv_ranges.specs.Edit.{undone}
use Rattle.gv_space.specs.State.{SpaceState}
use Rattle.gv_space.specs.Undo.{OpUndoState, IsUndoOf, reverted}

-- the mappings that undo values keep
abbrev pub taken_by : List OpUndoState → List Mapping
taken_by [] = []
taken_by (u ∷ older) = u.change.taken ++ taken_by older

-- the list once they are undone
abbrev pub undone_by : List Mapping → List OpUndoState → List Mapping
undone_by ms [] = ms
undone_by ms (u ∷ older) = undone_by (undone ms u.change) older

-- the space once they are reverted
abbrev pub reverted_by : SpaceState → List OpUndoState → SpaceState
reverted_by s [] = s
reverted_by s (u ∷ older) = reverted_by (reverted s u) older

-- The undo value took just its run out of the list before, and that list is within the limit and the room.
pub record IsRevertible (limit room : ℕ) (ms : List Mapping) (u : OpUndoState) : Type 0 where
  pub undo : IsUndoOf (undone ms u.change) ms u
  pub few : length (undone ms u.change) ≤ limit
  pub room_for : length (undone ms u.change) ≤ room

-- each of them is, when its turn comes
abbrev pub AreRevertible : ℕ → ℕ → List Mapping → List OpUndoState → Type 0
AreRevertible limit room ms [] = Unit {0}
AreRevertible limit room ms (u ∷ older) = IsRevertible limit room ms u × AreRevertible limit room (undone ms u.change) older
