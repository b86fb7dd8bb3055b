-- What a change of the list needs before it is made. No public clause cites this module.
use Rattle.std.specs.Prelude.{◌≡◌, ℕ, ◌+◌, ◌≤◌, List, length}
use Rattle.std.specs.List.{All}
use Rattle.gv_types.specs.PageRange.{PageRangeState}
use Rattle.gv_types.specs.declared.mapping.Mapping.{Mapping}
use Rattle.gv_ranges.specs.List.{IsLaidOut, IsOverlappingRun, run}
use Rattle.gv_ranges.specs.Edit.{LieIn, replaced}
use Rattle.gv_space.specs.State.{SpaceState, IsValidMapping, most_kept}

-- The run that meets a range is to give way to the pieces inside it and the rests on both sides. There is room for them,
-- and no limit is passed.
pub record IsReady (inside : List Mapping) (s : SpaceState) (range : PageRangeState) (index : ℕ) (taken pieces : List Mapping) : Type 0 where
  pub sorted : IsLaidOut inside
  pub lie : LieIn range inside
  pub valid : All (IsValidMapping s.area s.buffers) inside
  pub met : IsOverlappingRun s.mappings range index (length taken)
  pub taken_is : taken ≡ run s.mappings index (length taken)
  pub pieces_are : pieces ≡ replaced taken range inside
  pub room : length s.mappings + length pieces ≤ s.room + length taken
  pub old_room : length s.mappings ≤ s.room
  pub few : length (replaced s.mappings range inside) ≤ s.limits.mappings
  pub few_kept : s.kept_count + length taken ≤ most_kept
