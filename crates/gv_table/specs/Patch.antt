-- What a list is to say of a range, given by pieces, and where one of its mappings lies.
use Rattle.std.specs.Prelude.{◌≡◌, ◌<◌, ℕ, List, length, slice_index_or}
use Rattle.gv_types.specs.PageRange.{PageRangeState, end_of}
use Rattle.gv_types.specs.declared.mapping.Mapping.{Mapping}
use Rattle.gv_ranges.specs.List.{IsLaidOut}
use Rattle.gv_ranges.specs.Edit.{clipped}

-- one of the list's mappings lies at these pages
pub record HasMappingAt (ms : List Mapping) (pages : PageRangeState) : Type 0 where
  pub index : ℕ
  pub within : index < length ms
  pub here : (d : Mapping) → (slice_index_or ms index d).range ≡ pages

-- the list has in the range what the pieces have there, and one of its mappings lies at the pages of `some`
pub record IsPatched (ms pieces : List Mapping) (range some : PageRangeState) : Type 0 where
  pub laid_out : IsLaidOut ms
  pub inside : clipped range.first (end_of range) ms ≡ clipped range.first (end_of range) pieces
  pub held : HasMappingAt ms some
