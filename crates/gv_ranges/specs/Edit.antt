-- A list with a range of pages replaced: by an operation, or by what an older list held there; and a change undone.
use Rattle.std.specs.Prelude.{ℕ, ◌+◌, IsTrue, List, [], ◌∷◌, ◌++◌}
use Rattle.std.specs.List.{All, filter_map, splice}
use Rattle.gv_types.specs.Page.{PAGES}
use Rattle.gv_types.specs.PageRange.{PageRangeState, end_of, lies_in}
use Rattle.gv_types.specs.Mapping.{clip}
use Rattle.gv_types.specs.Operation.{range_of, own_mapping}
use Rattle.gv_types.specs.declared.mapping.Mapping.{Mapping}
use Rattle.gv_types.specs.declared.operation.PageOp.{PageOp}

-- what of a list lies at `low` or above and below `high`
abbrev pub clipped : ℕ → ℕ → List Mapping → List Mapping
clipped low high = filter_map (clip low high)

-- the mappings and rests before the range, the given pieces, and the rests and mappings behind it
abbrev pub replaced : List Mapping → PageRangeState → List Mapping → List Mapping
replaced ms range pieces = clipped 0 range.first ms ++ pieces ++ clipped (end_of range) PAGES ms

-- the list after an operation: its own mapping, if it has one, stands in the range
abbrev pub edited : List Mapping → PageOp → List Mapping
edited ms op = replaced ms (range_of op) (own_mapping op)

-- the list after older mappings came back to a range: the range is cut out as by an unmap, and then the saved
-- mappings are put in, cut to the range and not joined
abbrev pub restored : List Mapping → PageRangeState → List Mapping → List Mapping
restored ms range saved = replaced ms range (clipped range.first (end_of range) saved)

-- each of the mappings lies in the range
abbrev pub LieIn : PageRangeState → List Mapping → Type 0
LieIn range = All (λ m. IsTrue (lies_in m.range range))

-- at most two rests and a mapping stand where an operation was
abbrev pub most_pieces : ℕ
most_pieces = 3

-- what a change took out, where, and how many mappings it put in
pub record Undo : Type 0 where
  pub index : ℕ
  pub put_in : ℕ
  pub taken : List Mapping

-- the run that the change put in, replaced by the mappings that it took out
abbrev pub undone : List Mapping → Undo → List Mapping
undone ms u = splice ms u.index (u.index + u.put_in) u.taken

-- a list edited by some operations, which stand newest first
abbrev pub edited_by_all : List PageOp → List Mapping → List Mapping
edited_by_all [] ms = ms
edited_by_all (op ∷ older) ms = edited (edited_by_all older ms) op
