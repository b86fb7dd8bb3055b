use Rattle.std.proofs.Common.{◌≡◌, ◌++◌, take}
use Rattle.gv_types.specs.PageRange.{end_of}
use Rattle.gv_ranges.specs.Edit.{clipped}
use Rattle.gv_space.proofs.pieces.push_clipped.Given as goal

abbrev pub invariant-loop-mapping : goal.invariant-loop-mapping
invariant-loop-mapping l = l.pieces.items ≡ l.initial.pieces.items ++ clipped l.range.first (end_of l.range) (take l.mapping-index l.saved)
