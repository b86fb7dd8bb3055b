use Rattle.std.proofs.Common.{◌≡◌, drop}
use Rattle.gv_ranges.specs.List.{at}
use Rattle.gv_space.proofs.undo.OpUndo.taken_at.Given as goal

abbrev pub invariant-loop-mapping : goal.invariant-loop-mapping
invariant-loop-mapping l = at l.mapping-items l.page ≡ at (drop l.mapping-index l.mapping-items) l.page
