use Rattle.std.proofs.Common.{◌≡◌, ◌++◌}
use Rattle.gv_ranges.specs.List.{run}
use Rattle.gv_space.proofs.pieces.copy_run.Given as goal

abbrev pub invariant-loop-mapping : goal.invariant-loop-mapping
invariant-loop-mapping l = record {
  items : l.pieces.items ++ l.mapping-iterator ≡ run l.fn.list.mappings l.fn.overlap.spot.index l.fn.overlap.count;
  can : (goal.iterator-loop-mapping).can_next l.mapping-iterator;
  finite : (goal.iterator-loop-mapping).is_finite l.mapping-iterator;
}
