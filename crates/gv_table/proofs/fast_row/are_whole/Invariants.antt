use Rattle.std.proofs.Common.{◌+◌, ◌-◌, ◌*◌}
use Rattle.gv_ranges.specs.List.{AreEnded}
use Rattle.gv_table.specs.Leaves.{AreWhole}
use Rattle.gv_table.specs.Levels.{pages_of, first_within}
use Rattle.gv_table.proofs.fast_row.are_whole.Given as goal

abbrev pub decreases-loop-index : goal.decreases-loop-index
decreases-loop-index l = l.high - l.index

abbrev pub invariant-loop-index : goal.invariant-loop-index
invariant-loop-index l = record {
  position : AreEnded l.mappings (first_within l.range (l.first + l.index * pages_of l.level)) l.position;
  whole : AreWhole l.mappings l.range l.level l.first l.low l.index;
}
