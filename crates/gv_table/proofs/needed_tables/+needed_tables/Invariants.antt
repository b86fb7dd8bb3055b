use Rattle.std.proofs.Common.{◌≡◌, ◌≤◌, ◌+◌, ◌-◌, ◌*◌}
use Rattle.gv_ranges.specs.List.{AreEnded}
use Rattle.gv_table.specs.Kinds.{Kind, of}
use Rattle.gv_table.specs.Levels.{pages_of, first_within}
use Rattle.gv_table.specs.Sums.{sum_below}
use Rattle.gv_table.specs.Tree.{child}
use Rattle.gv_table.specs.Counts.{needed}
use Rattle.gv_table.proofs.needed_tables.+needed_tables.Given as goal

abbrev pub decreases-needed_in : goal.decreases-needed_in
decreases-needed_in l = 2 * l.slot_at.level

abbrev pub decreases-needed_below : goal.decreases-needed_below
decreases-needed_below l = 2 * l.slot_at.level + 1

abbrev pub decreases-needed_below-loop-index : goal.decreases-needed_below-loop-index
decreases-needed_below-loop-index l = l.high - l.index

abbrev pub invariant-needed_below-loop-index : goal.invariant-needed_below-loop-index
invariant-needed_below-loop-index l = record {
  position : AreEnded l.pieces (first_within l.range (l.first + l.index * pages_of l.level)) l.position;
  counted : (kind : Kind) → of kind l.total ≡ sum_below l.index (λ k. needed kind l.pieces l.range l.level (l.first + k * pages_of l.level) (child l.slot k));
  bound : (kind : Kind) → of kind l.total + l.index ≤ l.index * pages_of l.level;
  last : l.index ≤ l.high;
}
