use Rattle.std.proofs.Common.{◌≡◌, ◌+◌, ◌-◌, ◌*◌, ◌<◌, ◌≤◌, ℕ, slice_index_or}
use Rattle.gv_ranges.specs.List.{AreEnded}
use Rattle.gv_table.specs.declared.slot.Slot.TheVariants.{Empty}
use Rattle.gv_table.specs.Levels.{pages_of, first_within}
use Rattle.gv_table.specs.Tree.{IsTreeOf}
use Rattle.gv_table.proofs.fast_row.put_leaves.Given as goal

abbrev pub decreases-loop-index : goal.decreases-loop-index
decreases-loop-index l = l.high - l.index

abbrev pub invariant-loop-index : goal.invariant-loop-index
invariant-loop-index l = record {
  from : l.low ≤ l.index;
  last : l.index ≤ l.high;
  position : AreEnded l.mappings (first_within l.range (l.first + l.index * pages_of l.level)) l.position;
  painted : (k : ℕ) → l.low ≤ k → k < l.index → IsTreeOf l.mappings l.level (l.first + k * pages_of l.level) (slice_index_or l.slots k Empty);
  before : (k : ℕ) → k < l.low → slice_index_or l.slots k Empty ≡ slice_index_or l.initial.slots k Empty;
  untouched : (k : ℕ) → l.index ≤ k → slice_index_or l.slots k Empty ≡ slice_index_or l.initial.slots k Empty;
}
