use Rattle.std.proofs.Common.{◌≡◌, ◌+◌, ◌-◌, ◌*◌, ◌<◌, ◌≤◌, ℕ, slice_index_or}
use Rattle.gv_table.specs.declared.slot.Slot.TheVariants.{Empty}
use Rattle.gv_ranges.specs.List.{AreEnded}
use Rattle.gv_table.specs.Kinds.{Kind, of}
use Rattle.gv_table.specs.Levels.{pages_of, first_within}
use Rattle.gv_table.specs.Sums.{sum_below}
use Rattle.gv_table.specs.Shape.{IsShaped}
use Rattle.gv_table.specs.Tree.{IsTreeOf}
use Rattle.gv_table.specs.Counts.{gained, lost, row_tables_at, count_at}
use Rattle.gv_table.proofs.paint.+paint.Given as goal

abbrev pub decreases-paint_slot : goal.decreases-paint_slot
decreases-paint_slot l = 3 * l.slot_at.level

abbrev pub decreases-paint_row : goal.decreases-paint_row
decreases-paint_row l = 3 * l.slot_at.level + 2

abbrev pub decreases-paint_slots : goal.decreases-paint_slots
decreases-paint_slots l = 3 * l.slot_at.level + 1

abbrev pub decreases-paint_slots-loop-index : goal.decreases-paint_slots-loop-index
decreases-paint_slots-loop-index l = l.high - l.index

abbrev pub invariant-paint_slots-loop-index : goal.invariant-paint_slots-loop-index
invariant-paint_slots-loop-index l = record {
  from : l.initial.index ≤ l.index;
  last : l.index ≤ l.high;
  position : AreEnded l.mappings (first_within l.range (l.first + l.index * pages_of l.level)) l.position;
  painted : (k : ℕ) → k < l.index → IsTreeOf l.mappings l.level (l.first + k * pages_of l.level) (slice_index_or l.slots k Empty);
  untouched : (k : ℕ) → l.index ≤ k → slice_index_or l.slots k Empty ≡ slice_index_or l.initial.slots k Empty;
  shaped : (k : ℕ) → k < 512 → IsShaped l.level (slice_index_or l.slots k Empty);
  enough : (kind : Kind) → sum_below 512 (λ k. gained kind l.mappings l.level (l.first + k * pages_of l.level) (slice_index_or l.slots k Empty)) ≤ of kind l.spares;
  put : (kind : Kind) →
      of kind l.pruned + sum_below 512 (λ k. lost kind l.mappings l.level (l.first + k * pages_of l.level) (slice_index_or l.slots k Empty)) ≡
      of kind l.initial.pruned + sum_below 512 (λ k. lost kind l.mappings l.level (l.first + k * pages_of l.level) (slice_index_or l.initial.slots k Empty));
  present : (target : ℕ) →
      count_at l.counts target + row_tables_at target l.level l.initial.slots ≡ count_at l.initial.counts target + row_tables_at target l.level l.slots;
  taken : (kind : Kind) →
      of kind l.spares + sum_below 512 (λ k. gained kind l.mappings l.level (l.first + k * pages_of l.level) (slice_index_or l.initial.slots k Empty)) ≡
      of kind l.initial.spares + sum_below 512 (λ k. gained kind l.mappings l.level (l.first + k * pages_of l.level) (slice_index_or l.slots k Empty));
}
