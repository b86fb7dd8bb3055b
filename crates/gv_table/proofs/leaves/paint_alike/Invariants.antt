use Rattle.std.proofs.Common.{◌≡◌, ◌≤◌, ◌<◌, ◌+◌, ◌*◌, ℕ, slice_index_or}
use Rattle.gv_table.specs.declared.slot.Slot.TheVariants.{Empty}
use Rattle.gv_table.specs.Kinds.{Kind, of}
use Rattle.gv_table.specs.Levels.{pages_of}
use Rattle.gv_table.specs.Shape.{IsShaped}
use Rattle.gv_table.specs.Tree.{IsTreeOf}
use Rattle.gv_table.specs.Counts.{row_tables_at, count_at, row_gained, row_lost}
use Rattle.gv_table.proofs.leaves.paint_alike.Given as goal

abbrev pub invariant-loop-index : goal.invariant-loop-index
invariant-loop-index l = record {
  painted : (k : ℕ) → l.low ≤ k → k < l.index → IsTreeOf l.excerpt.mappings.now l.level (l.first + k * pages_of l.level) (slice_index_or l.slots k Empty);
  before : (k : ℕ) → k < l.low → slice_index_or l.slots k Empty ≡ slice_index_or l.initial.slots k Empty;
  untouched : (k : ℕ) → l.index ≤ k → slice_index_or l.slots k Empty ≡ slice_index_or l.initial.slots k Empty;
  shaped : (k : ℕ) → k < 512 → IsShaped l.level (slice_index_or l.slots k Empty);
  gained : (kind : Kind) → row_gained kind l.excerpt.mappings.now l.level l.first l.slots ≡ row_gained kind l.excerpt.mappings.now l.level l.first l.initial.slots;
  put : (kind : Kind) → of kind l.pruned + row_lost kind l.excerpt.mappings.now l.level l.first l.slots ≡ of kind l.initial.pruned + row_lost kind l.excerpt.mappings.now l.level l.first l.initial.slots;
  present : (target : ℕ) →
      count_at l.counts target + row_tables_at target l.level l.initial.slots ≡ count_at l.initial.counts target + row_tables_at target l.level l.slots;
}
