use Rattle.std.proofs.Common.{◌≡◌, ◌+◌, ◌*◌, ◌<◌, ◌≤◌, ℕ, MatchOption, slice_index_or}
use Rattle.gv_types.specs.Mapping.{part}
use Rattle.gv_table.specs.declared.slot.Slot.TheVariants.{Empty}
use Rattle.gv_table.specs.Levels.{pages_of}
use Rattle.gv_table.specs.Tree.{leaf}
use Rattle.gv_table.proofs.fast_row.fill_leaves.Given as goal

abbrev pub invariant-loop-index : goal.invariant-loop-index
invariant-loop-index l = record {
  filled : (k : ℕ) → l.low ≤ k → k < l.index → MatchOption l.held (slice_index_or l.slots k Empty ≡ Empty)
      (λ m. slice_index_or l.slots k Empty ≡ leaf (part m.now (l.first + k * pages_of l.level)));
  before : (k : ℕ) → k < l.low → slice_index_or l.slots k Empty ≡ slice_index_or l.initial.slots k Empty;
  untouched : (k : ℕ) → l.index ≤ k → slice_index_or l.slots k Empty ≡ slice_index_or l.initial.slots k Empty;
}
