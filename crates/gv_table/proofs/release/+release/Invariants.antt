use Rattle.std.proofs.Common.{◌≡◌, ◌+◌, ◌<◌, ℕ, ◌-◌, ◌≤◌, slice_index_or}
use Rattle.gv_table.specs.declared.slot.Slot.TheVariants.{Empty}
use Rattle.gv_table.specs.Kinds.{Kind, of}
use Rattle.gv_table.specs.Sums.{sum_below}
use Rattle.gv_table.specs.Counts.{tables_in, tables_at, count_at}
use Rattle.gv_table.proofs.release.+release.Given as goal

abbrev pub decreases-release : goal.decreases-release
decreases-release l = l.level

abbrev pub invariant-loop-index : goal.invariant-loop-index
invariant-loop-index l = record {
  below : (k : ℕ) → k < l.index → slice_index_or l.slots.value k Empty ≡ Empty;
  above : (k : ℕ) → l.index ≤ k → slice_index_or l.slots.value k Empty ≡ slice_index_or l.initial.slots.value k Empty;
  present : (target : ℕ) →
      count_at l.counts target + sum_below l.index (λ k. tables_at target (l.level - 1) (slice_index_or l.initial.slots.value k Empty)) ≡ count_at l.initial.counts target;
  put : (kind : Kind) → of kind l.pruned ≡ of kind l.initial.pruned + sum_below l.index (λ k. tables_in kind (l.level - 1) (slice_index_or l.initial.slots.value k Empty));
}
