use Rattle.std.proofs.Common.{◌≡◌, ◌-◌, ◌<◌, ◌≤◌, ℕ, slice_index_or}
use Rattle.gv_types.specs.Mapping.{entry_advanced, HasSmallPages}
use Rattle.gv_table.specs.BufferNames.{IsEncodable}
use Rattle.gv_table.specs.Tree.{leaf, slot_of, no_page}
use Rattle.gv_table.proofs.fill.fill.Given as goal

abbrev pub invariant-loop-index : goal.invariant-loop-index
invariant-loop-index l = record {
  made : HasSmallPages l.entry.backing (l.high - l.low) → IsEncodable l.entry.backing (l.high - l.low) → (k : ℕ) → l.low ≤ k → k < l.index → slot_of (slice_index_or l.slots k no_page) ≡ leaf (entry_advanced l.entry (k - l.low));
  before : (k : ℕ) → k < l.low → slice_index_or l.slots k no_page ≡ slice_index_or l.initial.slots k no_page;
  behind : (k : ℕ) → l.index ≤ k → slice_index_or l.slots k no_page ≡ slice_index_or l.initial.slots k no_page;
}
