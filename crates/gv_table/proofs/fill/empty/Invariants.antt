use Rattle.std.proofs.Common.{◌≡◌, ◌<◌, ◌≤◌, ℕ, slice_index_or}
use Rattle.gv_table.specs.Tree.{no_page}
use Rattle.gv_table.proofs.fill.empty.Given as goal

abbrev pub invariant-loop-index : goal.invariant-loop-index
invariant-loop-index l = record {
  made : (k : ℕ) → l.low ≤ k → k < l.index → slice_index_or l.slots k no_page ≡ no_page;
  before : (k : ℕ) → k < l.low → slice_index_or l.slots k no_page ≡ slice_index_or l.initial.slots k no_page;
  behind : (k : ℕ) → l.index ≤ k → slice_index_or l.slots k no_page ≡ slice_index_or l.initial.slots k no_page;
}
