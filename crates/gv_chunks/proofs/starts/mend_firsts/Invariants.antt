use Rattle.std.proofs.Common.{◌≡◌, ◌+◌, ◌-◌, ◌*◌, ◌/◌, ◌<◌, ◌≤◌, ℕ, length, slice_index_or}
use Rattle.gv_chunks.specs.Starts.{sum_at}
use Rattle.gv_chunks.proofs.starts.mend_firsts.Given as goal

abbrev pub invariant-loop-block : goal.invariant-loop-block
invariant-loop-block l = record {
  low : l.at / 64 + 1 ≤ l.block;
  len : length l.numbers ≡ length l.fn.numbers;
  before : (k d : ℕ) → k ≤ l.at → slice_index_or l.numbers k d ≡ slice_index_or l.fn.numbers k d;
  same_sum : (k d : ℕ) → l.at < k → k < l.block * 64 → k ≤ l.to → sum_at l.bases k (slice_index_or l.numbers k d) ≡ sum_at l.bases (k - 1) (slice_index_or l.fn.numbers k d);
  later : (k d : ℕ) → l.block * 64 ≤ k → slice_index_or l.numbers k d ≡ slice_index_or l.fn.numbers k d;
}
