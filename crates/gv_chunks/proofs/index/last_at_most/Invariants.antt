use Rattle.std.proofs.Common.{◌+◌, ◌<◌, ◌≤◌, ℕ, slice_index_or}
use Rattle.gv_chunks.proofs.index.last_at_most.Given as goal

abbrev pub invariant-loop-remaining : goal.invariant-loop-remaining
invariant-loop-remaining l = record {
  some : 0 < l.remaining;
  within : l.low + l.remaining ≤ l.used_count;
  begun : (d : ℕ) → slice_index_or l.starts.numbers l.low d ≤ l.index;
  next : (d : ℕ) → l.low + l.remaining < l.used_count → l.index < slice_index_or l.starts.numbers (l.low + l.remaining) d;
}

abbrev pub decreases-loop-remaining : goal.decreases-loop-remaining
decreases-loop-remaining l = l.remaining
