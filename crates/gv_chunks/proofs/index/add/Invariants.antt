use Rattle.std.proofs.Common.{◌≡◌, ◌+◌, ◌%◌, ◌^◌, ◌<◌, ◌≤◌, ℕ, max, length, slice_index_or}
use Rattle.gv_chunks.proofs.index.add.Given as goal

abbrev pub invariant-loop-k : goal.invariant-loop-k
invariant-loop-k l = record {
  high : l.k ≤ max l.from l.to;
  len : length l.numbers ≡ length l.fn.numbers;
  added : (j d : ℕ) → l.from ≤ j → j < l.k → slice_index_or l.numbers j d ≡ (slice_index_or l.fn.numbers j d + l.more) % 2 ^ 64;
  before : (j d : ℕ) → j < l.from → slice_index_or l.numbers j d ≡ slice_index_or l.fn.numbers j d;
  later : (j d : ℕ) → l.k ≤ j → slice_index_or l.numbers j d ≡ slice_index_or l.fn.numbers j d;
}
