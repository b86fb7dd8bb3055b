use Rattle.std.proofs.Common.{◌≡◌, length, take}
use Rattle.gv_chunks.specs.Chunks.{chunks_joined, AreStarts, AreFirsts}
use Rattle.gv_chunks.proofs.index.write_index.Given as goal

abbrev pub invariant-loop-k : goal.invariant-loop-k
invariant-loop-k l = record {
  starts : AreStarts l.starts.numbers (take l.k l.chunks);
  firsts : AreFirsts l.firsts (take l.k l.chunks);
  start : l.start ≡ length (chunks_joined (take l.k l.chunks));
  starts_len : length l.starts.numbers ≡ length l.fn.starts.numbers;
  capacities : l.starts.capacities ≡ l.fn.starts.capacities;
  firsts_len : length l.firsts ≡ length l.fn.firsts;
}
