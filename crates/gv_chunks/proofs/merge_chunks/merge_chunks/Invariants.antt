use Rattle.std.proofs.Common.{◌≡◌, ◌≤◌, ◌<◌, ◌-◌, take, drop, []}
use Rattle.gv_chunks.specs.Chunks.{chunks_joined, AreChunks, AreMergedFrom}
use Rattle.gv_chunks.proofs.merge_chunks.merge_chunks.Given as goal

abbrev pub invariant-loop-k : goal.invariant-loop-k
invariant-loop-k l = record {
  items : chunks_joined l.chunks ≡ chunks_joined l.fn.chunks;
  fewer : l.used_count ≤ l.used;
  ahead : l.k ≤ l.used_count;
  some : 0 < l.used → 0 < l.used_count;
  spare : chunks_joined (drop l.used_count l.chunks) ≡ [];
  merged : AreMergedFrom (l.k - 1) (take l.used_count l.chunks);
  chunks : AreChunks l.chunks;
}
