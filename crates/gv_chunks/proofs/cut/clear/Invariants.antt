use Rattle.std.proofs.Common.{◌≡◌, take, []}
use Rattle.gv_chunks.specs.Chunks.{chunks_joined, AreChunks}
use Rattle.gv_chunks.proofs.cut.clear.Given as goal

abbrev pub invariant-loop-i : goal.invariant-loop-i
invariant-loop-i l = record {
  items : chunks_joined (take l.i l.chunks) ≡ [];
  chunks : AreChunks l.chunks;
}
