use Rattle.std.proofs.Common.{◌≡◌, ◌≤◌, ◌*◌, ◌-◌, take, drop, length, ◌++◌, []}
use Rattle.gv_chunks.specs.Chunks.{chunks_joined, AreChunks}
use Rattle.gv_chunks.specs.declared.TheConstants.{CHUNK}
use Rattle.gv_chunks.proofs.cut.fill.Given as goal

abbrev pub invariant-loop-i : goal.invariant-loop-i
invariant-loop-i l = record {
  items : chunks_joined (take l.i l.chunks) ++ l.rest ≡ l.pieces;
  room : length l.rest ≤ CHUNK * (length l.chunks - l.i);
  empty : chunks_joined (drop l.i l.chunks) ≡ [];
  chunks : AreChunks l.chunks;
}
