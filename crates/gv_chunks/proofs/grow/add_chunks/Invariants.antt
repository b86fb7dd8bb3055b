use Rattle.std.proofs.Common.{◌≡◌, ◌+◌, ◌-◌, ◌≤◌, [], length, max, take, drop, vec_len, vec_capacity}
use Rattle.gv_chunks.specs.Chunks.{chunks_joined, AreChunks}
use Rattle.gv_chunks.proofs.grow.add_chunks.Given as goal

abbrev pub invariant-loop : goal.invariant-loop
invariant-loop l = record {
  len : vec_len l.chunks ≡ l.counter;
  most : l.counter ≤ max (length l.fn.chunks.items) l.count;
  more : length l.fn.chunks.items ≤ l.counter;
  room : vec_len l.chunks + (l.count - l.counter) ≤ vec_capacity l.chunks;
  kept : take (length l.fn.chunks.items) l.chunks.items ≡ l.fn.chunks.items;
  spare : chunks_joined (drop (length l.fn.chunks.items) l.chunks.items) ≡ [];
  chunks : AreChunks l.fn.chunks.items → AreChunks l.chunks.items;
}
