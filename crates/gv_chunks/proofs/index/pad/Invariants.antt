use Rattle.std.proofs.Common.{◌≡◌, ◌≤◌, length, max, take, vec_len, vec_capacity}
use Rattle.gv_chunks.proofs.index.pad.Given as goal

abbrev pub invariant-loop : goal.invariant-loop
invariant-loop g l = record {
  kept : take (length l.fn.items.items) l.items.items ≡ l.fn.items.items;
  len : vec_len l.items ≡ l.counter;
  room : l.count ≤ vec_capacity l.items;
  at_most : l.counter ≤ max (length l.fn.items.items) l.count;
}
