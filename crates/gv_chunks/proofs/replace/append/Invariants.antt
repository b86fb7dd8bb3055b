use Rattle.std.proofs.Common.{◌≡◌, ◌+◌, ◌++◌, take, vec_len, vec_capacity}
use Rattle.gv_chunks.proofs.replace.append.Given as goal

abbrev pub invariant-loop-piece : goal.invariant-loop-piece
invariant-loop-piece l = record {
  items : l.items.items ≡ l.fn.items.items ++ take l.piece-index l.pieces;
  len : vec_len l.items ≡ vec_len l.fn.items + l.piece-index;
  room : vec_capacity l.items ≡ vec_capacity l.fn.items;
}
