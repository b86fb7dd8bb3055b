use Rattle.std.proofs.Common.{◌≡◌, drop, length, vec_len, vec_capacity}
use Rattle.gv_c.specs.Values.{all_of, op_of}
use Rattle.gv_c.proofs.ListReadLemmas.{after}
use Rattle.gv_c.proofs.request.read_ops.Given as goal

abbrev pub invariant-loop-op : goal.invariant-loop-op
invariant-loop-op l = record {
  ops : all_of op_of l.ops ≡ after l.list.items (all_of op_of (drop l.op-index l.ops));
  len : vec_len l.list ≡ l.op-index;
  room : vec_capacity l.list ≡ length l.ops;
}
