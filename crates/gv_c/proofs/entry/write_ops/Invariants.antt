use Rattle.std.proofs.Common.{◌≡◌, map, take, length}
use Rattle.gv_c.specs.Lists.{written_over}
use Rattle.gv_c.specs.Entries.{c_op}
use Rattle.gv_c.proofs.entry.write_ops.Given as goal

abbrev pub invariant-loop-k : goal.invariant-loop-k
invariant-loop-k l = record {
  long : length l.list ≡ length l.fn.list;
  is : l.list ≡ written_over l.fn.list (take l.k (map c_op l.ops));
}
