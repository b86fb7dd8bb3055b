use Rattle.std.proofs.Common.{◌≡◌, take, drop, length}
use Rattle.gv_c.specs.Lists.{written_over, numbered}
use Rattle.gv_c.proofs.lists.write_outcomes.Given as goal

abbrev pub invariant-loop-k : goal.invariant-loop-k
invariant-loop-k l = record {
  long : length l.list ≡ length l.fn.list;
  is : l.list ≡ written_over l.fn.list (take l.k (drop l.from (numbered l.first l.told)));
}
