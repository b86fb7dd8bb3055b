use Rattle.std.proofs.Common.{◌≡◌, map, take, drop, length}
use Rattle.gv_c.specs.Lists.{written_over}
use Rattle.gv_c.specs.Past.{c_past}
use Rattle.gv_c.proofs.past.write_entries.Given as goal

abbrev pub invariant-loop-k : goal.invariant-loop-k
invariant-loop-k l = record {
  long : length l.list ≡ length l.fn.list;
  is : l.list ≡ written_over l.fn.list (take l.k (drop l.from (map c_past l.past)));
}
