use Rattle.std.proofs.Common.{◌≡◌, ◌+◌, map, take, drop, length}
use Rattle.gv_c.specs.Lists.{written_over}
use Rattle.gv_c.specs.Values.{c_mapping}
use Rattle.gv_c.proofs.lists.write_run.Given as goal

abbrev pub invariant-loop-mapping : goal.invariant-loop-mapping
invariant-loop-mapping l = record {
  long : length l.list ≡ length l.fn.list;
  at : l.k + length l.mapping-iterator ≡ length l.fn.run;
  left : l.mapping-iterator ≡ drop l.k l.fn.run;
  is : l.list ≡ written_over l.fn.list (take l.k (map c_mapping l.fn.run));
  can : (goal.iterator-loop-mapping).can_next l.mapping-iterator;
  finite : (goal.iterator-loop-mapping).is_finite l.mapping-iterator;
}
