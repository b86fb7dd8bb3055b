use Rattle.std.proofs.Common.{◌≡◌, drop, length, vec_len, vec_capacity}
use Rattle.gv_c.specs.Values.{all_of}
use Rattle.gv_c.specs.Binding.{access_of}
use Rattle.gv_c.proofs.ListReadLemmas.{after}
use Rattle.gv_c.proofs.jobs.read.Given as goal

abbrev pub invariant-loop-access : goal.invariant-loop-access
invariant-loop-access l = record {
  accesses : all_of access_of l.accesses ≡ after l.list.items (all_of access_of (drop l.access-index l.accesses));
  len : vec_len l.list ≡ l.access-index;
  room : vec_capacity l.list ≡ length l.accesses;
}
