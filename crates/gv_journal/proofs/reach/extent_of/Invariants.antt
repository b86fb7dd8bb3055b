use Rattle.std.proofs.Common.{◌≡◌, drop}
use Rattle.gv_journal.specs.Reach.{extent_of, extent_from}
use Rattle.gv_journal.proofs.reach.extent_of.Given as goal

abbrev pub invariant-loop-op : goal.invariant-loop-op
invariant-loop-op l = extent_of l.ops ≡ extent_from l.extent (drop l.op-index l.ops)
