use Rattle.std.proofs.Common.{◌≡◌, drop}
use Rattle.gv_journal.specs.Reach.{regions_of, regions_from}
use Rattle.gv_journal.proofs.reach.regions_of.Given as goal

abbrev pub invariant-loop-op : goal.invariant-loop-op
invariant-loop-op l = regions_of l.ops ≡ regions_from l.regions (drop l.op-index l.ops)
