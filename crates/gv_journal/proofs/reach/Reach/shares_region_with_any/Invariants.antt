use Rattle.std.proofs.Common.{◌≡◌, take}
use Rattle.std.specs.List.{list_any}
use Rattle.gv_journal.specs.Reach.{regions_meet}
use Rattle.gv_journal.proofs.reach.Reach.shares_region_with_any.Given as goal

abbrev pub invariant-loop-other : goal.invariant-loop-other
invariant-loop-other l = l.any ≡ list_any (λ other. regions_meet l.self.regions other) (take l.other-index l.others)
