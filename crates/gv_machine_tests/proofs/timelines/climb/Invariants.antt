use Rattle.gv_sync.specs.Seats.{IsSeatOf}
use Rattle.gv_machine_tests.proofs.timelines.climb.Given as goal

abbrev pub invariant-loop-k : goal.invariant-loop-k
invariant-loop-k l = IsSeatOf l.timelines l.seat
