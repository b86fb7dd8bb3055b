use Rattle.gv_sync.specs.Seats.{IsSeatOf}
use Rattle.gv_sync.specs.SeatSteps.{HasLooked}
use Rattle.gv_queues.proofs.waiting.Asking.wait_for.Given as goal

abbrev pub invariant-loop : goal.invariant-loop
invariant-loop g l = IsSeatOf l.timelines l.seat × HasLooked l.fn.seat l.seat
