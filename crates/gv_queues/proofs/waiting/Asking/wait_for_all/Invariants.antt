use Rattle.std.proofs.Common.{◌≤◌, length, take, vec_capacity}
use Rattle.gv_sync.specs.Seats.{IsSeatOf}
use Rattle.gv_sync.specs.SeatSteps.{HasLooked}
use Rattle.gv_queues.specs.Paying.{AreReached, WereReached}
use Rattle.gv_queues.proofs.waiting.Asking.wait_for_all.Given as goal

abbrev pub invariant-loop-point : goal.invariant-loop-point
invariant-loop-point g l =
    IsSeatOf l.timelines l.seat
    × HasLooked l.fn.seat l.seat
    × AreReached (take l.point-index l.waits) l.seat l.reached.items
    × WereReached l.reached.items
    × (length l.waits ≤ vec_capacity l.reached)
