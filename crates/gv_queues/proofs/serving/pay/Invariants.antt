use Rattle.std.proofs.Common.{take}
use Rattle.gv_sync.specs.Seats.{IsSeatOf}
use Rattle.gv_sync.specs.SeatSteps.{HasRaised}
use Rattle.gv_queues.proofs.serving.pay.Given as goal

abbrev pub invariant-loop-signal : goal.invariant-loop-signal
invariant-loop-signal l = IsSeatOf l.timelines l.seat × HasRaised (take l.signal-index l.signals) l.fn.seat l.seat
