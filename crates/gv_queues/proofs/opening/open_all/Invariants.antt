use Rattle.std.proofs.Common.{◌≡◌, ◌≤◌, ◌+◌, All, vec_len, vec_capacity}
use Rattle.gv_sync.specs.Seats.{IsSeatOf, timeline_count}
use Rattle.gv_queues.specs.Ending.{AreInOrder}
use Rattle.gv_queues.specs.Submitting.{AreOpened}
use Rattle.gv_queues.specs.Working.{WorkerState}
use Rattle.gv_queues.specs.SeatSplits.{HaveSplits}
use Rattle.gv_queues.proofs.Channels.{of_submitters, of_workers}
use Rattle.gv_queues.proofs.opening.open_all.Given as goal

abbrev pub invariant-loop-queue : goal.invariant-loop-queue
invariant-loop-queue l =
    IsSeatOf l.timelines l.seat
    × (l.seat.marks ≡ l.fn.seat.marks)
    × (l.seat.halvings ≡ l.fn.seat.halvings + l.queue)
    × (vec_len l.submitters ≡ l.queue)
    × (vec_len l.workers ≡ l.queue)
    × AreOpened l.fn.sizes.limit l.fn.sizes.depth (timeline_count l.timelines) l.submitters.items
    × AreInOrder (λ (w : WorkerState). w.queue) l.workers.items
    × All (λ (w : WorkerState). w.of ≡ l.timelines) l.workers.items
    × (of_submitters l.submitters.items ≡ of_workers l.workers.items)
    × HaveSplits l.fn.seat l.workers.items
    × (l.fn.sizes.count ≤ vec_capacity l.submitters)
    × (l.fn.sizes.count ≤ vec_capacity l.workers)
    × (l.seat.raises ≡ l.fn.seat.raises)
