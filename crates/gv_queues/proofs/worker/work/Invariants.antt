use Rattle.std.proofs.Common.{◌≡◌, ◌<◌, [], length, vec_capacity, vec_len}
use Rattle.gv_sync.specs.Seats.{IsSeatOf, timeline_count}
use Rattle.gv_queues.specs.Working.{RaisedJustOwed}
use Rattle.gv_queues.proofs.worker.work.Given as goal

abbrev pub invariant-loop : goal.invariant-loop
invariant-loop g l =
    IsSeatOf l.shared.timelines.now l.seat
    × (l.taker.queue ≡ l.fn.worker.queue)
    × (l.taker.channel ≡ l.fn.worker.channel)
    × (l.taker.timelines ≡ timeline_count l.shared.timelines.now)
    × (length l.taker.taken ≡ vec_len l.gave)
    × (l.left.items ≡ [])
    × (0 < vec_capacity l.left)
    × RaisedJustOwed l.gave.items l.taker.taken l.seat
    × (l.seat.halvings ≡ l.fn.worker.halvings)
