use Rattle.std.proofs.Common.{◌≡◌, ◌≤◌, ◌+◌, ◌-◌, length, vec_capacity, vec_len}
use Rattle.gv_queues.specs.Working.{AreLeft, RaisedJustOwed}
use Rattle.gv_queues.proofs.worker_end.WorkerEnd.drained.Given as goal

abbrev pub invariant-loop-index : goal.invariant-loop-index
invariant-loop-index g l =
    (l.taker.queue ≡ l.fn.self.queue)
    × (l.taker.channel ≡ l.fn.self.channel)
    × AreLeft l.taker.taken l.gave.items l.left.items
    × RaisedJustOwed l.gave.items l.taker.taken l.seat
    × (vec_len l.left + (l.room - l.index) ≤ vec_capacity l.left)
    × (l.taken + l.index ≡ length l.taker.taken)
