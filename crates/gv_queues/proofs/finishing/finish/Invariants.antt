use Rattle.std.proofs.Common.{◌≡◌, ◌≤◌, ◌+◌, ◌<◌, ℕ, vec_len, vec_capacity, get_or}
use Rattle.std.specs.Vec.Iter.{into_iter_items, into_iter_len}
use Rattle.gv_queues.specs.Ending.{AgreesAt, AreEndsOf}
use Rattle.gv_queues.proofs.finishing.finish.Given as goal

abbrev pub invariant-loop-worker : goal.invariant-loop-worker
invariant-loop-worker l =
    let rest = l.worker-iterator in
    (l.index + into_iter_len rest ≡ vec_len l.fn.workers)
    × ((k : ℕ) (d : _) → k < into_iter_len rest → get_or (into_iter_items rest) k d ≡ get_or l.fn.workers.items (l.index + k) d)
    × ((k : ℕ) → k < l.index → AgreesAt l.vm l.puts l.fn.workers.items k)
    × (vec_len l.ends ≡ l.index)
    × (vec_len l.fn.workers ≤ vec_capacity l.ends)
    × AreEndsOf l.vm l.puts l.fn.workers.items l.ends.items
