use Rattle.std.proofs.Common.{◌≡◌, ◌≤◌, ◌+◌, ◌<◌, ℕ, map, vec_len, vec_capacity, get_or}
use Rattle.std.specs.Vec.Iter.{into_iter_items, into_iter_len}
use Rattle.gv_queues.specs.Working.{AreEndsOfWorkers, worker_at}
use Rattle.gv_queues.proofs.running.join_all.Given as goal

abbrev pub invariant-loop-handle : goal.invariant-loop-handle
invariant-loop-handle g l =
    let done = vec_len l.workers in let rest = l.handle-iterator in
    let all = map (λ h. h.promise.0.value) l.fn.handles.items in
    (done + into_iter_len rest ≡ vec_len l.fn.handles)
    × ((k : ℕ) (d : _) → k < into_iter_len rest → (get_or (into_iter_items rest) k d).promise.0.value ≡ worker_at all (done + k))
    × AreEndsOfWorkers all l.workers.items
    × (vec_len l.fn.handles ≤ vec_capacity l.workers)
