use Rattle.std.proofs.Common.{◌≡◌, ◌≤◌, ◌+◌, ◌++◌, ◌<◌, ℕ, None, map, vec_len, vec_capacity, get_or}
use Rattle.std.specs.Vec.Iter.{into_iter_items, into_iter_len}
use Rattle.gv_queues.proofs.running.RunContext.start_all.Given as goal

abbrev pub invariant-loop-worker : goal.invariant-loop-worker
invariant-loop-worker g l =
    let done = vec_len l.handles in let rest = l.worker-iterator in
    (done + into_iter_len rest ≡ vec_len l.fn.workers)
    × ((k : ℕ) (d : _) → k < into_iter_len rest → (get_or (into_iter_items rest) k d).queue ≡ done + k)
    × ((k : ℕ) (d : _) → k < into_iter_len rest → (get_or (into_iter_items rest) k d).of ≡ l.self.timelines.now)
    × (map (λ h. h.promise.0.value) l.handles.items ++ into_iter_items rest ≡ l.fn.workers.items)
    × (vec_len l.fn.workers ≤ vec_capacity l.handles)
    × (l.refused ≡ None)
