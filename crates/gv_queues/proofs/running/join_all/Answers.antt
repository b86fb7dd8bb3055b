use Rattle.std.proofs.Common.{rules, ◌≡◌, ◌+◌, ◌∙◌, ℕ, List, map, ap, subst, vec_len, length}
use Rattle.gv_queues.specs.Working.{IsEndOfWorker, WorkerEndState, WorkerState, worker_at}
use Rattle.gv_queues.proofs.Channels.{ended_more}
use Rattle.gv_queues.proofs.running.join_all.Goals as goal

pub loop-handle-preserved : goal.loop-handle-preserved
loop-handle-preserved g c =
    let was = c.loop-handle.invariant in let step = c.in-Some.ensures.steps in let done = vec_len c.loop-handle.workers in
    let all : List WorkerState = map (λ h. h.promise.0.value) c.args.handles.items in
    let next : c.in-Some.handle.promise.0.value ≡ worker_at all done = let h = was.1 0 c.in-Some.handle in grind rules in
    let end : WorkerEndState = c.drained.result in
    let kept = c.join.ensures in
    let here : IsEndOfWorker (worker_at all done) end = record {
      queue = c.drained.ensures.queue ∙ (kept.queue ∙ ap (λ (w : WorkerState). w.queue) next);
      channel = c.drained.ensures.channel ∙ (kept.channel ∙ ap (λ (w : WorkerState). w.channel) next);
      raises = c.drained.ensures.raises;
      halvings = c.drained.ensures.share ∙ (kept.halvings ∙ ap (λ (w : WorkerState). w.halvings) next);
    } in
    let long : done ≡ length c.loop-handle.workers.items = search rules in (
      search rules,
      (λ k d below. let h = was.1 (k + 1) d in grind rules),
      ended_more all _ _ _ c.push_reserved.ensures.items (subst (λ (n : ℕ). IsEndOfWorker (worker_at all n) end) long here) was.2,
      search rules,
    )
