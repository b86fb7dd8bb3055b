use Rattle.std.specs.Option.{is_some}
use Rattle.std.proofs.Common.{rules, sym, ◌≡◌, ◌+◌, ◌∙◌, ℕ, ap, arith, vec_len}
use Rattle.std.specs.declared.thread.PromisedHandle.{PromisedHandle}
use Rattle.gv_queues.specs.declared.worker_end.WorkerEnd.{WorkerEnd}
use Rattle.gv_queues.specs.declared.running.OfWorker.{OfWorker}
use Rattle.gv_queues.specs.Working.{WorkerState}
use Rattle.gv_queues.proofs.Channels.{started_more}
use Rattle.gv_queues.proofs.QueueEnds.{head_at, if_some_none, if_some_of, one_further, plus_none, tail_at}
use Rattle.gv_queues.proofs.running.RunContext.start_all.Goals.{in-None, in-Some+in-None-start}
use Rattle.gv_queues.proofs.running.RunContext.start_all.Goals as goal

pub loop-worker-preserved : goal.loop-worker-preserved
loop-worker-preserved g c =
    let was = c.loop-worker.invariant in let step = c.in-Some.ensures.steps in let done : ℕ = vec_len c.loop-worker.handles in
    let left = step.1 in let all = was.0 in let len = c.push_reserved.ensures.len in
    let next : c.in-Some.worker.queue ≡ done =
    ap (λ (w : WorkerState). w.queue) (sym (head_at _ _ c.in-Some.worker step.0 c.in-Some.worker)) ∙ (was.1 0 c.in-Some.worker (omega (arith, left)) ∙ plus_none done) in
    let here : c.in-Some-start.handle.promise.0.value ≡ c.in-Some.worker = c.in-Some-start.ensures in (
      omega (arith, left, all, len),
      (λ k d below. ap (λ (w : WorkerState). w.queue) (tail_at _ _ c.in-Some.worker step.0 k d) ∙ (was.1 (k + 1) d (omega (arith, left, below)) ∙ one_further done k _ len)),
      (λ k d below. ap (λ (w : WorkerState). w.of) (tail_at _ _ c.in-Some.worker step.0 k d) ∙ was.2 (k + 1) d (omega (arith, left, below))),
      started_more (λ (h : PromisedHandle WorkerEnd OfWorker). h.promise.0.value) c.loop-worker.handles.items c.push_reserved.new.self.items c.in-Some-start.handle c.in-Some.worker _ _ _ c.push_reserved.ensures.items here step.0 was.3,
      search rules,
      search rules,
    )

pub returns-clause-refused : goal.returns-clause-refused
returns-clause-refused g c = elim c.match-next.branch [
  | in-None w ↦ if_some_none _ _ (ap is_some (w.refused-is ∙ c.loop-worker.invariant.5))
  | in-Some+in-None-start w ↦ (
      let was = c.loop-worker.invariant in let step = w.in-Some.ensures.steps in
      let next : w.in-Some.worker.queue ≡ vec_len c.loop-worker.handles = let h = was.1 0 w.in-Some.worker in grind rules in
      let queue = w.queue-queue.ensures in let all = was.0 in let rest = step.1 in
      if_some_of _ _ _ w.refused-is (omega (arith, queue, next, all, rest)))
]
