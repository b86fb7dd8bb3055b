use Rattle.std.proofs.Common.{rules, ◌≡◌, ◌+◌, ◌<◌, ℕ, List, length, IsTrue, false, sym, ap, ◌∙◌, refl, subst, arith, below_more}
use Rattle.std.proofs.lemmas.Bool.{false≢true}
use Rattle.std.proofs.lemmas.List.{get_or_read}
use Rattle.gv_types.specs.declared.request.Request.{Request}
use Rattle.gv_vm.specs.Outcomes.{told_to}
use Rattle.gv_queues.specs.declared.finishing.QueueEnd.{QueueEnd}
use Rattle.gv_queues.specs.Ending.{AgreesAt, Agrees, IsEndOf, no_put, put_at}
use Rattle.gv_queues.specs.Submitting.{PutEndState}
use Rattle.gv_queues.specs.Working.{WorkerEndState, end_at, no_end}
use Rattle.gv_queues.proofs.QueueEnds.{ends_more, left_count}
use Rattle.gv_queues.proofs.finishing.finish.Goals as goal

pub returns-then-not-agrees-clause-disagree : goal.returns-then-not-agrees-clause-disagree
returns-then-not-agrees-clause-disagree c =
    let was = c.loop-worker.invariant in let step = c.in-Some.ensures.steps in let index : ℕ = c.loop-worker.index in
    let worker : end_at c.args.workers.items index ≡ c.in-Some.worker = let h = was.1 0 no_end in grind rules in
    let below : index < length c.args.puts.now = let even = c.requires.even in omega (arith, even) in
    let put : c.index-puts-index.result ≡ put_at c.args.puts.now index = get_or_read c.args.puts.now index c.index-puts-index.result below c.index-puts-index.is no_put in (
      index,
      refl,
      record {
        exists = below;
        disagrees = (λ agree.
            let P : WorkerEndState → Type 0 = λ w. Agrees c.args.vm.now (put_at c.args.puts.now index) w in
            let Q : PutEndState → Type 0 = λ p. Agrees c.args.vm.now p c.in-Some.worker in
            let here : IsTrue false = c.if-not-agrees.ensures.1 (subst Q (sym put) (subst P worker agree)) in false≢true here);
        before = was.2;
      },
    )

pub loop-worker-preserved : goal.loop-worker-preserved
loop-worker-preserved c =
    let was = c.loop-worker.invariant in let step = c.in-Some.ensures.steps in let index : ℕ = c.loop-worker.index in
    let worker : end_at c.args.workers.items index ≡ c.in-Some.worker = let h = was.1 0 no_end in grind rules in
    let below : index < length c.args.puts.now = let even = c.requires.even in omega (arith, even) in
    let put : c.index-puts-index.result ≡ put_at c.args.puts.now index = get_or_read c.args.puts.now index c.index-puts-index.result below c.index-puts-index.is no_put in
    let P : WorkerEndState → Type 0 = λ w. Agrees c.args.vm.now (put_at c.args.puts.now index) w in
    let Q : PutEndState → Type 0 = λ p. Agrees c.args.vm.now p c.in-Some.worker in
    let here : AgreesAt c.args.vm.now c.args.puts.now c.args.workers.items index = subst P (sym worker) (subst Q put (c.if-not-agrees.ensures.0 refl)) in
    let agree : Agrees c.args.vm.now c.index-puts-index.result c.in-Some.worker = c.if-not-agrees.ensures.0 refl in
    let order : (end_at c.args.workers.items index).queue ≡ index = c.requires.order.1 index no_end (search rules) in
    let end : QueueEnd = record { put = c.put.result; told = c.told_next.result; left = c.into_left.result } in
    let worker_queue : c.in-Some.worker.queue ≡ index = ap (λ (w : WorkerEndState). w.queue) (sym worker) ∙ order in
    let kept : length c.in-Some.worker.taken ≡ length c.in-Some.worker.gave + length c.in-Some.worker.left =
    subst (λ (w : WorkerEndState). length w.taken ≡ length w.gave + length w.left) c.worker.view_is (left_count _ _ _ c.worker.invariant.0) in
    let each : c.put.result ≡ c.told_next.result + length c.into_left.result.items =
    let took = agree.took_all in let gave = agree.count ∙ ap (λ (q : ℕ). length (told_to c.args.vm.now.told q)) worker_queue in let told = c.told_next.ensures.number in
    let left = ap (λ (l : List Request). length l) c.into_left.ensures in let put_is = c.put.ensures in
    omega (arith, kept, took, gave, told, left, put_is) in
    let end_is : IsEndOf c.args.vm.now (put_at c.args.puts.now index) (end_at c.args.workers.items index) end = record {
      put = c.put.ensures ∙ ap (λ (p : PutEndState). length p.put) put;
      told = c.told_next.ensures.number ∙ ap (λ (q : ℕ). length (told_to c.args.vm.now.told q)) (sym order);
      left = c.into_left.ensures ∙ ap (λ (w : WorkerEndState). w.left) (sym worker);
      each = each;
    } in
    let long : index ≡ length c.loop-worker.ends.items = search rules in (
      omega arith,
      (λ k d low. let h = was.1 (k + 1) d in grind rules),
      below_more (λ k. AgreesAt c.args.vm.now c.args.puts.now c.args.workers.items k) index was.2 here,
      search rules,
      search rules,
      ends_more c.args.vm.now c.args.puts.now c.args.workers.items c.loop-worker.ends.items c.push_reserved.new.self.items end c.push_reserved.ensures.items
          (subst (λ (k : ℕ). IsEndOf c.args.vm.now (put_at c.args.puts.now k) (end_at c.args.workers.items k) end) long end_is) was.5,
    )
