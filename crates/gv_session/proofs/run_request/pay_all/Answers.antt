use Rattle.std.proofs.Common.{drop, ◌≡◌, ◌++◌, ◌∷◌, [], sym, ◌∙◌, arith, rules, true, false}
use Rattle.gv_vm.specs.Plans.{payments, nothing}
use Rattle.gv_vm.proofs.PlanLemmas.{goes_nil, goes_trans, goes_as, pay_goes_on, pay_stops, paying_done}
use Rattle.gv_session.proofs.RepliesWritten.{tells_nil, tells_trans}
use Rattle.gv_vm.specs.declared.event.Event.TheVariants.{Pay}
use Rattle.gv_session.proofs.StoppedLemmas.{on_err, amid_at, amid_behind, pay_next}
use Rattle.gv_session.proofs.run_request.pay_all.Goals as goal

pub loop-done-init : goal.loop-done-init
loop-done-init c = record {
  replies = [];
  tells = tells_nil _ _ _ c.begin.ensures;
  goes = λ points is. rw c.begin.ensures (goes_nil (payments c.args.queue points) c.args.session.now.world);
}

pub loop-done-preserved : goal.loop-done-preserved
loop-done-preserved c =
    let ran = c.in_ok-reply.ensures in
    record {
      replies = c.loop-done.invariant.replies ++ c.in_ok-reply.reply ∷ [];
      tells = tells_trans _ _ _ _ _ _ _ _ c.loop-done.invariant.tells ran.tells;
      goes = λ points is.
          goes_trans _ _ _ _ _ _ _ _ (c.loop-done.invariant.goes points is)
          (pay_goes_on c.args.queue c.loop-done.done points nothing c.in_ok-reply.reply _ _ (omega arith) ran.step (let e : c.is_raised.result ≡ true = search rules in sym c.is_raised.ensures ∙ e));
    }

pub returns-then-not-is_raised-clause-goes : goal.returns-then-not-is_raised-clause-goes
returns-then-not-is_raised-clause-goes c =
    let ran = c.in_ok-reply.ensures in (
      c.loop-done.invariant.replies ++ c.in_ok-reply.reply ∷ [],
      tells_trans _ _ _ _ _ _ _ _ c.loop-done.invariant.tells ran.tells,
      λ points is.
          goes_trans _ _ _ _ _ _ _ _ (c.loop-done.invariant.goes points is)
          (pay_stops c.args.queue c.loop-done.done points nothing c.in_ok-reply.reply _ _ (omega arith) ran.step (let e : c.is_raised.result ≡ false = search rules in sym c.is_raised.ensures ∙ e)),
    )

pub returns-clause-goes : goal.returns-clause-goes
returns-clause-goes c = (
  c.loop-done.invariant.replies,
  c.loop-done.invariant.tells,
  λ points is.
      goes_as _ _ nothing _ _ _ (λ later. paying_done c.args.queue c.loop-done.done points nothing later (omega arith))
      (c.loop-done.invariant.goes points is),
)

pub returns-in_err-reply-clause-stopped : goal.returns-in_err-reply-clause-stopped
returns-in_err-reply-clause-stopped c =
    on_err c.from_residual.result _ (λ points is.
    amid_behind (payments c.args.queue points) (payments c.args.queue (drop c.loop-done.done points)) _ _ _ c.loop-done.invariant.replies
    (c.loop-done.invariant.goes points is) c.loop-done.invariant.tells.state
    (amid_at (payments c.args.queue (drop c.loop-done.done points)) (Pay c.args.queue) _ _ (pay_next c.args.queue c.loop-done.done points (omega arith)) c.in_err-reply.ensures.stopped))
