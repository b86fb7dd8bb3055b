use Rattle.std.proofs.Common.{◌∷◌, [], sym, refl}
use Rattle.gv_session.proofs.AnswerLemmas.{then_ok}
use Rattle.gv_vm.proofs.PlanLemmas.{goes_trans, bound_goes_on, bound_stops}
use Rattle.gv_session.proofs.RepliesWritten.{tells_trans}
use Rattle.gv_vm.specs.declared.event.Event.TheVariants.{Bind}
use Rattle.gv_vm.specs.Plans.{carrying_out, payments}
use Rattle.gv_session.proofs.StoppedLemmas.{on_err, then_on_err, amid_at, amid_behind}
use Rattle.gv_session.proofs.run_request.carry_out.Goals as goal

pub returns-then-is_accepted-clause-goes : goal.returns-then-is_accepted-clause-goes
returns-then-is_accepted-clause-goes c =
    let ran = c.in_ok-reply.ensures in
    then_ok c.pay_all.result _ _ (λ paid. (
      c.in_ok-reply.reply ∷ paid.0,
      tells_trans _ _ _ (c.in_ok-reply.reply ∷ []) paid.0 _ _ _ ran.tells paid.1,
      λ points is.
          goes_trans _ _ _ _ _ _ (c.in_ok-reply.reply ∷ []) paid.0
          (bound_goes_on c.args.queue points c.in_ok-reply.reply _ _ ran.step (sym c.if-is_accepted.ensures)) (paid.2 points is),
    )) c.pay_all.ensures.goes

pub returns-clause-goes : goal.returns-clause-goes
returns-clause-goes c =
    let ran = c.in_ok-reply.ensures in (
      c.in_ok-reply.reply ∷ [],
      ran.tells,
      λ points is. bound_stops c.args.queue points c.in_ok-reply.reply _ _ ran.step (sym c.if-is_accepted.ensures),
    )

pub returns-in_err-reply-clause-stopped : goal.returns-in_err-reply-clause-stopped
returns-in_err-reply-clause-stopped c =
    on_err c.from_residual.result _ (λ points is. amid_at (carrying_out c.args.queue points) (Bind c.args.queue) _ _ refl c.in_err-reply.ensures.stopped)

pub returns-then-is_accepted-clause-stopped : goal.returns-then-is_accepted-clause-stopped
returns-then-is_accepted-clause-stopped c =
    let ran = c.in_ok-reply.ensures in
    then_on_err c.pay_all.result _ _ (λ amid points is.
    amid_behind (carrying_out c.args.queue points) (payments c.args.queue points) _ _ _ (c.in_ok-reply.reply ∷ [])
    (bound_goes_on c.args.queue points c.in_ok-reply.reply _ _ ran.step (sym c.if-is_accepted.ensures)) ran.tells.state (amid points is)) c.pay_all.ensures.stopped
