use Rattle.std.proofs.Common.{drop, ◌++◌, ◌∷◌, [], true, sym, arith}
use Rattle.gv_vm.specs.Plans.{looks, carrying_out}
use Rattle.gv_vm.specs.declared.event.LookResult.TheVariants.{Lacked, Other}
use Rattle.gv_vm.proofs.PlanLemmas.{goes_nil, goes_trans, goes_as, look_goes_on, look_stops, looks_done}
use Rattle.gv_session.proofs.RepliesWritten.{tells_nil, tells_trans}
use Rattle.gv_vm.specs.declared.event.Event.TheVariants.{Look}
use Rattle.gv_session.proofs.StoppedLemmas.{on_err, amid_at, amid_behind, look_next}
use Rattle.gv_session.proofs.run_request.look_at_all.Goals as goal

pub loop-done-init : goal.loop-done-init
loop-done-init c = record {
  replies = [];
  tells = tells_nil _ _ _ c.begin.ensures;
  goes = λ points signals is. rw c.begin.ensures (goes_nil (looks true c.args.queue points signals) c.args.session.now.world);
}

pub loop-done-preserved : goal.loop-done-preserved
loop-done-preserved c =
    let ran = c.in_ok-reply.ensures in
    record {
      replies = c.loop-done.invariant.replies ++ c.in_ok-reply.reply ∷ [];
      tells = tells_trans _ _ _ _ _ _ _ _ c.loop-done.invariant.tells ran.tells;
      goes = λ points signals is.
          goes_trans _ _ _ _ _ _ _ _ (c.loop-done.invariant.goes points signals is)
          (look_goes_on true c.args.queue c.loop-done.done points signals c.in_ok-reply.reply _ _ (omega arith) ran.step (sym c.in-NoneLacked.ensures));
    }

pub returns-clause-goes : goal.returns-clause-goes
returns-clause-goes c = (
  c.loop-done.invariant.replies,
  c.loop-done.invariant.tells,
  λ points signals is.
      goes_as _ _ (carrying_out c.args.queue signals) _ _ _ (λ later. looks_done true c.args.queue c.loop-done.done points signals later (omega arith))
      (c.loop-done.invariant.goes points signals is),
)

pub returns-in-Lacked-clause-goes : goal.returns-in-Lacked-clause-goes
returns-in-Lacked-clause-goes c =
    let ran = c.in_ok-reply.ensures in (
      c.loop-done.invariant.replies ++ c.in_ok-reply.reply ∷ [],
      tells_trans _ _ _ _ _ _ _ _ c.loop-done.invariant.tells ran.tells,
      λ points signals is.
          goes_trans _ _ _ _ _ _ _ _ (c.loop-done.invariant.goes points signals is)
          (look_stops true c.args.queue c.loop-done.done points signals c.in_ok-reply.reply Lacked _ _ (omega arith) ran.step (sym c.in-Lacked.ensures) (λ same. cc)),
    )

pub returns-in-Other-clause-goes : goal.returns-in-Other-clause-goes
returns-in-Other-clause-goes c =
    let ran = c.in_ok-reply.ensures in (
      c.loop-done.invariant.replies ++ c.in_ok-reply.reply ∷ [],
      tells_trans _ _ _ _ _ _ _ _ c.loop-done.invariant.tells ran.tells,
      λ points signals is.
          goes_trans _ _ _ _ _ _ _ _ (c.loop-done.invariant.goes points signals is)
          (look_stops true c.args.queue c.loop-done.done points signals c.in_ok-reply.reply Other _ _ (omega arith) ran.step (sym c.in-Other.ensures) (λ same. cc)),
    )

pub returns-in_err-reply-clause-stopped : goal.returns-in_err-reply-clause-stopped
returns-in_err-reply-clause-stopped c =
    on_err c.from_residual.result _ (λ points signals is.
    amid_behind (looks true c.args.queue points signals) (looks true c.args.queue (drop c.loop-done.done points) signals) _ _ _ c.loop-done.invariant.replies
    (c.loop-done.invariant.goes points signals is) c.loop-done.invariant.tells.state
    (amid_at (looks true c.args.queue (drop c.loop-done.done points) signals) (Look c.args.queue) _ _ (look_next c.args.queue c.loop-done.done points signals (omega arith)) c.in_err-reply.ensures.stopped))
