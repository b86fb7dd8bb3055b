use Rattle.gv_vm.specs.declared.event.Event.TheVariants.{Withdraw}
use Rattle.gv_session.specs.ReplyTexts.{said_of_withdrawal}
use Rattle.gv_session.proofs.LinesLemmas.{wrote_once}
use Rattle.std.proofs.Common.{inl, inr}
use Rattle.gv_session.proofs.StoppedLemmas.{on_err, lost_once}
use Rattle.gv_session.proofs.run.withdraw.Goals as goal

pub returns-clause-done : goal.returns-clause-done
returns-clause-done c =
    let ran = c.in_ok-reply.ensures in
    wrote_once (Withdraw c.args.entry) (said_of_withdrawal c.args.entry) _ _ c.in_ok-reply.reply _ _ ran.step ran.state c.in_ok-write_withdrawn.ensures

pub returns-in_err-reply-clause-stopped : goal.returns-in_err-reply-clause-stopped
returns-in_err-reply-clause-stopped c = on_err c.from_residual.result _ (inr (inl c.in_err-reply.ensures.err))

pub returns-in_err-write_withdrawn-clause-stopped : goal.returns-in_err-write_withdrawn-clause-stopped
returns-in_err-write_withdrawn-clause-stopped c =
    let ran = c.in_ok-reply.ensures in
    on_err c.from_residual-in_err-write_withdrawn.result _ (inr (inr (lost_once (Withdraw c.args.entry) (said_of_withdrawal c.args.entry) _ _ c.in_ok-reply.reply ran.step ran.state)))
