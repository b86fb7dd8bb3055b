use Rattle.std.proofs.Common.{inl, inr}
use Rattle.gv_session.proofs.StoppedLemmas.{on_err}
use Rattle.gv_session.proofs.run_request.ask.Goals as goal

pub returns-in_err-reply-clause-stopped : goal.returns-in_err-reply-clause-stopped
returns-in_err-reply-clause-stopped c = on_err c.from_residual.result _ (inl c.in_err-reply.ensures.err)

pub returns-in_err-write_request-clause-stopped : goal.returns-in_err-write_request-clause-stopped
returns-in_err-write_request-clause-stopped c =
    let ran = c.in_ok-reply.ensures in on_err c.from_residual-in_err-write_request.result _ (inr (c.in_ok-reply.reply, ran.step, ran.state))
