use Rattle.std.proofs.Common.{inl, inr}
use Rattle.gv_session.proofs.StoppedLemmas.{then_on_err}
use Rattle.gv_serve.proofs.asking.show.Goals as goal

pub returns-clause-stopped : goal.returns-clause-stopped
returns-clause-stopped c = then_on_err c.say.result _ _ (λ e. inr (inl e)) c.say.ensures.stopped
