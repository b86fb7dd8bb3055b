use Rattle.std.proofs.Common.{◌∙◌}
use Rattle.gv_session.proofs.TimelineCount.{numbers_turned}
use Rattle.gv_session.proofs.session.Session.turn.Goals as goal

pub invariant_of-self : goal.invariant_of-self
invariant_of-self c =
    let all = numbers_turned _ _ _ c.turn.result _ c.turn.ensures in
    record { all = all ∙ c.self.invariant.all; declared = c.self.invariant.declared }
