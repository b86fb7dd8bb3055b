use Rattle.std.proofs.Common.{◌∙◌}
use Rattle.gv_session.proofs.TimelineCount.{numbers_after}
use Rattle.gv_session.proofs.session.Session.step.Goals as goal

pub invariant_of-self : goal.invariant_of-self
invariant_of-self c =
    let all = numbers_after _ _ c.step.result _ c.step.ensures.step in
    record { all = all ∙ c.self.invariant.all; declared = c.self.invariant.declared }

pub invariant_of-self-2 : goal.invariant_of-self-2
invariant_of-self-2 c =
    let all = numbers_after _ _ c.step.result _ c.step.ensures.step in
    record { all = all ∙ c.self.invariant.all; declared = c.self.invariant.declared }
