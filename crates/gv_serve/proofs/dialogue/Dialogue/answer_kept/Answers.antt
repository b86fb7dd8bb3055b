use Rattle.std.proofs.Common.{List, ℕ, subst}
use Rattle.gv_session.proofs.AnswerLemmas.{then_ok}
use Rattle.gv_serve.specs.Dialogue.{IsAnswered}
use Rattle.gv_serve.proofs.dialogue.Dialogue.answer_kept.Goals as goal

pub returns-in-Some-clause-answered : goal.returns-in-Some-clause-answered
returns-in-Some-clause-answered g c =
    then_ok c.answer.result _ _ (λ done. (
      done.0,
      done.1,
      λ line holds. subst (λ (l : List ℕ). IsAnswered c.args.self.now.talk.session c.args.self.now.talk.number l done.0 c.answer.new.self.session done.1) (rw c.in-Some.is at (c.line.ensures.line line holds)) done.2,
      done.3,
    )) c.answer.ensures.answered

pub returns-in-None-clause-answered : goal.returns-in-None-clause-answered
returns-in-None-clause-answered g c =
    then_ok c.refuse_long.result _ _ (λ done. (done.0, 1, λ line holds. done.1 line (rw c.in-None.is at (c.line.ensures.line line holds)), done.2)) c.refuse_long.ensures.answered
