use Rattle.std.proofs.Common.{◌++◌}
use Rattle.gv_session.proofs.AnswerLemmas.{then_ok}
use Rattle.gv_serve.proofs.dialogue.Dialogue.end_line.Goals as goal

pub returns-clause-answered : goal.returns-clause-answered
returns-clause-answered g c =
    then_ok c.answer_kept-answered.result _ _ (λ done. (done.0, done.1, λ line holds. done.2 (line ++ c.args.front.now) (c.keep.ensures line holds), done.3)) c.answer_kept-answered.ensures.answered
