use Rattle.std.proofs.Common.{[], true, false, sym, ◌∙◌}
use Rattle.gv_session.proofs.AnswerLemmas.{then_ok}
use Rattle.gv_serve.proofs.AnsweredLines.{flushed, ends_none, ends_bad}
use Rattle.gv_serve.proofs.dialogue.Dialogue.end.Goals as goal
use Rattle.gv_serve.proofs.dialogue.Dialogue.end.Goals.{then-not-is_empty+in_ok-write_bad, else-not-is_empty}

pub returns-clause-ended : goal.returns-clause-ended
returns-clause-ended g c = elim c.if-not-is_empty.branch [
  | then-not-is_empty+in_ok-write_bad w ↦ (
      let bad = w.in_ok-write_bad.ensures.ok in
      then_ok c.flush.result _ _ (λ wrote. (
        bad.0,
        1,
        λ line holds. ends_bad _ line bad.0 (λ none. let so = sym w.if-not-is_empty.true ∙ (c.is_empty.ensures line holds).1 none in cc) bad.1,
        flushed _ _ _ bad.0 bad.2 wrote,
      )) (rw (w.self-is, w.writer-is) at c.flush.ensures.ok))
  | else-not-is_empty w ↦ then_ok c.flush.result _ _ (λ wrote. ([], 0, λ line holds. ends_none _ line ((c.is_empty.ensures line holds).0 w.if-not-is_empty.false), wrote)) (rw (w.self-is, w.writer-is) at c.flush.ensures.ok)
]
