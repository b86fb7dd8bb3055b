use Rattle.std.proofs.Common.{◌≡◌, ◌∷◌, [], ◌∙◌, refl, codes, decimal}
use Rattle.std.proofs.KnownBytes.{Appends-trans}
use Rattle.gv_session.specs.Texts.{reply}
use Rattle.gv_session.proofs.AnswerLemmas.{then_ok}
use Rattle.gv_serve.proofs.bad.write_bad.Goals as goal

pub returns-clause-ok : goal.returns-clause-ok
returns-clause-ok g c =
    let digits : c.as_bytes.result.now ≡ decimal c.args.number = c.as_bytes.ensures.value ∙ c.format.ensures.text in
    let reason = c.in_one_line.result.now in
    then_ok c.push-5.result _ _ (λ last. (
      reply (codes "bad line " ∷ decimal c.args.number ∷ codes ": " ∷ reason ∷ []),
      (reason, c.in_one_line.ensures, refl),
      Appends-trans _ _ _ _ _ c.in_ok-push.ensures.ok
          (Appends-trans _ _ _ _ _ (rw digits at c.in_ok-push-2.ensures.ok)
          (Appends-trans _ _ _ _ _ c.in_ok-push-3.ensures.ok (Appends-trans _ _ _ _ _ c.in_ok-push-4.ensures.ok last))),
    )) c.push-5.ensures.ok
