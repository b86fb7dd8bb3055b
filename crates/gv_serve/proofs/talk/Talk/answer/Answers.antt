use Rattle.std.proofs.Common.{◌≡◌, ◌≢◌, ◌∙◌, ◌++◌, Some, Err, List, ℕ, inl, inr, refl, ap}
use Rattle.gv_lines.specs.Grammar.{parsed}
use Rattle.gv_lines.specs.ServeLine.{serve_parsed}
use Rattle.gv_lines.specs.declared.line.Line.TheVariants.{Silent}
use Rattle.gv_lines.specs.declared.serve_line.ServeLine.TheVariants.{Run}
use Rattle.gv_session.proofs.AnswerLemmas.{then_ok}
use Rattle.gv_session.specs.declared.fault.LineFault.{LineFault}
use Rattle.gv_serve.specs.Dialogue.{others_in, no_memory_reply}
use Rattle.gv_serve.proofs.talk.Talk.answer.Goals as goal

pub returns-in-Ok-clause-answered : goal.returns-in-Ok-clause-answered
returns-in-Ok-clause-answered g c =
    let ran = c.in-Ok.ensures.done in
    let text_is : c.as_bytes.result.now ≡ ran.written.text =
    c.as_bytes.ensures.value ∙ ran.text ∙ ap (λ (bytes : List ℕ). bytes ++ ran.written.text) c.empty.ensures.bytes in
    then_ok c.push.result _ _ (λ wrote. (
      c.as_bytes.result.now,
      others_in (parsed c.args.line.now),
      inl (record { written = ran.written; serves = ran.runs; text_is = text_is; counted = refl }),
      wrote,
    )) c.push.ensures.ok

pub returns-in-Err-Bad-clause-answered : goal.returns-in-Err-Bad-clause-answered
returns-in-Err-Bad-clause-answered g c =
    let bad = c.in-Err-Bad.is ∙ ap (λ (why : LineFault). Err why) c.in-Err-Bad.field-0-is in
    then_ok c.write_bad.result _ _ (λ wrote. (
      wrote.0,
      1,
      inr (inl (record { bad = λ good. c.serve_text.ensures.bad bad good.1; replied = wrote.1; state = c.serve_text.ensures.same bad }, refl)),
      wrote.2,
    )) c.write_bad.ensures.ok

pub returns-in-Err-OutOfMemory-clause-answered : goal.returns-in-Err-OutOfMemory-clause-answered
returns-in-Err-OutOfMemory-clause-answered g c =
    let memory = c.in-Err-OutOfMemory.is ∙ ap (λ (why : LineFault). Err why) c.in-Err-OutOfMemory.field-0-is in
    let says : serve_parsed c.args.line.now ≢ Some (Run Silent) = λ silent. let ok = rw memory at (c.serve_text.ensures.silent silent) in cc in
    then_ok c.push-in-Err-OutOfMemory.result _ _ (λ wrote. (
      no_memory_reply,
      1,
      inr (inr (record { good = (c.requires, c.serve_text.ensures.memory memory); says = says; stopped = c.serve_text.ensures.stopped memory; text_is = refl }, refl)),
      wrote,
    )) c.push-in-Err-OutOfMemory.ensures.ok
