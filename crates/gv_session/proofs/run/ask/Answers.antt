use Rattle.std.proofs.Common.{◌≡◌, ◌∙◌, Result, Err, ap, sym, subst}
use Rattle.std.proofs.lemmas.Result.{err_from_is_err_and}
use Rattle.gv_vm.specs.World.{WorldState}
use Rattle.gv_session.specs.declared.fault.LineFault.{LineFault}
use Rattle.gv_session.specs.declared.fault.LineFault.TheVariants.{Bad, OutOfMemory}
use Rattle.gv_session.specs.State.{SessionState}
use Rattle.gv_session.specs.Line.{Runs, IsGood}
use Rattle.gv_session.specs.Question.{with_vm}
use Rattle.gv_session.proofs.LinesLemmas.{wrote_plain, with_same, answer_runs, memory_not_bad}
use Rattle.gv_session.proofs.run.ask.Goals as goal

pub returns-clause-done : goal.returns-clause-done
returns-clause-done c =
    let s : SessionState = c.args.session.now in
    let same : with_vm c.buffers.result.now.entries c.timelines.result.now.names c.vm.result.now s ≡ s = with_same _ _ _ s
    c.buffers.ensures c.timelines.ensures.names (c.vm.ensures ∙ ap (λ (w : WorldState). w.vm) c.world.ensures) in
    let found = c.in_ok-answer.ensures.done c.requires in
    wrote_plain (Runs c.args.question.now) s c.begin.new.self found.0 c.args.out.now c.answer.new.out found.2
    (answer_runs c.args.question.now _ _ _ found.0 s c.begin.new.self same c.begin.ensures found.1)

pub returns-in_err-answer-clause-bad : goal.returns-in_err-answer-clause-bad
returns-in_err-answer-clause-bad c = λ is good.
    let s : SessionState = c.args.session.now in
    let same : with_vm c.buffers.result.now.entries c.timelines.result.now.names c.vm.result.now s ≡ s = with_same _ _ _ s
    c.buffers.ensures c.timelines.ensures.names (c.vm.ensures ∙ ap (λ (w : WorldState). w.vm) c.world.ensures) in
    let p = err_from_is_err_and c.from_residual.result c.from_residual.ensures.1 in
    let bad : ◌≡◌ {A = Result (Unit {0}) LineFault} (Err c.in_err-answer.field-0.0) (Err Bad) = rw (← p.2) (sym p.1 ∙ is) in
    c.in_err-answer.ensures.bad bad s (subst (λ (x : SessionState). IsGood c.args.question.now x) (sym same) good)

pub returns-in_err-answer-clause-memory : goal.returns-in_err-answer-clause-memory
returns-in_err-answer-clause-memory c = λ is.
    let s : SessionState = c.args.session.now in
    let same : with_vm c.buffers.result.now.entries c.timelines.result.now.names c.vm.result.now s ≡ s = with_same _ _ _ s
    c.buffers.ensures c.timelines.ensures.names (c.vm.ensures ∙ ap (λ (w : WorldState). w.vm) c.world.ensures) in
    let p = err_from_is_err_and c.from_residual.result c.from_residual.ensures.1 in
    let want : ◌≡◌ {A = Result (Unit {0}) LineFault} (Err c.in_err-answer.field-0.0) (Err OutOfMemory) = rw (← p.2) (sym p.1 ∙ is) in
    subst (λ (x : SessionState). IsGood c.args.question.now x) same (c.in_err-answer.ensures.memory c.requires (memory_not_bad (Unit {0}) (Err c.in_err-answer.field-0.0) want) s)
