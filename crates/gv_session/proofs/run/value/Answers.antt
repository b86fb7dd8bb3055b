use Rattle.std.proofs.Common.{◌≡◌, ◌∙◌, List, ℕ, Some, ap, sym, refl, slice_index, inl, inr}
use Rattle.gv_vm.specs.World.{WorldState}
use Rattle.gv_lines.specs.declared.line.Line.TheVariants as line
use Rattle.gv_session.specs.State.{SessionState, timeline_named}
use Rattle.gv_session.specs.Texts.{number_reply}
use Rattle.gv_session.specs.Line.{Runs}
use Rattle.gv_session.proofs.AnswerLemmas.{of_found, ok_or_some}
use Rattle.gv_session.proofs.LinesLemmas.{wrote_plain}
use Rattle.std.proofs.lemmas.Result.{err_from_is_err_and}
use Rattle.gv_session.proofs.StoppedLemmas.{leaves_any}
use Rattle.gv_session.proofs.run.value.Goals as goal

pub returns-clause-done : goal.returns-clause-done
returns-clause-done c =
    let s : SessionState = c.args.session.now in
    let clock : c.clock.result.now ≡ s.world.numbers = c.clock.ensures ∙ ap (λ (x : WorldState). x.numbers) (c.world.ensures ∙ ap (λ (x : SessionState). x.world) c.begin.ensures) in
    let found : c.index_of.result ≡ Some c.in_ok-timeline.timeline = ok_or_some c.index_of.result _ c.in_ok-timeline.timeline c.in_ok-timeline.ensures.value in
    let named : Some c.in_ok-timeline.timeline ≡ timeline_named s.timelines c.args.name.now =
    sym found ∙ c.index_of.ensures.index ∙ ap (λ (ns : List (List ℕ)). timeline_named ns c.args.name.now) c.timelines.ensures.names in
    let number : c.value-number.result ≡ slice_index s.world.numbers c.in_ok-timeline.timeline = c.value-number.ensures ∙ ap (λ (ns : List ℕ). slice_index ns c.in_ok-timeline.timeline) clock in
    let names : c.timelines-2.result.now.names ≡ s.timelines = c.timelines-2.ensures.names ∙ ap (λ (x : SessionState). x.timelines) c.begin.ensures in
    wrote_plain (Runs (line.Value c.args.name.now)) s c.begin.new.self (number_reply s.timelines c.in_ok-timeline.timeline (slice_index s.world.numbers c.in_ok-timeline.timeline))
    c.args.out.now c.write_number.new.out (rw (names, number) at c.in_ok-write_number.ensures)
    (of_found (timeline_named s.timelines c.args.name.now) c.in_ok-timeline.timeline _ named (refl, c.begin.ensures))

pub returns-in_err-timeline-clause-stopped : goal.returns-in_err-timeline-clause-stopped
returns-in_err-timeline-clause-stopped c = leaves_any (line.Value c.args.name.now) _ _ c.from_residual.result refl

pub returns-in_err-write_number-clause-stopped : goal.returns-in_err-write_number-clause-stopped
returns-in_err-write_number-clause-stopped c =
    let p = err_from_is_err_and c.from_residual-in_err-write_number.result c.from_residual-in_err-write_number.ensures.1 in
    rw (p.1, p.2) (inl (inr (inl c.begin.ensures)))
