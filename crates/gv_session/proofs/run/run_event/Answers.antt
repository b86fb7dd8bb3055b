use Rattle.std.proofs.Common.{◌≡◌, ap, ◌∙◌, inl, inr}
use Rattle.gv_session.specs.State.{SessionState, names_alone}
use Rattle.gv_session.specs.ReplyTexts.{said}
use Rattle.std.specs.List.{flat_map}
use Rattle.gv_vm.specs.Plans.{once}
use Rattle.gv_session.specs.Line.{Does, DoesOnce}
use Rattle.gv_session.proofs.LinesLemmas.{wrote_once, wrote_as}
use Rattle.gv_session.proofs.StoppedLemmas.{on_err, lost_once}
use Rattle.gv_session.proofs.run.run_event.Goals as goal

pub returns-clause-done : goal.returns-clause-done
returns-clause-done c =
    let ran = c.in_ok-reply.ensures in
    let buffers : c.buffers.result.now.entries ≡ c.args.session.now.buffers = c.buffers.ensures ∙ ap (λ (s : SessionState). s.buffers) ran.state in
    let timelines : c.timelines.result.now.names ≡ c.args.session.now.timelines = c.timelines.ensures.names ∙ ap (λ (s : SessionState). s.timelines) ran.state in
    wrote_as (Does (once c.args.event) (flat_map (said (names_alone c.args.session.now.buffers) c.args.session.now.timelines))) (DoesOnce c.args.event)
    c.args.session.now c.step.new.self c.args.out.now c.write_said.new.out (λ w runs. runs)
    (wrote_once c.args.event (said (names_alone c.args.session.now.buffers) c.args.session.now.timelines) c.args.session.now c.step.new.self c.in_ok-reply.reply
    c.args.out.now c.write_said.new.out ran.step ran.state (rw (buffers, timelines) at c.in_ok-write_said.ensures))

pub returns-in_err-reply-clause-stopped : goal.returns-in_err-reply-clause-stopped
returns-in_err-reply-clause-stopped c = on_err c.from_residual.result _ (inr (inl c.in_err-reply.ensures.err))

pub returns-in_err-write_said-clause-stopped : goal.returns-in_err-write_said-clause-stopped
returns-in_err-write_said-clause-stopped c =
    let s : SessionState = c.args.session.now in
    let ran = c.in_ok-reply.ensures in
    on_err c.from_residual-in_err-write_said.result _ (inr (inr (lost_once c.args.event (said (names_alone s.buffers) s.timelines) s _ c.in_ok-reply.reply ran.step ran.state)))
