use Rattle.std.proofs.Common.{◌≡◌, ap, ◌∙◌, inr}
use Rattle.std.specs.List.{flat_map}
use Rattle.gv_vm.specs.Plans.{once}
use Rattle.gv_session.specs.Line.{Does}
use Rattle.gv_session.specs.State.{SessionState}
use Rattle.gv_session.proofs.LinesLemmas.{wrote_once, wrote_as}
use Rattle.gv_session.proofs.StoppedLemmas.{on_err, lost_once}
use Rattle.gv_vm.specs.declared.event.Event.TheVariants.{GiveUp}
use Rattle.gv_serve.specs.DialogueLine.{GivesUp, give_up_said}
use Rattle.gv_serve.proofs.queue_lines.give_up.Goals as goal

pub returns-clause-done : goal.returns-clause-done
returns-clause-done c =
    let s = c.args.session.now in
    let ran = c.in_ok-reply.ensures in
    let timelines : c.timelines.result.now.names ≡ s.timelines = c.timelines.ensures.names ∙ ap (λ (x : SessionState). x.timelines) ran.state in
    wrote_as (Does (once (GiveUp c.args.queue)) (flat_map (give_up_said s.timelines))) (GivesUp c.args.queue) s c.step.new.self c.args.out.now c.write_give_up.new.out (λ w runs. runs)
    (wrote_once (GiveUp c.args.queue) (give_up_said s.timelines) s c.step.new.self c.in_ok-reply.reply c.args.out.now c.write_give_up.new.out ran.step ran.state
    (rw timelines at c.in_ok-write_give_up.ensures))

pub returns-in_err-write_give_up-clause-stopped : goal.returns-in_err-write_give_up-clause-stopped
returns-in_err-write_give_up-clause-stopped c =
    let s = c.args.session.now in
    let ran = c.in_ok-reply.ensures in
    on_err c.from_residual-in_err-write_give_up.result _ (inr (inr (lost_once (GiveUp c.args.queue) (give_up_said s.timelines) s _ c.in_ok-reply.reply ran.step ran.state)))
