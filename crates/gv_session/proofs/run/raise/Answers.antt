use Rattle.std.proofs.Common.{refl, rules}
use Rattle.gv_vm.specs.declared.event.Event.TheVariants.{Raise}
use Rattle.gv_lines.specs.declared.line.Line.TheVariants as line
use Rattle.gv_session.specs.Requests.{point_named}
use Rattle.gv_session.specs.Line.{Runs, DoesOnce}
use Rattle.gv_session.proofs.AnswerLemmas.{of_found}
use Rattle.gv_session.proofs.StoppedLemmas.{then_on_err, leaves_any, leaves_lost, loses_as}
use Rattle.gv_session.proofs.run.raise.Goals as goal

pub returns-in_err-point-clause-stopped : goal.returns-in_err-point-clause-stopped
returns-in_err-point-clause-stopped c = leaves_any (line.Raise c.args.point.now) _ _ c.from_residual.result refl

pub returns-clause-stopped : goal.returns-clause-stopped
returns-clause-stopped c =
    leaves_lost (line.Raise c.args.point.now) _ _ c.run_event.result c.run_event.ensures.memory (then_on_err c.run_event.result _ _ (
    loses_as (DoesOnce (Raise c.in_ok-point.point)) (Runs (line.Raise c.args.point.now)) _ _ (λ w runs. of_found (point_named c.args.session.now.timelines c.args.point.now) c.in_ok-point.point _ (search rules) runs)) c.run_event.ensures.stopped)
