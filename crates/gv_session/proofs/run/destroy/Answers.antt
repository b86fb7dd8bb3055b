use Rattle.std.proofs.Common.{refl, rules}
use Rattle.gv_vm.specs.declared.event.Event.TheVariants.{Destroy}
use Rattle.gv_lines.specs.declared.line.Line.TheVariants as line
use Rattle.gv_session.specs.State.{buffer_named}
use Rattle.gv_session.specs.Line.{Runs, DoesOnce}
use Rattle.gv_session.proofs.AnswerLemmas.{of_found}
use Rattle.gv_session.proofs.StoppedLemmas.{then_on_err, leaves_any, leaves_lost, loses_as}
use Rattle.gv_session.proofs.run.destroy.Goals as goal

pub returns-in_err-id-clause-stopped : goal.returns-in_err-id-clause-stopped
returns-in_err-id-clause-stopped c = leaves_any (line.Destroy c.args.name.now) _ _ c.from_residual.result refl

pub returns-clause-stopped : goal.returns-clause-stopped
returns-clause-stopped c =
    leaves_lost (line.Destroy c.args.name.now) _ _ c.run_event.result c.run_event.ensures.memory (then_on_err c.run_event.result _ _ (
    loses_as (DoesOnce (Destroy c.in_ok-id.id)) (Runs (line.Destroy c.args.name.now)) _ _ (λ w runs. of_found (buffer_named c.args.session.now.buffers c.args.name.now) c.in_ok-id.id _ (search rules) runs)) c.run_event.ensures.stopped)
