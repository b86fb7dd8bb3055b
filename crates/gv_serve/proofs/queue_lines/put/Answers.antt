use Rattle.std.proofs.Common.{◌≡◌, ℕ, List, subst, inr}
use Rattle.std.specs.List.{flat_map}
use Rattle.gv_types.specs.declared.request.Request.{Request}
use Rattle.gv_vm.specs.Plans.{once}
use Rattle.gv_vm.specs.declared.event.Event.TheVariants.{Put}
use Rattle.gv_lines.specs.Clause.{queue_asked}
use Rattle.gv_lines.specs.declared.clause.Clause.{Clause}
use Rattle.gv_session.specs.Requests.{IsRequest}
use Rattle.gv_session.specs.Line.{Written, Does}
use Rattle.gv_session.specs.State.{SessionState}
use Rattle.gv_session.proofs.LinesLemmas.{wrote_once, wrote_as}
use Rattle.gv_session.proofs.StoppedLemmas.{on_err, lost_once}
use Rattle.gv_serve.specs.DialogueLine.{Puts, put_said}
use Rattle.gv_serve.proofs.queue_lines.put.Goals as goal

puts : (clauses : List Clause) (s t : SessionState) (w : Written) (request : Request) (queue : ℕ) → queue ≡ queue_asked clauses → IsRequest s clauses request →
    Does (once (Put queue request)) (flat_map put_said) s w t → Puts clauses s w t
puts clauses s t w request queue is asked does =
    record { request = request; asked = asked; does = subst (λ (q : ℕ). Does (once (Put q request)) (flat_map put_said) s w t) is does }

pub returns-clause-done : goal.returns-clause-done
returns-clause-done c =
    let s = c.args.session.now in
    let asked = c.in_ok-queue in
    let ran = c.in_ok-reply.ensures in
    let is : IsRequest s c.args.clauses.now asked.request = record {
      ops = rw c.buffers.ensures at asked.ensures.ops;
      waits = rw c.timelines.ensures.names at asked.ensures.waits;
      signals = rw c.timelines.ensures.names at asked.ensures.signals;
    } in
    wrote_as (Does (once (Put asked.queue asked.request)) (flat_map put_said)) (Puts c.args.clauses.now) s c.step.new.self c.args.out.now c.write_put.new.out
    (λ w does. puts c.args.clauses.now s c.step.new.self w asked.request asked.queue asked.ensures.queue is does)
    (wrote_once (Put asked.queue asked.request) put_said s c.step.new.self c.in_ok-reply.reply c.args.out.now c.write_put.new.out ran.step ran.state c.in_ok-write_put.ensures)

pub returns-in_err-write_put-clause-stopped : goal.returns-in_err-write_put-clause-stopped
returns-in_err-write_put-clause-stopped c =
    let s = c.args.session.now in
    let asked = c.in_ok-queue in
    let ran = c.in_ok-reply.ensures in
    let is : IsRequest s c.args.clauses.now asked.request = record {
      ops = rw c.buffers.ensures at asked.ensures.ops;
      waits = rw c.timelines.ensures.names at asked.ensures.waits;
      signals = rw c.timelines.ensures.names at asked.ensures.signals;
    } in
    let lost = lost_once (Put asked.queue asked.request) put_said s c.step.new.self c.in_ok-reply.reply ran.step ran.state in
    on_err c.from_residual-in_err-write_put.result _ (inr (inr (lost.0, puts c.args.clauses.now s c.step.new.self lost.0 asked.request asked.queue asked.ensures.queue is lost.1)))
