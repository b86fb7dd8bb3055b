use Rattle.std.proofs.Common.{subst, refl, ℕ}
use Rattle.std.specs.List.{flat_map, list_any}
use Rattle.gv_vm.specs.Plans.{serving, IsCarriedOut}
use Rattle.gv_session.specs.ReplyTexts.{told, reply_out_of_memory}
use Rattle.gv_session.proofs.AnswerLemmas.{then_ok}
use Rattle.gv_lines.specs.declared.line.Line.TheVariants as line
use Rattle.gv_session.proofs.StoppedLemmas.{leaves_any, leaves_amid}
use Rattle.gv_session.proofs.run.bind.Goals as goal

pub returns-clause-done : goal.returns-clause-done
returns-clause-done c =
    let s = c.args.session.now in
    let asked = c.in_ok-asked.asked in
    then_ok c.run_request.result _ _ (λ ran. record {
      written = record { text = flat_map (told s.timelines) ran.0; out_of_memory = list_any reply_out_of_memory ran.0 };
      text = ran.1.wrote;
      runs = record {
        request = asked.1;
        asked = record {
          ops = rw c.buffers.ensures at c.in_ok-asked.ensures.ops;
          waits = rw c.timelines.ensures.names at c.in_ok-asked.ensures.waits;
          signals = rw c.timelines.ensures.names at c.in_ok-asked.ensures.signals;
        };
        does = record {
          replies = ran.0;
          carried_out = subst (λ (q : ℕ). IsCarriedOut (serving q asked.1) s.world ran.0 c.run_request.new.session.world) c.in_ok-asked.ensures.queue ran.2;
          written = refl;
          state = ran.1.state;
        };
      };
    }) c.run_request.ensures.goes

pub returns-in_err-asked-clause-stopped : goal.returns-in_err-asked-clause-stopped
returns-in_err-asked-clause-stopped c = leaves_any (line.Bind c.args.clauses.now) _ _ c.from_residual.result refl

pub returns-clause-stopped : goal.returns-clause-stopped
returns-clause-stopped c =
    let s = c.args.session.now in
    let asked = c.in_ok-asked.asked in
    leaves_amid c.args.clauses.now s c.run_request.new.session c.run_request.result asked.1 asked.0 c.in_ok-asked.ensures.queue
    (record {
      ops = rw c.buffers.ensures at c.in_ok-asked.ensures.ops;
      waits = rw c.timelines.ensures.names at c.in_ok-asked.ensures.waits;
      signals = rw c.timelines.ensures.names at c.in_ok-asked.ensures.signals;
    }) c.run_request.ensures.memory c.run_request.ensures.stopped
