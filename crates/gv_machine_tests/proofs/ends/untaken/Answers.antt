use Rattle.std.proofs.Common.{◌≡◌, List, [], sym, ap, ◌∙◌}
use Rattle.gv_types.specs.declared.request.Point.{Point}
use Rattle.gv_sync.specs.Raises.{raised, values_on}
use Rattle.gv_sync.specs.Seats.{SeatState, mark_of}
use Rattle.gv_sync.proofs.LookLemmas.{split_raised}
use Rattle.gv_vm.specs.declared.outcome.Outcome.{Outcome}
use Rattle.gv_queues.specs.Paying.{all_owed}
use Rattle.gv_machine_tests.proofs.ends.untaken.Goals as goal

pub new-worker-requires-clause-raised : goal.new-worker-requires-clause-raised
new-worker-requires-clause-raised g c =
    let none : all_owed c.new.result.items c.new-taker.result.taken ≡ [] = ap (λ (l : List Outcome). all_owed l c.new-taker.result.taken) c.new.ensures.items in
    let given = c.in_ok-own.ensures.given in record {
      raises = ap (λ (s : SeatState). s.raises) given ∙ sym none;
      raised = λ t.
          ap (λ (s : SeatState). (mark_of s t).raised) given
          ∙ (split_raised c.args.seat.now t ∙ sym (ap (λ (l : List Point). raised (values_on t l)) none));
    }
