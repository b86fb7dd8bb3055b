use Rattle.std.proofs.Common.{◌≡◌, ◌∙◌, ap, subst, ℕ, List, None}
use Rattle.gv_vm.specs.State.{roomless}
use Rattle.gv_vm.specs.VmInside.{parts_of}
use Rattle.gv_vm.specs.QueueOutcomes.{lists_of, forgotten_in}
use Rattle.gv_vm.specs.BindOutcome.{CameTo, seen_by}
use Rattle.gv_vm.specs.Outcomes.{with_outcome, tell_fault}
use Rattle.gv_vm.specs.declared.outcome.Outcome.{Outcome}
use Rattle.gv_vm.proofs.OutcomeAdded.{IsVm-bound, none_if_prepared}
use Rattle.gv_vm.proofs.vm.Vm.bind.Goals as goal

pub invariant_of-self-2 : goal.invariant_of-self-2
invariant_of-self-2 c =
    let none : tell_fault c.told_limit-limit.result (lists_of c.self.inside.told) c.args.queue c.args.number ≡ None = none_if_prepared _ c.in_default.field-0 c.in_default.ensures.fault in
    let came : CameTo (roomless c.self.inside.space) (roomless c.dispatch-outcome.new.space) c.self.inside.journal c.dispatch-outcome.new.journal c.args.queue c.args.number c.args.request (seen_by c.args.reached.now) c.dispatch-outcome.result =
    subst (λ (seen : List ℕ). CameTo (roomless c.self.inside.space) (roomless c.dispatch-outcome.new.space) c.self.inside.journal c.dispatch-outcome.new.journal c.args.queue c.args.number c.args.request seen c.dispatch-outcome.result)
    c.in-Ok.ensures.seen c.dispatch-outcome.ensures.came in
    IsVm-bound (parts_of c.self.inside) c.dispatch-outcome.new.space c.dispatch-outcome.new.journal c.told_limit-limit.result c.args.queue c.args.number c.args.request c.args.reached.now c.dispatch-outcome.result (lists_of c.tell.new.told) (forgotten_in c.tell.new.told)
    c.self.invariant c.dispatch-outcome.ensures.fits c.list-list.ensures.space came c.requires.queue none c.requires.reached c.in-Ok.ensures.reached
    (c.tell.ensures.list ∙ ap (λ (ls : List (List Outcome)). with_outcome ls c.args.queue c.dispatch-outcome.result) c.prepare.ensures.same) (c.tell.ensures.forgotten ∙ c.prepare.ensures.forgotten)
