use Rattle.std.proofs.Common.{◌∙◌, ap, List}
use Rattle.gv_vm.specs.VmInside.{parts_of}
use Rattle.gv_vm.specs.QueueOutcomes.{lists_of, forgotten_in}
use Rattle.gv_vm.specs.Outcomes.{with_outcome}
use Rattle.gv_vm.specs.declared.outcome.Outcome.{Outcome}
use Rattle.gv_vm.specs.declared.outcome.Outcome.TheVariants.{NotReady}
use Rattle.gv_vm.proofs.OutcomeAdded.{IsVm-told}
use Rattle.gv_vm.proofs.vm.Vm.give_up.Goals as goal

pub invariant_of-self-2 : goal.invariant_of-self-2
invariant_of-self-2 c =
    let outcome : Outcome = NotReady c.point.result c.have.result in
    IsVm-told (parts_of c.self.inside) c.args.queue outcome (lists_of c.tell.new.told) (forgotten_in c.tell.new.told) c.self.invariant c.requires.queue
    (c.tell.ensures.list ∙ ap (λ (ls : List (List Outcome)). with_outcome ls c.args.queue outcome) c.prepare.ensures.same) (c.tell.ensures.forgotten ∙ c.prepare.ensures.forgotten)
