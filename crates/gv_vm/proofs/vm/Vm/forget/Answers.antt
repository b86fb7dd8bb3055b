use Rattle.std.proofs.Common.{◌≡◌, ◌<◌, ◌≤◌, ◌++◌, length, drop, replicate, arith, sym, ◌∙◌, ap, subst, None}
use Rattle.std.specs.Vec.{with_item}
use Rattle.std.proofs.lemmas.List.{length-map}
use Rattle.gv_vm.specs.Outcomes.{forgotten_outcome, told_to}
use Rattle.gv_vm.specs.State.{VmState, forgotten_of}
use Rattle.gv_vm.specs.QueueOutcomes.{QueueOutcomesState, lists_of, forgotten_in}
use Rattle.gv_vm.specs.Forgetting.{forget_fault, with_forgotten}
use Rattle.gv_vm.specs.VmInside.{parts_of, vm_of}
use Rattle.gv_vm.proofs.OutcomeLists.{list_of, list_forgotten, count_forgotten}
use Rattle.gv_vm.proofs.Forgettings.{IsVm-forget, forgot, none_from}
use Rattle.gv_vm.proofs.vm.Vm.forget.Goals as goal

-- no fault
none : (c : goal.After-self-1) → forget_fault (parts_of c.self.inside) c.args.queue c.args.to ≡ None
none c =
    let v = c.args.self.now in
    let there : c.args.queue < length v.told = omega (arith, c.space-space.ensures.holds.queues, c.if-queue.false) in
    let low : forgotten_of v c.args.queue ≤ c.args.to = omega (arith, c.told_from-first.ensures.number, c.if-to-first.false) in
    let high : c.args.to ≤ length (told_to v.told c.args.queue) = omega (arith, c.told_next.ensures.number, c.if-told_next-to.false) in
    subst (λ (x : VmState). forget_fault x c.args.queue c.args.to ≡ None) (sym c.self.view_is)
    (none_from v c.args.queue c.args.to there low high (sym c.least_held_below.ensures ∙ c.in_default.is))

-- the queues' outcomes afterwards
list_is : (c : goal.After-self-1) → lists_of (with_item c.self.inside.told c.args.queue c.forget.new.self) ≡ (with_forgotten (parts_of c.self.inside) c.args.queue c.args.to).told
list_is c =
    let less : c.args.queue < length c.self.inside.told.items = omega (arith, length-map c.self.inside.told.items list_of, c.self.invariant.queues, c.if-queue.false) in
    list_forgotten c.self.inside.told.items c.args.queue c.args.to c.forget.new.self c.index_mut.result.now less
    (c.forget.ensures.list ∙ ap (λ (t : QueueOutcomesState). replicate c.args.to forgotten_outcome ++ drop c.args.to t.list) c.index_mut.ensures.value)

gone_is : (c : goal.After-self-1) → forgotten_in (with_item c.self.inside.told c.args.queue c.forget.new.self) ≡ (with_forgotten (parts_of c.self.inside) c.args.queue c.args.to).forgotten
gone_is c = count_forgotten c.self.inside.told.items c.args.queue c.args.to c.forget.new.self c.forget.ensures.forgotten

pub invariant_of-self : goal.invariant_of-self
invariant_of-self c =
    IsVm-forget (parts_of c.self.inside) c.args.queue c.args.to _ _ c.self.invariant (none c) (list_is c) (gone_is c)

pub returns-clause-forgotten : goal.returns-clause-forgotten
returns-clause-forgotten c =
    forgot (vm_of c.self.inside) c.args.queue c.args.to _ _ (list_is c) (gone_is c) ∙ ap (λ (v : VmState). with_forgotten v c.args.queue c.args.to) c.self.view_is
