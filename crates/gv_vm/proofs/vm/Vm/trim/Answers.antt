use Rattle.std.proofs.Common.{◌≡◌, [], reverse, sym, ◌∙◌}
use Rattle.std.proofs.lemmas.List.{nil_from_length}
use Rattle.std.proofs.lemmas.Bool.{eqb-true}
use Rattle.gv_vm.specs.State.{VmState}
use Rattle.gv_vm.specs.VmInside.{parts_of}
use Rattle.gv_vm.proofs.Roomless.{IsVm-room, none_of_empty}
use Rattle.gv_vm.proofs.vm.Vm.trim.Goals as goal

pub invariant_of-self : goal.invariant_of-self
invariant_of-self c =
    let v : VmState = parts_of c.self.inside in
    let empty : reverse v.journal.items ≡ [] = sym c.items.ensures.value ∙ nil_from_length c.items.result.now (eqb-true _ _ (sym c.is_empty.ensures ∙ c.if-not-is_empty.false)) in
    rw (c.trim-2.ensures, c.shrink.ensures, c.shrink_all.ensures.list, c.shrink_all.ensures.forgotten)
    (IsVm-room v c.trim.new.self c.self.invariant (none_of_empty v.journal empty) c.trim.ensures.state)
