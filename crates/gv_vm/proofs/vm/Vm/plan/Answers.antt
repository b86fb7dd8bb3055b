use Rattle.std.proofs.Common.{◌≡◌, subst, Err}
use Rattle.std.specs.Prelude.{MatchOption, IsOkUnless}
use Rattle.gv_types.specs.declared.fault.Fault.TheVariants.{OutOfMemory}
use Rattle.gv_space.specs.Refusal.{operation_fault}
use Rattle.gv_vm.specs.State.{VmState}
use Rattle.gv_vm.proofs.vm.Vm.plan.Goals as goal

pub returns-clause-fault : goal.returns-clause-fault
returns-clause-fault c =
    subst (λ (v : VmState). MatchOption (operation_fault v.space c.args.op.now) (IsOkUnless c.plan.result OutOfMemory) (λ fault. c.plan.result ≡ Err fault))
    c.self.view_is c.plan.ensures.fault
