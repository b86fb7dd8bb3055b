use Rattle.std.proofs.Common.{subst}
use Rattle.gv_vm.specs.State.{IsVm}
use Rattle.gv_vm.specs.VmInside.{parts_of}
use Rattle.gv_vm.proofs.Roomless.{IsVm-roomless}
use Rattle.gv_vm.proofs.vm.Vm.space.Goals as goal

pub returns-clause-holds : goal.returns-clause-holds
returns-clause-holds c = subst IsVm c.self.view_is (IsVm-roomless (parts_of c.self.inside) c.self.invariant)
