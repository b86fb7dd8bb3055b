use Rattle.gv_vm.specs.VmInside.{parts_of}
use Rattle.gv_vm.proofs.Settled.{IsVm-settle}
use Rattle.gv_vm.proofs.vm.Vm.settle.Goals as goal

pub invariant_of-self : goal.invariant_of-self
invariant_of-self c =
    IsVm-settle (parts_of c.self.inside) c.settle-settled.new.space c.settle-settled.new.self c.args.to c.settle-settled.result c.self.invariant c.settle-settled.ensures.accepted c.settle-settled.ensures.settled
    c.settle-settled.ensures.space_unchanged c.settle-settled.ensures.unchanged c.settle-settled.ensures.fits c.list-list.ensures.space
