use Rattle.gv_vm.specs.VmInside.{parts_of}
use Rattle.gv_vm.proofs.VmInvariant.{IsVm-buffers, AreHeld-destroy, only_buffers}
use Rattle.gv_vm.proofs.vm.Vm.destroy.Goals as goal

pub invariant_of-self : goal.invariant_of-self
invariant_of-self c =
    IsVm-buffers (parts_of c.self.inside) c.destroy-destroyed.new.self c.self.inside.jobs c.self.invariant
    (only_buffers c.self.inside.space c.destroy-destroyed.new.self c.args.id c.destroy-destroyed.result c.destroy-destroyed.ensures.ok c.destroy-destroyed.ensures.err)
    c.destroy-destroyed.ensures.kept c.list-list.ensures.space
    (AreHeld-destroy c.lookups.ensures.beside_destroyed c.self.inside.space c.destroy-destroyed.new.self c.args.id c.self.inside.jobs.running c.destroy-destroyed.result c.destroy-destroyed.ensures.fault c.destroy-destroyed.ensures.ok c.destroy-destroyed.ensures.err c.self.invariant.buffers_counted.held)
