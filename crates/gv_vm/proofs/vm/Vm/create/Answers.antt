use Rattle.gv_vm.specs.VmInside.{parts_of}
use Rattle.gv_vm.proofs.VmInvariant.{IsVm-buffers, AreHeld-create}
use Rattle.gv_vm.proofs.vm.Vm.create.Goals as goal

pub invariant_of-self : goal.invariant_of-self
invariant_of-self c =
    IsVm-buffers (parts_of c.self.inside) c.create-created.new.self c.self.inside.jobs c.self.invariant c.create-created.ensures.rest c.create-created.ensures.kept c.list-list.ensures.space
    (AreHeld-create c.lookups.ensures.beside_made c.self.inside.space c.create-created.new.self c.args.pages c.self.inside.jobs.running c.create-created.result c.create-created.ensures.ok c.create-created.ensures.err c.self.invariant.buffers_counted.held)
