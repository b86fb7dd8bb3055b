use Rattle.gv_vm.specs.VmInside.{parts_of}
use Rattle.gv_vm.proofs.VmInvariant.{IsVm-buffers, ended_buffers}
use Rattle.gv_vm.proofs.vm.Vm.job_end.Goals as goal

pub invariant_of-self : goal.invariant_of-self
invariant_of-self c =
    IsVm-buffers (parts_of c.self.inside) c.end-ended.new.space c.end-ended.new.self c.self.invariant
    (ended_buffers c.self.inside.space c.end-ended.new.space c.self.inside.jobs c.end-ended.new.self c.args.number c.end-ended.result c.end-ended.ensures.ended c.end-ended.ensures.space)
    c.end-ended.ensures.kept c.list-list.ensures.space c.end-ended.ensures.held
