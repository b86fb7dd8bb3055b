use Rattle.std.proofs.Common.{subst}
use Rattle.std.specs.Prelude.{IfOk}
use Rattle.gv_vm.specs.Jobs.{IsBegun}
use Rattle.gv_vm.specs.State.{VmState, roomless}
use Rattle.gv_vm.specs.VmInside.{parts_of}
use Rattle.gv_vm.proofs.VmInvariant.{IsVm-buffers, begun_buffers}
use Rattle.gv_vm.proofs.Roomless.{begun_if}
use Rattle.gv_vm.proofs.vm.Vm.job_begin.Goals as goal

pub invariant_of-self : goal.invariant_of-self
invariant_of-self c =
    IsVm-buffers (parts_of c.self.inside) c.begin-begun.new.space c.begin-begun.new.self c.self.invariant
    (begun_buffers c.self.inside.space c.begin-begun.new.space c.self.inside.jobs c.begin-begun.new.self c.args.accesses.now c.begin-begun.result c.begin-begun.ensures.begun c.begin-begun.ensures.space)
    c.begin-begun.ensures.kept c.list-list.ensures.space c.begin-begun.ensures.held

pub returns-clause-begun : goal.returns-clause-begun
returns-clause-begun c =
    subst (λ (v : VmState). IfOk c.begin-begun.result (IsBegun v.space (roomless c.begin-begun.new.space) v.jobs c.begin-begun.new.self c.args.accesses.now)) c.self.view_is
    (begun_if c.self.inside.space c.begin-begun.new.space c.self.inside.jobs c.begin-begun.new.self c.args.accesses.now c.begin-begun.result c.begin-begun.ensures.begun)
