use Rattle.std.proofs.Common.{ap}
use Rattle.gv_vm.specs.State.{VmState}
use Rattle.gv_vm.specs.World.{WorldState}
use Rattle.gv_vm.specs.WorldInside.{world_of}
use Rattle.gv_vm.proofs.SameLimits.{limits-withdrawn, same_space}
use Rattle.gv_vm.proofs.AfterVmCall.{vm_keeps}
use Rattle.gv_vm.proofs.world.World.withdraw.Goals as goal

pub invariant_of-self : goal.invariant_of-self
invariant_of-self c =
    let w : WorldState = world_of c.self.inside in
    vm_keeps w c.withdraw.new.self c.self.invariant
    (limits-withdrawn w.vm.space c.withdraw.new.self.space w.vm.journal c.withdraw.new.self.journal c.args.entry c.withdraw.result c.withdraw.ensures.withdrawn (same_space c.withdraw.new.self w.vm c.withdraw.result c.withdraw.ensures.err))
    (ap (λ (v : VmState). v.told) c.withdraw.ensures.rest) (ap (λ (v : VmState). v.forgotten) c.withdraw.ensures.rest)
