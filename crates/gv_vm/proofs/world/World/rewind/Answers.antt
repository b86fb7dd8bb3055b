use Rattle.std.proofs.Common.{ap}
use Rattle.gv_vm.specs.State.{VmState}
use Rattle.gv_vm.specs.World.{WorldState}
use Rattle.gv_vm.specs.WorldInside.{world_of}
use Rattle.gv_vm.proofs.SameLimits.{limits-rewound, same_space}
use Rattle.gv_vm.proofs.AfterVmCall.{vm_keeps}
use Rattle.gv_vm.proofs.world.World.rewind.Goals as goal

pub invariant_of-self : goal.invariant_of-self
invariant_of-self c =
    let w : WorldState = world_of c.self.inside in
    vm_keeps w c.rewind.new.self c.self.invariant
    (limits-rewound w.vm.space c.rewind.new.self.space w.vm.journal c.rewind.new.self.journal c.rewind.result c.rewind.ensures.item (same_space c.rewind.new.self w.vm c.rewind.result c.rewind.ensures.err))
    (ap (λ (v : VmState). v.told) c.rewind.ensures.rest) (ap (λ (v : VmState). v.forgotten) c.rewind.ensures.rest)
