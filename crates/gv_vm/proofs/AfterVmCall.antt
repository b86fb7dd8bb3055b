-- What holds of the queues of a world still holds after a call on its machine.
use Rattle.std.proofs.Common.{◌≡◌, length, refl, ap}
use Rattle.gv_vm.specs.State.{VmState}
use Rattle.gv_vm.specs.World.{WorldState}
use Rattle.gv_vm.specs.Queues.{AreQueues}
use Rattle.gv_vm.proofs.AllQueuesInvariant.{AreQueues-rest}

-- the world with another machine
abbrev pub with_vm : WorldState → VmState → WorldState
with_vm w v = record w { vm = v }

pub vm_keeps : (w : WorldState) (v : VmState) → AreQueues w → v.space.limits ≡ w.vm.space.limits → v.told ≡ w.vm.told → v.forgotten ≡ w.vm.forgotten → AreQueues (with_vm w v)
vm_keeps w v holds limits told forgotten =
    AreQueues-rest w (with_vm w v) holds refl (record { limit = ap (λ l. l.told) limits; forgotten = forgotten; timelines = refl; told = ap (λ ls. length ls) told }) told
