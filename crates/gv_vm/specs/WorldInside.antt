-- What a `World` keeps of its parts. No public clause cites this module.
use Rattle.gv_vm.specs.World.{WorldState}
use Rattle.gv_vm.specs.Queues.{AreQueues}
use Rattle.gv_vm.specs.declared.world.World.TheInside.{Inside}

abbrev pub world_of : Inside → WorldState
world_of w = record { vm = w.vm; numbers = w.clock; depth = w.depth; queues = w.queues.items }

abbrev pub IsSoundWorld : Inside → Type 0
IsSoundWorld w = AreQueues (world_of w)
