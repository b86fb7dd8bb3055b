-- What a request in hand keeps. No public clause cites this module.
use Rattle.gv_vm.specs.World.{HandState}
use Rattle.gv_vm.specs.Queues.{IsInOrder}
use Rattle.gv_vm.specs.declared.queue.Hand.TheInside.{Inside}

abbrev pub hand_of : Inside → HandState
hand_of h = record { request = h.request; reached = h.reached.items; lacked = h.lacked }

abbrev pub IsSoundHand : Inside → Type 0
IsSoundHand h = IsInOrder (hand_of h)
