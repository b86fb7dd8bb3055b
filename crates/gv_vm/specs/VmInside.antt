-- What a `Vm` keeps of its parts. No public clause cites this module.
use Rattle.gv_vm.specs.State.{VmState, IsVm, roomless}
use Rattle.gv_vm.specs.QueueOutcomes.{lists_of, forgotten_in}
use Rattle.gv_vm.specs.declared.vm.Vm.TheInside.{Inside}

-- its parts, with the room that there is
abbrev pub parts_of : Inside → VmState
parts_of v = record { space = v.space; journal = v.journal; jobs = v.jobs; told = lists_of v.told; forgotten = forgotten_in v.told }

abbrev pub vm_of : Inside → VmState
vm_of v = record (parts_of v) { space = roomless v.space }

abbrev pub IsSoundVm : Inside → Type 0
IsSoundVm v = IsVm (parts_of v)
