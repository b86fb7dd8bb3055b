-- The lock may be shared, since what it holds may go to another thread.
use denote.Param.Send.{IsSync, sendable}
use denote.Param.SendFields.{declared_sync}
use Rattle.std.proofs.Crossing.{crosses}
use Rattle.gv_vm.proofs.SendLemmas.{vm_send}
use Rattle.gv_queues.specs.contracts.vm_lock.VmLock.{the_row as vm_lock, the_type as vm_lock_type}

pub lock_sync : IsSync vm_lock
lock_sync = declared_sync vm_lock_type (search (sendable, crosses, vm_send) depth 8, tt)
