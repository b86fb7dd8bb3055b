use Rattle.std.proofs.Common.{◌≡◌, replicate, vec_len, vec_capacity}
use Rattle.gv_vm.specs.World.{new_queue}
use Rattle.gv_vm.proofs.world.no_requests.Given as goal

abbrev pub invariant-loop-queue : goal.invariant-loop-queue
invariant-loop-queue l = record { queues : l.queues.items ≡ replicate l.queue new_queue; len : vec_len l.queues ≡ l.queue; room : vec_capacity l.queues ≡ l.count }
