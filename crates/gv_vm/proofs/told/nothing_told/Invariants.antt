use Rattle.std.proofs.Common.{◌≡◌, [], replicate, vec_len, vec_capacity}
use Rattle.gv_vm.specs.Outcomes.{queues}
use Rattle.gv_vm.specs.QueueOutcomes.{lists_of, forgotten_in}
use Rattle.gv_vm.proofs.told.nothing_told.Given as goal

abbrev pub invariant-loop-queue : goal.invariant-loop-queue
invariant-loop-queue l = record {
  told : lists_of l.told ≡ replicate l.queue [];
  forgotten : forgotten_in l.told ≡ replicate l.queue 0;
  len : vec_len l.told ≡ l.queue;
  room : vec_capacity l.told ≡ queues;
}
