use Rattle.std.proofs.Common.{◌≡◌}
use Rattle.gv_vm.specs.QueueOutcomes.{lists_of, forgotten_in}
use Rattle.gv_vm.proofs.told.shrink_all.Given as goal

abbrev pub invariant-loop-queue : goal.invariant-loop-queue
invariant-loop-queue l = record {
  list : lists_of l.told ≡ lists_of l.fn.told;
  forgotten : forgotten_in l.told ≡ forgotten_in l.fn.told;
}
