use Rattle.std.proofs.Common.{◌≡◌, drop, None}
use Rattle.gv_vm.specs.HeldEntries.{least_held}
use Rattle.gv_vm.proofs.vm.Vm.least_held.Given as goal

abbrev pub invariant-loop-outcome : goal.invariant-loop-outcome
invariant-loop-outcome l = least_held l.self.journal l.queue l.to None l.told ≡ least_held l.self.journal l.queue l.to l.least (drop l.outcome-index l.told)
