use Rattle.gv_vm.specs.Holding.{HoldsSoFar}
use Rattle.gv_vm.proofs.holding.hold_all.Given as goal

abbrev pub invariant-loop-number : goal.invariant-loop-number
invariant-loop-number l = HoldsSoFar l.fn.space l.space l.job l.number l.accesses l.places.items
