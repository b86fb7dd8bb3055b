use Rattle.std.proofs.Common.{◌-◌, Result}
use Rattle.gv_types.specs.declared.fault.OutOfMemory.{OutOfMemory}
use Rattle.gv_vm.specs.QueueTurns.{AreTurns}
use Rattle.gv_vm.specs.World.{WorldState}
use Rattle.gv_vm.specs.declared.world.turn.TurnResult.{TurnResult}
use Rattle.gv_vm.proofs.world.World.serve_up_to.Given as goal

abbrev pub invariant-loop-done : goal.invariant-loop-done
invariant-loop-done l = record {
  rest : (result : Result TurnResult OutOfMemory) (new : WorldState) → AreTurns (l.number - l.told - l.done) l.queue l.number l.self result new →
      AreTurns (l.number - l.told) l.queue l.number l.fn.self result new;
}
