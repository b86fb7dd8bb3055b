use Rattle.std.proofs.Common.{arith}
use Rattle.std.proofs.lemmas.Grind.{common_steps}
use Rattle.gv_vm.proofs.dispatch.seen_of.Goals as goal

pub loop-point-preserved : goal.loop-point-preserved
loop-point-preserved c = record {
  seen = grind (arith, common_steps);
  reached = grind (arith, common_steps);
  len = grind (arith, common_steps);
  room = grind (arith, common_steps);
}
