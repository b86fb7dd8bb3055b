use Rattle.std.proofs.Common.{arith, refl}
use Rattle.gv_program.proofs.comparing.no_list.Goals as goal

pub returns-then-status-eq-DIFFERENT-clause-status : goal.returns-then-status-eq-DIFFERENT-clause-status
returns-then-status-eq-DIFFERENT-clause-status g c = (2, omega arith, refl)
