use Rattle.std.proofs.Common.{arith, refl}
use Rattle.gv_program.proofs.comparing.refused.Goals as goal

pub returns-in-Ok : goal.returns-in-Ok
returns-in-Ok g c = (2, omega arith, refl)

pub returns-in_default : goal.returns-in_default
returns-in_default g c = (2, omega arith, refl)
