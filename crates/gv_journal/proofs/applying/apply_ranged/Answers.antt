use Rattle.std.proofs.Common.{refl}
use Rattle.gv_space.proofs.FaultLemmas.{first_passed_on}
use Rattle.gv_journal.proofs.applying.apply_ranged.Goals as goal

pub returns-in-Err-clause-fault : goal.returns-in-Err-clause-fault
returns-in-Err-clause-fault c = first_passed_on _ c.check.result _ c.in-Err.fault c.in-Err.is refl _ _ c.check.ensures.fault
