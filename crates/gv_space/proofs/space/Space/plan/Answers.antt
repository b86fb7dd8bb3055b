use Rattle.std.proofs.Common.{refl}
use Rattle.gv_space.proofs.FaultLemmas.{passed_on}
use Rattle.gv_space.proofs.space.Space.plan.Goals as goal

pub returns-in-Err-clause-fault : goal.returns-in-Err-clause-fault
returns-in-Err-clause-fault c = passed_on _ c.check.result _ c.in-Err.fault c.in-Err.is refl _ c.check.ensures.fault
