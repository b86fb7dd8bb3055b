use Rattle.gv_sync.proofs.StepsKeepRule.{begins, loads, raises, splits}
use Rattle.gv_sync.proofs.laws.steps.Goals as goal

pub returns-clause-new : goal.returns-clause-new
returns-clause-new c = begins

pub returns-clause-load : goal.returns-clause-load
returns-clause-load c = loads

pub returns-clause-raise : goal.returns-clause-raise
returns-clause-raise c = raises

pub returns-clause-split : goal.returns-clause-split
returns-clause-split c = splits
