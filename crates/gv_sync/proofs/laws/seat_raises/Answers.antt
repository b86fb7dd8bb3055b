use Rattle.gv_sync.proofs.SeatSteps.{none_yet, one_more}
use Rattle.gv_sync.proofs.laws.seat_raises.Goals as goal

pub returns-clause-none : goal.returns-clause-none
returns-clause-none c = none_yet

pub returns-clause-one_more : goal.returns-clause-one_more
returns-clause-one_more c = one_more
