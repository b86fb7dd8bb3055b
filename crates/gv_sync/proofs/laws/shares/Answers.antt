use Rattle.gv_sync.proofs.Shares.{none_from_elsewhere, only_seat, own_raise}
use Rattle.gv_sync.proofs.laws.shares.Goals as goal

pub returns-clause-no_more : goal.returns-clause-no_more
returns-clause-no_more c = none_from_elsewhere

pub returns-clause-only : goal.returns-clause-only
returns-clause-only c = only_seat

pub returns-clause-numbers : goal.returns-clause-numbers
returns-clause-numbers c = own_raise
