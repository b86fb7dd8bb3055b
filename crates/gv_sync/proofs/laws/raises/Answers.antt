use Rattle.gv_sync.proofs.Raised.{is_greatest, is_reached, once_more}
use Rattle.gv_sync.proofs.laws.raises.Goals as goal

pub returns-clause-greatest : goal.returns-clause-greatest
returns-clause-greatest c = is_greatest

pub returns-clause-reached : goal.returns-clause-reached
returns-clause-reached c = is_reached

pub returns-clause-once_more : goal.returns-clause-once_more
returns-clause-once_more c = once_more
