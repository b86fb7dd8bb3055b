use Rattle.std.proofs.Common.{rules}
use Rattle.gv_sync.proofs.StepsKeepRule.{raises}
use Rattle.gv_sync.proofs.timelines.Timelines.fetch_max.Goals as goal

pub fetch_max-requires : goal.fetch_max-requires
fetch_max-requires c = (search rules, search rules, raises _ _ _ _ _ _ _ (search rules))
