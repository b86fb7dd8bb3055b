use Rattle.std.proofs.Common.{rules}
use Rattle.gv_sync.proofs.StepsKeepRule.{loads}
use Rattle.gv_sync.proofs.timelines.Timelines.load.Goals as goal

pub load-requires : goal.load-requires
load-requires c = (search rules, search rules, loads _ _ _ _ _ _ (search rules))
