use Rattle.std.proofs.Common.{rules}
use Rattle.gv_sync.proofs.StepsKeepRule.{splits}
use Rattle.gv_sync.proofs.timelines.Timelines.share.Goals as goal

pub split_seat-pass-requires : goal.split_seat-pass-requires
split_seat-pass-requires c = (search rules, search rules, splits _ _ _)
