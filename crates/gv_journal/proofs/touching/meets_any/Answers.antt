use Rattle.std.proofs.Common.{sym, rules}
use Rattle.gv_journal.proofs.Touches.{nowhere_met}
use Rattle.gv_journal.proofs.touching.meets_any.Goals as goal

pub returns-in-None : goal.returns-in-None
returns-in-None c = sym (nowhere_met c.args.op.now c.args.others.now (search rules))
