use Rattle.std.proofs.Common.{refl, sym, arith}
use Rattle.gv_c.proofs.Written.{over_nil}
use Rattle.gv_c.proofs.entry.write_asked.Goals as goal

pub returns-in-Withdrawal : goal.returns-in-Withdrawal
returns-in-Withdrawal c = rw c.in-Withdrawal.is (record { list = sym (over_nil c.args.list.now); written = omega arith; in_all = refl })
