use Rattle.std.proofs.Common.{arith}
use Rattle.gv_journal.proofs.Signs.{one_apart}
use Rattle.gv_journal.proofs.touching.may_meet.Goals as goal

pub loop-index-preserved : goal.loop-index-preserved
loop-index-preserved c low k below =
    one_apart c.args.own.now.first c.args.own.now.past c.args.firsts.now c.args.pasts.now c.loop-index.index c.loop-index.signs (omega (arith, c.loop-index.auto.signs-fits)) c.requires.own
    (c.requires.in_space c.loop-index.index 0 (omega (arith, c.loop-index-test.true, c.requires.beside))) c.loop-index.invariant low k below
