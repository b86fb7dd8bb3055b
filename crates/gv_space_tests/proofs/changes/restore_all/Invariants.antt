use Rattle.gv_space.specs.Undo.{AreAmongKept}
use Rattle.gv_space_tests.proofs.changes.restore_all.Given as goal

abbrev pub invariant-loop-clause : goal.invariant-loop-clause
invariant-loop-clause l = AreAmongKept l.space l.saved.change.taken
