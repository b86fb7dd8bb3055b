use Rattle.gv_journal.specs.Fits.{FitsSpace}
use Rattle.gv_space_tests.proofs.journal.playing.play_all.Given as goal

abbrev pub invariant-loop-row : goal.invariant-loop-row
invariant-loop-row l = FitsSpace l.space l.journal
