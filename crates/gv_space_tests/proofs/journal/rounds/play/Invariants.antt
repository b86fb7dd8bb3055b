use Rattle.gv_journal.specs.Fits.{FitsSpace}
use Rattle.gv_space_tests.proofs.journal.rounds.play.Given as goal

abbrev pub invariant-loop-turn_number : goal.invariant-loop-turn_number
invariant-loop-turn_number l = FitsSpace l.space l.journal
