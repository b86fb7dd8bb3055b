use Rattle.std.proofs.Common.{length}
use Rattle.gv_space_tests.proofs.changes.+there_and_back.Given as goal

abbrev pub decreases-there_and_back : goal.decreases-there_and_back
decreases-there_and_back l = length l.edits.now
