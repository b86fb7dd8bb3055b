use Rattle.std.proofs.Common.{length}
use Rattle.gv_space_tests.proofs.changes.+keep_first.Given as goal

abbrev pub decreases-keep_first : goal.decreases-keep_first
decreases-keep_first l = length l.edits.now
