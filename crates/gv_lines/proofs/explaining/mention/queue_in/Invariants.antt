use Rattle.std.proofs.Common.{length}
use Rattle.gv_lines.proofs.explaining.mention.queue_in.Given as goal

abbrev pub decreases-loop-found : goal.decreases-loop-found
decreases-loop-found l = length l.cursor.words
