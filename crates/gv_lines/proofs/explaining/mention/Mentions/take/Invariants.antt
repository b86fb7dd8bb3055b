use Rattle.std.proofs.Common.{length}
use Rattle.gv_lines.proofs.explaining.mention.Mentions.take.Given as goal

abbrev pub decreases-loop-found : goal.decreases-loop-found
decreases-loop-found l = length l.self.cursor.words
