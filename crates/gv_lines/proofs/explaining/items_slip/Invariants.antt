use Rattle.std.proofs.Common.{length}
use Rattle.gv_lines.proofs.explaining.items_slip.Given as goal

abbrev pub decreases-loop-words : goal.decreases-loop-words
decreases-loop-words l = length l.parts
