use Rattle.std.proofs.Common.{length}
use Rattle.gv_lines.proofs.explaining.pattern_slip.Given as goal

abbrev pub decreases-loop-part : goal.decreases-loop-part
decreases-loop-part l = length l.parts
