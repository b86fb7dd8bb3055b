use Rattle.std.proofs.Common.{length, take}
use Rattle.gv_lines.specs.Words.{words}
use Rattle.gv_lines.proofs.FirstSeparator.{IsCut}
use Rattle.gv_lines.proofs.words.Words.split.Given as goal

abbrev pub invariant-loop-word : goal.invariant-loop-word
invariant-loop-word l = IsCut (take l.limit (words l.rest)) l.before l.left

abbrev pub decreases-loop-word : goal.decreases-loop-word
decreases-loop-word l = length l.left
