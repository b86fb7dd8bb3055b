use Rattle.std.proofs.Common.{length}
use Rattle.gv_lines.proofs.AtMostOneQueue.{IsReadTo}
use Rattle.gv_lines.proofs.clauses.ClauseList.from_parts.Given as goal

abbrev pub invariant-loop-words : goal.invariant-loop-words
invariant-loop-words l = IsReadTo l.parts l.left l.has_queue

abbrev pub decreases-loop-words : goal.decreases-loop-words
decreases-loop-words l = length l.left
