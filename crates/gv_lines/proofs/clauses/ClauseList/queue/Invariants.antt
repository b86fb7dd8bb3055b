use Rattle.std.proofs.Common.{◌≡◌, length}
use Rattle.gv_lines.specs.Clause.{queue_asked}
use Rattle.gv_lines.proofs.clauses.ClauseList.queue.Given as goal

abbrev pub invariant-loop-clause : goal.invariant-loop-clause
invariant-loop-clause l = queue_asked l.self ≡ queue_asked l.left

abbrev pub decreases-loop-clause : goal.decreases-loop-clause
decreases-loop-clause l = length l.left
