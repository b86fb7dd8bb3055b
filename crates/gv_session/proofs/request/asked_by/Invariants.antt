use Rattle.std.proofs.Common.{◌≡◌, true, length}
use Rattle.gv_session.specs.Line.{AreDeclared}
use Rattle.gv_session.specs.LineProgress.{IsAskedTo}
use Rattle.gv_session.proofs.request.asked_by.Given as goal

abbrev pub invariant-loop-clause : goal.invariant-loop-clause
invariant-loop-clause l = record {
  asked : l.has_memory ≡ true → IsAskedTo l.names.entries l.timelines.names l.clauses l.remaining l.asked;
  so_far : AreDeclared l.names.entries l.timelines.names l.remaining → AreDeclared l.names.entries l.timelines.names l.clauses;
  whole : AreDeclared l.names.entries l.timelines.names l.clauses → AreDeclared l.names.entries l.timelines.names l.remaining;
}

abbrev pub decreases-loop-clause : goal.decreases-loop-clause
decreases-loop-clause l = length l.remaining
