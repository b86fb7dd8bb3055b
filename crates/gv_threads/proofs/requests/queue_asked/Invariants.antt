use Rattle.std.proofs.Common.{◌≡◌, length, MatchOption}
use Rattle.gv_lines.specs.Clause.{queue_asked}
use Rattle.gv_threads.specs.ReadSoFar.{AreTimed}
use Rattle.gv_threads.proofs.requests.queue_asked.Given as goal

abbrev pub invariant-loop-clause : goal.invariant-loop-clause
invariant-loop-clause l = record {
  so_far : AreTimed l.timelines.names l.remaining → AreTimed l.timelines.names l.clauses;
  whole : AreTimed l.timelines.names l.clauses → AreTimed l.timelines.names l.remaining;
  asked : MatchOption l.asked (queue_asked l.remaining ≡ queue_asked l.clauses) (λ queue. queue ≡ queue_asked l.clauses);
}

abbrev pub decreases-loop-clause : goal.decreases-loop-clause
decreases-loop-clause l = length l.remaining
