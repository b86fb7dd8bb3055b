use Rattle.std.proofs.Common.{◌+◌, ◌≤◌, ◌<◌, length, drop}
use Rattle.std.specs.List.{All}
use Rattle.gv_ranges.specs.List.{AreEnded}
use Rattle.gv_ranges.proofs.search.last_begun.Given as goal

abbrev pub invariant-loop-remaining : goal.invariant-loop-remaining
invariant-loop-remaining l = record {
  some : 0 < l.remaining;
  within : l.index + l.remaining ≤ length l.mappings;
  ended : AreEnded l.mappings l.page l.index;
  later : All (λ m. l.page < m.range.first) (drop (l.index + l.remaining) l.mappings);
}

abbrev pub decreases-loop-remaining : goal.decreases-loop-remaining
decreases-loop-remaining l = l.remaining
