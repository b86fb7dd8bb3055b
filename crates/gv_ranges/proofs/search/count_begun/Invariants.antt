use Rattle.std.proofs.Common.{◌-◌, ◌≤◌, ◌<◌, length, take}
use Rattle.std.specs.List.{All}
use Rattle.gv_ranges.proofs.search.count_begun.Given as goal

abbrev pub invariant-loop-count : goal.invariant-loop-count
invariant-loop-count l = record {
  more : l.from ≤ l.count;
  within : l.count ≤ length l.mappings;
  begun : All (λ m. m.range.first < l.page) (take l.count l.mappings);
}

abbrev pub decreases-loop-count : goal.decreases-loop-count
decreases-loop-count l = length l.mappings - l.count
