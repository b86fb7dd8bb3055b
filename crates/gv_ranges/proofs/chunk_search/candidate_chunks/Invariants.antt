use Rattle.std.proofs.Common.{◌+◌, ◌≤◌, ◌<◌, length, take, drop}
use Rattle.std.specs.List.{All}
use Rattle.gv_types.specs.PageRange.{end_of}
use Rattle.gv_chunks.specs.Chunks.{chunks_joined}
use Rattle.gv_ranges.proofs.chunk_search.candidate_chunks.Given as goal

abbrev pub invariant-loop-remaining : goal.invariant-loop-remaining
invariant-loop-remaining l = record {
  some : 0 < l.remaining;
  within : l.chunk + l.remaining ≤ length l.chunks;
  ended : All (λ m. end_of m.range ≤ l.page) (chunks_joined (take l.chunk l.chunks));
  later : All (λ m. l.page < m.range.first) (chunks_joined (drop (l.chunk + l.remaining) l.chunks));
}

abbrev pub decreases-loop-remaining : goal.decreases-loop-remaining
decreases-loop-remaining l = l.remaining
