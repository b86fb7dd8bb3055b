use Rattle.std.proofs.Common.{◌-◌, ◌<◌, length, take}
use Rattle.std.specs.List.{All}
use Rattle.gv_chunks.specs.Chunks.{chunks_joined}
use Rattle.gv_ranges.proofs.chunk_search.last_begun_chunk.Given as goal

abbrev pub invariant-loop-last : goal.invariant-loop-last
invariant-loop-last l = record {
  within : l.last < length l.chunks;
  begun : All (λ m. m.range.first < l.page) (chunks_joined (take l.last l.chunks));
}

abbrev pub decreases-loop-last : goal.decreases-loop-last
decreases-loop-last l = length l.chunks - l.last
