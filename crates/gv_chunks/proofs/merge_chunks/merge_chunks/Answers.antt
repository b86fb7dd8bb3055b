use Rattle.std.proofs.Common.{◌≡◌, ◌+◌, ◌-◌, ◌<◌, ◌≤◌, ◌∙◌, ◌++◌, arith, drop, length}
use Rattle.gv_chunks.proofs.MergedLemmas.{few_standing, behind_joined, spare_joined, merged_joined}
use Rattle.gv_chunks.proofs.merge_chunks.merge_chunks.Goals as goal

pub loop-k-preserved-then-len-le-CHUNK : goal.loop-k-preserved-then-len-le-CHUNK
loop-k-preserved-then-len-le-CHUNK c =
    let same : length c.join.new.chunks ≡ length c.loop-k.chunks = omega arith in
    let room : c.loop-k.used_count ≤ length c.loop-k.chunks = omega arith in
    let ahead : c.loop-k.k ≤ c.loop-k.used_count = c.loop-k.invariant.ahead in
    let pair : c.loop-k.k - 1 - 1 + 1 < c.loop-k.used_count = omega arith in
    let within : c.loop-k.k - 1 - 1 + 1 < length c.loop-k.chunks = omega arith in
    let next : c.loop-k.k - 1 ≡ c.loop-k.k - 1 - 1 + 1 = omega arith in
    let behind : drop (c.loop-k.k - 1 - 1 + 1) c.join.new.chunks ≡ drop (c.loop-k.k - 1 - 1 + 2) c.loop-k.chunks ++ drop (length c.loop-k.chunks - 1) c.join.new.chunks =
    behind_joined c.loop-k.chunks c.join.new.chunks (c.loop-k.k - 1 - 1) within same c.join.ensures.behind in
    record {
      items = c.join.ensures.items ∙ c.loop-k.invariant.items;
      fewer = omega arith;
      ahead = omega arith;
      some = λ _. omega arith;
      spare = spare_joined c.loop-k.chunks c.join.new.chunks (c.loop-k.k - 1 - 1) c.loop-k.used_count pair room behind c.loop-k.invariant.spare c.join.ensures.spare;
      merged = merged_joined c.loop-k.chunks c.join.new.chunks (c.loop-k.k - 1 - 1) c.loop-k.used_count pair room same behind c.join.ensures.joint (rw next at c.loop-k.invariant.merged);
      chunks = c.join.ensures.chunks;
    }

pub returns-clause-few : goal.returns-clause-few
returns-clause-few c =
    few_standing c.loop-k.chunks c.loop-k.used_count (omega arith) c.loop-k.invariant.spare (λ j d low pair. c.loop-k.invariant.merged j d (omega arith) pair)
