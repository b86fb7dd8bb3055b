use Rattle.std.proofs.Common.{◌≡◌, ◌+◌, ◌-◌, [], drop, length, arith}
use Rattle.gv_chunks.specs.Chunks.{chunks_joined, AreChunks}
use Rattle.gv_chunks.proofs.ChunkLemmas.{spare_behind, taken_chunks, appended_chunks}
use Rattle.gv_chunks.proofs.PutLemmas.{nothing_from}
use Rattle.gv_chunks.proofs.RunLemmas.{none_behind_front}
use Rattle.gv_chunks.proofs.run.take_out_run.Goals as goal

pub drop_first-remaining-requires-clause-spare : goal.drop_first-remaining-requires-clause-spare
drop_first-remaining-requires-clause-spare c =
    let last : chunks_joined (drop (length c.cut_used-start.new.chunks - 1) c.cut_used-start.new.chunks) ≡ [] =
    nothing_from c.cut_used-start.new.chunks (c.args.used_count + 1) (length c.cut_used-start.new.chunks - 1) (omega arith) c.cut_used-start.ensures.spare in
    spare_behind c.cut_used-start.new.chunks c.split_at_mut-tail.result.1.now c.cut_used-start.result c.split_at_mut-tail.ensures.back (omega arith) (omega arith) last

pub merge_chunks-requires-clause-spare : goal.merge_chunks-requires-clause-spare
merge_chunks-requires-clause-spare c =
    none_behind_front c.split_at_mut-tail.result.0.now c.drop_first-remaining.new.chunks c.cut_used-start.result c.drop_first-remaining.result (omega arith) c.drop_first-remaining.ensures.spare

pub merge_chunks-requires-clause-chunks : goal.merge_chunks-requires-clause-chunks
merge_chunks-requires-clause-chunks c =
    let front : AreChunks c.split_at_mut-tail.result.0.now = rw c.split_at_mut-tail.ensures.front (taken_chunks c.cut_used-start.result c.cut_used-start.new.chunks c.cut_used-start.ensures.chunks) in
    appended_chunks c.split_at_mut-tail.result.0.now c.drop_first-remaining.new.chunks front c.drop_first-remaining.ensures.chunks
