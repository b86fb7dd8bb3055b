use Rattle.std.proofs.Common.{arith}
use Rattle.gv_chunks.specs.Chunks.{AreChunks}
use Rattle.gv_chunks.proofs.ChunkLemmas.{taken_chunks, appended_chunks}
use Rattle.gv_chunks.proofs.RunLemmas.{none_behind_front}
use Rattle.gv_chunks.proofs.run.put_in_run.Goals as goal

pub merge_chunks-requires-clause-spare : goal.merge_chunks-requires-clause-spare
merge_chunks-requires-clause-spare c =
    none_behind_front c.split_at_mut-tail.result.0.now c.put_first-now.new.chunks c.cut_used-start.result c.put_first-now.result (omega arith) c.put_first-now.ensures.spare

pub merge_chunks-requires-clause-chunks : goal.merge_chunks-requires-clause-chunks
merge_chunks-requires-clause-chunks c =
    let front : AreChunks c.split_at_mut-tail.result.0.now = rw c.split_at_mut-tail.ensures.front (taken_chunks c.cut_used-start.result c.cut_used-start.new.chunks c.cut_used-start.ensures.chunks) in
    appended_chunks c.split_at_mut-tail.result.0.now c.put_first-now.new.chunks front c.put_first-now.ensures.chunks
