use Rattle.std.proofs.Common.{arith}
use Rattle.gv_chunks.specs.Chunks.{AreChunks}
use Rattle.gv_chunks.proofs.ChunkLemmas.{dropped_chunks, appended_chunks}
use Rattle.gv_chunks.proofs.PutLemmas.{nothing_from}
use Rattle.gv_chunks.proofs.run.cut_used.Goals as goal

pub returns-then-index-eq0-clause-spare : goal.returns-then-index-eq0-clause-spare
returns-then-index-eq0-clause-spare c = nothing_from c.args.chunks.now _ c.args.used (omega arith) c.requires.spare

pub returns-clause-chunks : goal.returns-clause-chunks
returns-clause-chunks c =
    let back : AreChunks c.split_at_mut-front.result.1.now = rw c.split_at_mut-front.ensures.back (dropped_chunks c.args.used c.args.chunks.now c.requires.chunks) in
    appended_chunks c.cut.new.chunks c.split_at_mut-front.result.1.now c.cut.ensures.chunks back
