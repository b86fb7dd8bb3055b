use Rattle.std.proofs.Common.{◌<◌, ap, arith, length, vec_len}
use Rattle.gv_chunks.proofs.StoreLemmas.{chunk_within}
use Rattle.gv_chunks.proofs.store.ChunkStore.replace.Goals as goal

pub overflow_add-end : goal.overflow_add-end
overflow_add-end c =
    let p = c.args.self.now in
    let inside : c.find-chunk.result.0 < length p.chunks.items = omega arith in
    omega (arith, chunk_within p.chunks.items c.find-chunk.result.0 c.index.result.now inside, ap vec_len c.index.ensures, c.len.ensures, c.find-chunk.ensures.start_is, c.requires.store.list.held)
