use Rattle.std.proofs.Common.{◌<◌, ap, length, vec_len, arith}
use Rattle.gv_chunks.proofs.StoreLemmas.{chunk_within}
use Rattle.gv_chunks.proofs.store.ChunkStore.edit_kind.Goals as goal

pub overflow_add-now : goal.overflow_add-now
overflow_add-now c =
    let p = c.args.self.now in
    let inside : c.args.chunk < length p.chunks.items = omega (arith, c.requires.spot.used_count) in
    omega (arith, chunk_within p.chunks.items c.args.chunk c.index.result.now inside, ap vec_len c.index.ensures, c.requires.store.list.held, c.requires.room, c.requires.within, c.if-index-start.false, c.len-held.ensures)
