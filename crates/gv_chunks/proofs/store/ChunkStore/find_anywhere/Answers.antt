use Rattle.gv_chunks.proofs.StoreLemmas.{spot_told}
use Rattle.gv_chunks.proofs.store.ChunkStore.find_anywhere.Goals as goal

pub returns : goal.returns
returns c =
    spot_told c.args.self.now c.requires.store c.args.index c.last_at_most-chunk.result c.get.result c.last_at_most-chunk.ensures.within c.last_at_most-chunk.ensures.begun
    c.last_at_most-chunk.ensures.next (c.get.ensures c.get.result) c.requires.within
