use Rattle.std.proofs.Common.{◌∙◌, ap}
use Rattle.gv_chunks.specs.Chunks.{chunks_joined}
use Rattle.gv_chunks.proofs.ShrinkLemmas.{shrunk_items, shrunk_list, shrunk_index}
use Rattle.gv_chunks.proofs.store.ChunkStore.shrink.Goals as goal

pub returns-clause-items : goal.returns-clause-items
returns-clause-items c =
    let p = c.args.self.now in
    let chunks = c.shrink_to_fit.ensures.items ∙ c.truncate.ensures.items in
    ap chunks_joined chunks
    ∙ shrunk_items p.chunks.items p.used_count c.least_chunks-count.result p.len p.room c.least_room-least.result c.requires.store.list c.least_chunks-count.ensures.used_count

pub returns-clause-store : goal.returns-clause-store
returns-clause-store c =
    let p = c.args.self.now in
    let r = c.least_room-least in
    let n = c.least_chunks-count in
    let chunks = c.shrink_to_fit.ensures.items ∙ c.truncate.ensures.items in
    let firsts = c.shrink_to_fit-2.ensures.items ∙ c.truncate-2.ensures.items in
    record {
      list = rw chunks (shrunk_list p.chunks.items p.used_count n.result p.len p.room r.result c.requires.store.list n.ensures.used_count r.ensures.fits r.ensures.within r.ensures.short n.ensures.some n.ensures.enough);
      index = rw (chunks, firsts) (shrunk_index p.chunks.items p.used_count n.result p.len p.room r.result c.requires.store.list n.ensures.used_count p.starts.numbers p.firsts.items c.shorten.new.self.numbers c.shorten.ensures.len c.shorten.ensures.kept c.requires.store.index);
    }
