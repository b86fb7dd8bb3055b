use Rattle.std.proofs.Common.{◌∙◌, ap, take}
use Rattle.gv_chunks.specs.Chunks.{chunks_joined}
use Rattle.gv_chunks.proofs.MergedLemmas.{joined_front}
use Rattle.gv_chunks.proofs.chunk_list.ChunkList.chunks.Goals as goal

pub returns-clause-items : goal.returns-clause-items
returns-clause-items c =
    let p = c.self.inside.store in
    rw (← c.self.view_is) (ap (λ xs. chunks_joined (take p.used_count xs)) c.deref.ensures.value ∙ joined_front p.chunks.items p.used_count c.self.invariant.list.spare)
