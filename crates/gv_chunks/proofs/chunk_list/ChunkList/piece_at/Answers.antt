use Rattle.std.proofs.Common.{◌<◌, ◌≡◌, ◌+◌, ◌-◌, length, arith, vec_len, slice_index_or}
use Rattle.std.specs.Global.{Vec}
use Rattle.gv_types.specs.declared.mapping.Mapping.{Mapping}
use Rattle.gv_chunks.specs.Inside.{items_of}
use Rattle.gv_chunks.proofs.StoreLemmas.{some_of}
use Rattle.gv_chunks.proofs.chunk_list.ChunkList.piece_at.Goals as goal

pub returns-clause-some : goal.returns-clause-some
returns-clause-some c inside =
    let p = c.self.inside.store in
    let list = c.self.invariant.list in
    let below : c.args.spot.index < length (items_of p) = omega (arith, c.if-spot-self.false, list.held) in
    let some : 0 < length p.chunks.items = list.some (omega (arith, c.if-spot-self.false, list.fits)) in
    let d : Vec Mapping = some_of p.chunks.items some in
    let len : (v : Vec Mapping) → length c.piece_of.result.now + (c.args.spot.index - c.find-chunk.result.1) ≡ vec_len (slice_index_or p.chunks.items c.find-chunk.result.0 v) = rw c.deref.ensures.value at c.piece_of.ensures.len in
    omega (arith, len d, c.find-chunk.ensures.later d below, c.find-chunk.ensures.begun)
