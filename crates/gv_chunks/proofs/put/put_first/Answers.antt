use Rattle.std.proofs.Common.{◌≡◌, ◌-◌, [], arith, drop, length}
use Rattle.gv_chunks.specs.Chunks.{chunks_joined, AreChunks}
use Rattle.gv_chunks.proofs.ChunkLemmas.{turned_chunks, dropped_chunks, appended_chunks}
use Rattle.gv_chunks.proofs.PutLemmas.{nothing_from, front_of_turned, filled_front, spare_of_turned}
use Rattle.gv_chunks.proofs.put.put_first.Goals as goal

pub fill-requires-clause-empty : goal.fill-requires-clause-empty
fill-requires-clause-empty c =
    let none : chunks_joined (drop (length c.args.chunks.now - c.div_ceil-count.result) c.args.chunks.now) ≡ [] = nothing_from c.args.chunks.now c.args.used_count _ (omega arith) c.requires.spare in
    rw (c.split_at_mut-front.ensures.front, c.rotate_right.ensures.after) (front_of_turned c.args.chunks.now (length c.args.chunks.now - c.div_ceil-count.result) c.div_ceil-count.result (omega arith) none)

pub returns-clause-items : goal.returns-clause-items
returns-clause-items c =
    let none : chunks_joined (drop (length c.args.chunks.now - c.div_ceil-count.result) c.args.chunks.now) ≡ [] = nothing_from c.args.chunks.now c.args.used_count _ (omega arith) c.requires.spare in
    rw (c.split_at_mut-front.ensures.back, c.rotate_right.ensures.after)
    (filled_front c.args.chunks.now c.fill.new.chunks (length c.args.chunks.now - c.div_ceil-count.result) c.div_ceil-count.result c.args.pieces.now (omega arith) none c.fill.ensures.items)

pub returns-clause-spare : goal.returns-clause-spare
returns-clause-spare c =
    rw (c.split_at_mut-front.ensures.back, c.rotate_right.ensures.after)
    (spare_of_turned c.args.chunks.now c.fill.new.chunks (length c.args.chunks.now - c.div_ceil-count.result) c.div_ceil-count.result c.args.used_count (omega arith) (omega arith) (omega arith) c.requires.spare)

pub returns-clause-chunks : goal.returns-clause-chunks
returns-clause-chunks c =
    let rotated : AreChunks c.rotate_right.new.self = turned_chunks c.args.chunks.now c.rotate_right.new.self (length c.args.chunks.now - c.div_ceil-count.result) c.rotate_right.ensures.after c.requires.chunks in
    let back : AreChunks c.split_at_mut-front.result.1.now = rw c.split_at_mut-front.ensures.back (dropped_chunks c.div_ceil-count.result c.rotate_right.new.self rotated) in
    appended_chunks c.fill.new.chunks c.split_at_mut-front.result.1.now c.fill.ensures.chunks back
