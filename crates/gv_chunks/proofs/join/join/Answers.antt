use Rattle.std.proofs.Common.{◌≡◌, ◌+◌, ◌-◌, ◌∙◌, ◌<◌, ◌++◌, [], ap, sym, drop, arith, vec_capacity, length, slice_index_or, slice_set}
use Rattle.gv_chunks.specs.Chunks.{chunks_joined, AreChunks}
use Rattle.gv_chunks.specs.declared.TheConstants.{CHUNK}
use Rattle.gv_chunks.proofs.ChunkLemmas.{taken_chunks, dropped_chunks, appended_chunks, changed_chunks, turned_chunks}
use Rattle.gv_chunks.proofs.JoinLemmas.{joined_turned, last_turned, joined_both, joint_at, spare_at}
use Rattle.gv_chunks.proofs.join.join.Goals as goal

pub returns-clause-items : goal.returns-clause-items
returns-clause-items c =
    let size : length c.split_at_mut-front.result.0.now ≡ c.args.chunk + 1 = c.split_at_mut-front.ensures.front_len in
    let some_left : 0 < length c.split_at_mut-front.result.1.now = omega arith in
    let read : c.deref.result.now ≡ (slice_index_or c.split_at_mut-front.result.1.now 0 c.index-back-0.result).items = c.deref.ensures.value in
    let put : c.append.new.items.items ≡ (slice_index_or c.split_at_mut-front.result.0.now c.args.chunk c.index-front-chunk.result).items ++ (slice_index_or c.split_at_mut-front.result.1.now 0 c.index-back-0.result).items = c.append.ensures.items ∙ ap (λ ms. (slice_index_or c.split_at_mut-front.result.0.now c.args.chunk c.index-front-chunk.result).items ++ ms) read in
    let rotated : chunks_joined c.rotate_left.new.self ≡ chunks_joined (drop 1 c.split_at_mut-front.result.1.now) = rw c.rotate_left.ensures.after (joined_turned c.split_at_mut-front.result.1.now c.truncate.new.self some_left c.truncate.ensures.items) in
    joined_both c.split_at_mut-front.result.0.now c.split_at_mut-front.result.1.now c.rotate_left.new.self c.args.chunk c.index-front-chunk.result c.index-back-0.result c.append.new.items size some_left put rotated ∙ ap chunks_joined (sym c.split_at_mut-front.ensures.value)

pub returns-clause-joint : goal.returns-clause-joint
returns-clause-joint c any =
    let size : length c.split_at_mut-front.result.0.now ≡ c.args.chunk + 1 = c.split_at_mut-front.ensures.front_len in
    let some_left : 0 < length c.split_at_mut-front.result.1.now = omega arith in
    let read : c.deref.result.now ≡ (slice_index_or c.split_at_mut-front.result.1.now 0 c.index-back-0.result).items = c.deref.ensures.value in
    let put : c.append.new.items.items ≡ (slice_index_or c.split_at_mut-front.result.0.now c.args.chunk c.index-front-chunk.result).items ++ (slice_index_or c.split_at_mut-front.result.1.now 0 c.index-back-0.result).items = c.append.ensures.items ∙ ap (λ ms. (slice_index_or c.split_at_mut-front.result.0.now c.args.chunk c.index-front-chunk.result).items ++ ms) read in
    rw c.split_at_mut-front.ensures.value (joint_at c.split_at_mut-front.result.0.now c.split_at_mut-front.result.1.now c.rotate_left.new.self c.args.chunk c.index-front-chunk.result c.index-back-0.result c.append.new.items any size some_left put)

pub returns-clause-spare : goal.returns-clause-spare
returns-clause-spare c =
    let size : length c.split_at_mut-front.result.0.now ≡ c.args.chunk + 1 = c.split_at_mut-front.ensures.front_len in
    let some_left : 0 < length c.split_at_mut-front.result.1.now = omega arith in
    let none : chunks_joined (drop (length c.split_at_mut-front.result.1.now - 1) c.rotate_left.new.self) ≡ [] = rw c.rotate_left.ensures.after (last_turned c.split_at_mut-front.result.1.now c.truncate.new.self (length c.split_at_mut-front.result.1.now - 1) (omega arith) c.truncate.ensures.items) in
    spare_at c.split_at_mut-front.result.0.now c.rotate_left.new.self c.args.chunk (length c.split_at_mut-front.result.1.now - 1) (length c.args.chunks.now - 1) c.append.new.items (omega arith) none

pub returns-clause-chunks : goal.returns-clause-chunks
returns-clause-chunks c =
    let size : length c.split_at_mut-front.result.0.now ≡ c.args.chunk + 1 = c.split_at_mut-front.ensures.front_len in
    let some_left : 0 < length c.split_at_mut-front.result.1.now = omega arith in
    let in_front : c.args.chunk < length c.split_at_mut-front.result.0.now = omega arith in
    let front : AreChunks c.split_at_mut-front.result.0.now = rw c.split_at_mut-front.ensures.front (taken_chunks (c.args.chunk + 1) c.args.chunks.now c.requires.chunks) in
    let back : AreChunks c.split_at_mut-front.result.1.now = rw c.split_at_mut-front.ensures.back (dropped_chunks (c.args.chunk + 1) c.args.chunks.now c.requires.chunks) in
    let source : vec_capacity c.truncate.new.self ≡ CHUNK = c.truncate.ensures.capacity ∙ back 0 c.index-back-0-2.result some_left in
    let target : vec_capacity c.append.new.items ≡ CHUNK = c.append.ensures.room ∙ front c.args.chunk c.index-front-chunk.result in_front in
    let rotated : AreChunks c.rotate_left.new.self = turned_chunks (slice_set c.split_at_mut-front.result.1.now 0 c.truncate.new.self) c.rotate_left.new.self 1 c.rotate_left.ensures.after (changed_chunks c.split_at_mut-front.result.1.now 0 c.truncate.new.self source back) in
    appended_chunks (slice_set c.split_at_mut-front.result.0.now c.args.chunk c.append.new.items) c.rotate_left.new.self (changed_chunks c.split_at_mut-front.result.0.now c.args.chunk c.append.new.items target front) rotated
