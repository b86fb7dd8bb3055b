use Rattle.std.proofs.Common.{◌≡◌, ◌+◌, ◌-◌, ◌<◌, ◌∙◌, length, drop, vec_capacity, arith, slice_set, []}
use Rattle.gv_chunks.specs.Chunks.{chunks_joined, AreChunks}
use Rattle.gv_chunks.specs.declared.TheConstants.{CHUNK}
use Rattle.gv_chunks.proofs.ChunkLemmas.{taken_chunks, dropped_chunks, appended_chunks, changed_chunks, turned_chunks}
use Rattle.gv_chunks.proofs.JoinLemmas.{last_turned}
use Rattle.gv_chunks.proofs.RunLemmas.{none_behind_front}
use Rattle.gv_chunks.proofs.chunk_row.rotate_out.Goals as goal

pub returns-clause-spare : goal.returns-clause-spare
returns-clause-spare c =
    let back = c.split_at_mut-back.result.1.now in
    let some_left : 0 < length back = omega arith in
    let none : chunks_joined (drop (length back - 1) c.rotate_left.new.self) ≡ [] = rw c.rotate_left.ensures.after (last_turned back c.truncate.new.self (length back - 1) (omega arith) c.truncate.ensures.items) in
    let past : length c.args.chunks.now - 1 ≡ c.args.chunk + (length back - 1) = omega arith in
    rw past (none_behind_front c.split_at_mut-back.result.0.now c.rotate_left.new.self c.args.chunk (length back - 1) c.split_at_mut-back.ensures.front_len none)

pub returns-clause-chunks : goal.returns-clause-chunks
returns-clause-chunks c =
    let xs = c.args.chunks.now in
    let back : AreChunks c.split_at_mut-back.result.1.now = rw c.split_at_mut-back.ensures.back (dropped_chunks c.args.chunk xs c.requires.chunks) in
    let front : AreChunks c.split_at_mut-back.result.0.now = rw c.split_at_mut-back.ensures.front (taken_chunks c.args.chunk xs c.requires.chunks) in
    let room : vec_capacity c.truncate.new.self ≡ CHUNK = c.truncate.ensures.capacity ∙ back 0 c.index-back-0.result (omega arith) in
    let emptied : AreChunks (slice_set c.split_at_mut-back.result.1.now 0 c.truncate.new.self) = changed_chunks c.split_at_mut-back.result.1.now 0 c.truncate.new.self room back in
    appended_chunks c.split_at_mut-back.result.0.now c.rotate_left.new.self front
    (turned_chunks (slice_set c.split_at_mut-back.result.1.now 0 c.truncate.new.self) c.rotate_left.new.self 1 c.rotate_left.ensures.after emptied)
