use Rattle.std.proofs.Common.{◌≡◌, ℕ, ◌+◌, ◌-◌, ◌∙◌, ◌<◌, ◌≤◌, ◌++◌, [], List, ap, sym, take, drop, arith, vec_len, vec_capacity, length, slice_index_or, slice_set}
use Rattle.std.proofs.lemmas.List.{length-set, length-drop, length-take, get_or-take, get_or_default, take-take, take_rest}
use Rattle.std.specs.Global.{Vec}
use Rattle.gv_types.specs.declared.mapping.Mapping.{Mapping}
use Rattle.gv_chunks.specs.Chunks.{chunks_joined, AreChunks}
use Rattle.gv_chunks.specs.declared.TheConstants.{CHUNK}
use Rattle.gv_chunks.proofs.ChunkLemmas.{taken_chunks, dropped_chunks, appended_chunks, changed_chunks, turned_chunks, cut_front, cut_back, turned_joined, turned_first, spare_behind}
use Rattle.gv_chunks.proofs.DivideLemmas.{divided_front, divided_first, divided_second, divided_later}
use Rattle.gv_chunks.proofs.cut.divide.Goals as goal

-- the rest of a chunk fits into one that holds nothing
rest_fits : (v w : Vec Mapping) (offset : ℕ) (now : List Mapping) → now ≡ v.items → vec_capacity v ≡ CHUNK → vec_capacity w ≡ CHUNK → w.items ≡ [] →
    vec_len w + length (take (length now - offset) (drop offset now)) ≤ vec_capacity w
rest_fits v w offset now is room same none =
    let empty : vec_len w ≡ 0 = w.ok.0 ∙ ap length none in
    omega (arith, v.ok, w.ok, ap length is, length-take (length now - offset) (drop offset now), length-drop offset now)

pub append-requires : goal.append-requires
append-requires c =
    let some_left : 0 < length c.split_at_mut-front.result.1.now = omega arith in
    let in_front : c.args.chunk < length c.split_at_mut-front.result.0.now = omega arith in
    let in_back : 0 < length c.rotate_right.new.self = omega arith in
    let front : AreChunks c.split_at_mut-front.result.0.now = rw c.split_at_mut-front.ensures.front (taken_chunks (c.args.chunk + 1) c.args.chunks.now c.requires.chunks) in
    let back : AreChunks c.split_at_mut-front.result.1.now = rw c.split_at_mut-front.ensures.back (dropped_chunks (c.args.chunk + 1) c.args.chunks.now c.requires.chunks) in
    let rotated : AreChunks c.rotate_right.new.self = turned_chunks c.split_at_mut-front.result.1.now c.rotate_right.new.self (length c.split_at_mut-front.result.1.now - 1) c.rotate_right.ensures.after back in
    let spare : chunks_joined (drop (length c.split_at_mut-front.result.1.now - 1) c.split_at_mut-front.result.1.now) ≡ [] =
    spare_behind c.args.chunks.now c.split_at_mut-front.result.1.now (c.args.chunk + 1) c.split_at_mut-front.ensures.back c.split_at_mut-front.ensures.back_len some_left c.requires.spare in
    let none : (slice_index_or c.rotate_right.new.self 0 c.index-back-0.result).items ≡ [] =
    rw c.rotate_right.ensures.after (turned_first c.split_at_mut-front.result.1.now (length c.split_at_mut-front.result.1.now - 1) c.index-back-0.result (omega arith) spare) in
    rest_fits (slice_index_or c.split_at_mut-front.result.0.now c.args.chunk c.index-front-chunk.result) (slice_index_or c.rotate_right.new.self 0 c.index-back-0.result)
    c.args.offset c.deref.result.now c.deref.ensures.value
    (front c.args.chunk c.index-front-chunk.result in_front) (rotated 0 c.index-back-0.result in_back) none

pub returns : goal.returns
returns c =
    let some_left : 0 < length c.split_at_mut-front.result.1.now = omega arith in
    let in_front : c.args.chunk < length c.split_at_mut-front.result.0.now = omega arith in
    let in_back : 0 < length c.rotate_right.new.self = omega arith in
    let size : length c.split_at_mut-front.result.0.now ≡ c.args.chunk + 1 = c.split_at_mut-front.ensures.front_len in
    let front : AreChunks c.split_at_mut-front.result.0.now = rw c.split_at_mut-front.ensures.front (taken_chunks (c.args.chunk + 1) c.args.chunks.now c.requires.chunks) in
    let back : AreChunks c.split_at_mut-front.result.1.now = rw c.split_at_mut-front.ensures.back (dropped_chunks (c.args.chunk + 1) c.args.chunks.now c.requires.chunks) in
    let rotated : AreChunks c.rotate_right.new.self = turned_chunks c.split_at_mut-front.result.1.now c.rotate_right.new.self (length c.split_at_mut-front.result.1.now - 1) c.rotate_right.ensures.after back in
    let spare : chunks_joined (drop (length c.split_at_mut-front.result.1.now - 1) c.split_at_mut-front.result.1.now) ≡ [] =
    spare_behind c.args.chunks.now c.split_at_mut-front.result.1.now (c.args.chunk + 1) c.split_at_mut-front.ensures.back c.split_at_mut-front.ensures.back_len some_left c.requires.spare in
    let none : (slice_index_or c.rotate_right.new.self 0 c.index-back-0.result).items ≡ [] =
    rw c.rotate_right.ensures.after (turned_first c.split_at_mut-front.result.1.now (length c.split_at_mut-front.result.1.now - 1) c.index-back-0.result (omega arith) spare) in
    let same : chunks_joined c.rotate_right.new.self ≡ chunks_joined c.split_at_mut-front.result.1.now =
    rw c.rotate_right.ensures.after (turned_joined c.split_at_mut-front.result.1.now (length c.split_at_mut-front.result.1.now - 1) spare) in
    let source : vec_capacity c.truncate.new.self ≡ CHUNK = c.truncate.ensures.capacity ∙ front c.args.chunk c.index-front-chunk.result in_front in
    let target : vec_capacity c.append.new.items ≡ CHUNK = c.append.ensures.room ∙ rotated 0 c.index-back-0.result in_back in
    let at : slice_index_or c.split_at_mut-front.result.0.now c.args.chunk c.index-front-chunk.result ≡ slice_index_or c.args.chunks.now c.args.chunk c.index-front-chunk.result =
    rw c.split_at_mut-front.ensures.front (get_or-take (c.args.chunk + 1) c.args.chunks.now c.args.chunk c.index-front-chunk.result (omega arith)) in
    let length_at : length (slice_index_or c.split_at_mut-front.result.0.now c.args.chunk c.index-front-chunk.result).items ≡ vec_len (slice_index_or c.args.chunks.now c.args.chunk c.index-front-chunk.result) =
    sym (slice_index_or c.split_at_mut-front.result.0.now c.args.chunk c.index-front-chunk.result).ok.0 ∙ ap vec_len at in
    let fits : c.args.offset ≤ length (slice_index_or c.split_at_mut-front.result.0.now c.args.chunk c.index-front-chunk.result).items =
    rw length_at (c.requires.offset c.index-front-chunk.result) in
    let moved : c.append.new.items.items ≡ (slice_index_or c.rotate_right.new.self 0 c.index-back-0.result).items
    ++ drop c.args.offset (slice_index_or c.split_at_mut-front.result.0.now c.args.chunk c.index-front-chunk.result).items =
    c.append.ensures.items ∙ ap (λ ms. (slice_index_or c.rotate_right.new.self 0 c.index-back-0.result).items ++ ms) (take_rest c.deref.result.now c.args.offset ∙ ap (drop c.args.offset) c.deref.ensures.value) in
    let f : List (Vec Mapping) = c.split_at_mut-front.result.0.now in
    let b : List (Vec Mapping) = c.split_at_mut-front.result.1.now in
    let r : List (Vec Mapping) = c.rotate_right.new.self in
    let w : Vec Mapping = c.truncate.new.self in
    let v : Vec Mapping = c.append.new.items in
    let held : (d : Vec Mapping) → (slice_index_or f c.args.chunk c.index-front-chunk.result).items ≡ (slice_index_or c.args.chunks.now c.args.chunk d).items =
    λ d. ap (λ (u : Vec Mapping). u.items) (at ∙ get_or_default c.args.chunks.now c.args.chunk c.index-front-chunk.result d (omega arith)) in
    record {
      before = rw c.split_at_mut-front.ensures.value (cut_front c.split_at_mut-front.result.0.now c.split_at_mut-front.result.1.now (slice_set c.rotate_right.new.self 0 c.append.new.items) c.args.chunk c.args.offset c.index-front-chunk.result c.truncate.new.self size fits c.truncate.ensures.items);
      behind = rw c.split_at_mut-front.ensures.value (cut_back c.split_at_mut-front.result.0.now c.split_at_mut-front.result.1.now c.rotate_right.new.self (slice_set c.split_at_mut-front.result.0.now c.args.chunk c.truncate.new.self) c.args.chunk c.args.offset c.index-front-chunk.result c.index-back-0.result c.append.new.items size
          (omega (arith, length-set c.split_at_mut-front.result.0.now c.args.chunk c.truncate.new.self)) fits in_back same none moved);
      front = divided_front f b r c.args.chunk w v size some_left c.rotate_right.ensures.after ∙ (ap (take c.args.chunk) c.split_at_mut-front.ensures.front ∙ take-take c.args.chunk (c.args.chunk + 1) c.args.chunks.now (omega arith));
      first = λ d. rw (divided_first f b r c.args.chunk w v size some_left c.rotate_right.ensures.after d) (c.truncate.ensures.items ∙ ap (take c.args.offset) (held d));
      second = λ d. rw (divided_second f b r c.args.chunk w v size some_left c.rotate_right.ensures.after d) (moved ∙ (ap (λ ms. ms ++ drop c.args.offset (slice_index_or f c.args.chunk c.index-front-chunk.result).items) none ∙ ap (drop c.args.offset) (held d)));
      later = λ k d past below. divided_later f b r c.args.chunk w v size some_left c.rotate_right.ensures.after k d past (omega (arith, below, size, c.split_at_mut-front.ensures.back_len)) ∙ ap (λ xs. slice_index_or xs (k - 1) d) (sym c.split_at_mut-front.ensures.value);
      chunks = appended_chunks (slice_set c.split_at_mut-front.result.0.now c.args.chunk c.truncate.new.self) (slice_set c.rotate_right.new.self 0 c.append.new.items)
          (changed_chunks c.split_at_mut-front.result.0.now c.args.chunk c.truncate.new.self source front) (changed_chunks c.rotate_right.new.self 0 c.append.new.items target rotated);
    }
