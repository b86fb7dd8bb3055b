use Rattle.std.proofs.Common.{◌≡◌, ◌+◌, ◌-◌, ◌++◌, ◌∙◌, ap, sym, length, take, drop, slice_index_or, arith, List}
use Rattle.std.proofs.lemmas.List.{drop_at, get_or_append_left, get_or-take, take-append-drop}
use Rattle.std.specs.Global.{Vec}
use Rattle.gv_types.specs.declared.mapping.Mapping.{Mapping}
use Rattle.gv_chunks.specs.Chunks.{chunks_joined, AreChunks}
use Rattle.gv_chunks.proofs.ChunkLemmas.{joined-append, joined_parts, dropped_chunks, appended_chunks}
use Rattle.gv_chunks.proofs.PutLemmas.{nothing_from}
use Rattle.gv_chunks.proofs.RunLemmas.{none_in_front}
use Rattle.gv_chunks.proofs.chunk_row.split_chunk.Goals as goal

pub divide-requires-clause-spare : goal.divide-requires-clause-spare
divide-requires-clause-spare c =
    let u : List (Vec Mapping) = c.split_at_mut-used.result.0.now in
    let at : length u - 1 ≡ c.args.used_count = omega (arith, c.split_at_mut-used.ensures.front_len) in
    ap (λ k. chunks_joined (drop k u)) at
    ∙ rw c.split_at_mut-used.ensures.front (none_in_front c.args.chunks.now c.args.used_count (c.args.used_count + 1) (omega arith) c.requires.spare)

pub returns-clause-items : goal.returns-clause-items
returns-clause-items c =
    let u : List (Vec Mapping) = c.split_at_mut-used.result.0.now in
    let b : List (Vec Mapping) = c.split_at_mut-used.result.1.now in
    let v : List (Vec Mapping) = c.divide.new.chunks in
    let k = length (chunks_joined (take c.args.chunk u)) + c.args.offset in
    let same : chunks_joined v ≡ chunks_joined u =
    joined_parts v (c.args.chunk + 1) ∙ (ap (λ ms. ms ++ chunks_joined (drop (c.args.chunk + 1) v)) c.divide.ensures.before
    ∙ (ap (λ ms. take k (chunks_joined u) ++ ms) c.divide.ensures.behind ∙ take-append-drop k (chunks_joined u))) in
    joined-append v b ∙ (ap (λ ms. ms ++ chunks_joined b) same ∙ (sym (joined-append u b) ∙ ap chunks_joined (sym c.split_at_mut-used.ensures.value)))

pub returns-clause-first : goal.returns-clause-first
returns-clause-first c = λ d.
    let u : List (Vec Mapping) = c.split_at_mut-used.result.0.now in
    let at : slice_index_or u c.args.chunk d ≡ slice_index_or c.args.chunks.now c.args.chunk d =
    rw c.split_at_mut-used.ensures.front (get_or-take (c.args.used_count + 1) c.args.chunks.now c.args.chunk d (omega arith)) in
    rw (get_or_append_left c.divide.new.chunks c.split_at_mut-used.result.1.now d c.args.chunk (omega (arith, c.split_at_mut-used.ensures.front_len)), ← at) (c.divide.ensures.first d)

pub returns-clause-second : goal.returns-clause-second
returns-clause-second c = λ d.
    let u : List (Vec Mapping) = c.split_at_mut-used.result.0.now in
    let at : slice_index_or u c.args.chunk d ≡ slice_index_or c.args.chunks.now c.args.chunk d =
    rw c.split_at_mut-used.ensures.front (get_or-take (c.args.used_count + 1) c.args.chunks.now c.args.chunk d (omega arith)) in
    rw (get_or_append_left c.divide.new.chunks c.split_at_mut-used.result.1.now d (c.args.chunk + 1) (omega (arith, c.split_at_mut-used.ensures.front_len)), ← at) (c.divide.ensures.second d)

pub returns-clause-later : goal.returns-clause-later
returns-clause-later c = λ k d past below.
    let u : List (Vec Mapping) = c.split_at_mut-used.result.0.now in
    let at : slice_index_or u (k - 1) d ≡ slice_index_or c.args.chunks.now (k - 1) d =
    rw c.split_at_mut-used.ensures.front (get_or-take (c.args.used_count + 1) c.args.chunks.now (k - 1) d (omega arith)) in
    get_or_append_left c.divide.new.chunks c.split_at_mut-used.result.1.now d k (omega (arith, c.split_at_mut-used.ensures.front_len))
    ∙ (c.divide.ensures.later k d past (omega (arith, c.split_at_mut-used.ensures.front_len)) ∙ at)

pub returns-clause-spare : goal.returns-clause-spare
returns-clause-spare c =
    let b : List (Vec Mapping) = c.split_at_mut-used.result.1.now in
    ap chunks_joined (drop_at c.divide.new.chunks b (c.args.used_count + 1) (omega (arith, c.split_at_mut-used.ensures.front_len)))
    ∙ (ap chunks_joined c.split_at_mut-used.ensures.back ∙ nothing_from c.args.chunks.now c.args.used_count (c.args.used_count + 1) (omega arith) c.requires.spare)

pub returns-clause-chunks : goal.returns-clause-chunks
returns-clause-chunks c =
    let back : AreChunks c.split_at_mut-used.result.1.now = rw c.split_at_mut-used.ensures.back (dropped_chunks (c.args.used_count + 1) c.args.chunks.now c.requires.chunks) in
    appended_chunks c.divide.new.chunks c.split_at_mut-used.result.1.now c.divide.ensures.chunks back
