use Rattle.std.proofs.Common.{◌≡◌, ◌+◌, ◌/◌, ◌<◌, ◌∙◌, ◌++◌, ap, length, take, drop, slice_index_or, vec_len, arith}
use Rattle.std.proofs.lemmas.List.{take_at, get_or_default, length-drop}
use Rattle.std.specs.Global.{Vec}
use Rattle.gv_types.specs.declared.mapping.Mapping.{Mapping}
use Rattle.gv_chunks.specs.Chunks.{chunks_joined}
use Rattle.gv_chunks.specs.Inside.{IsChunkList}
use Rattle.gv_chunks.proofs.StoreLemmas.{opened_list, some_of, start_told, chunk_within}
use Rattle.gv_chunks.proofs.IndexMovedLemmas.{first_of, divided_starts, divided_firsts}
use Rattle.gv_chunks.proofs.store.ChunkStore.divide.Goals as goal

pub overflow_add-start : goal.overflow_add-start
overflow_add-start c =
    let p = c.args.self.now in
    let e = c.requires.divisible in
    let list = c.requires.store.list in
    let xs = p.chunks.items in
    let d : Vec Mapping = some_of xs (omega (arith, e.used_count, list.within)) in
    let chunk : vec_len c.index.result.now ≡ vec_len (slice_index_or xs c.args.chunk d) = ap vec_len (c.index.ensures ∙ get_or_default xs c.args.chunk c.index.result.now d (omega (arith, e.used_count, list.within))) in
    let begins : c.get.result ≡ length (chunks_joined (take c.args.chunk xs)) =
    c.get.ensures c.get.result ∙ start_told xs p.used_count c.args.chunk c.get.result p.starts.numbers list.within e.used_count c.requires.store.index.are_starts in
    omega (arith, begins, c.len.ensures, chunk, e.holds d, chunk_within xs c.args.chunk d (omega (arith, e.used_count, list.within)), list.held)

pub index-requires-3 : goal.index-requires-3
index-requires-3 c =
    let p = c.args.self.now in
    let e = c.requires.divisible in
    let list = c.requires.store.list in
    let xs = p.chunks.items in
    let zs = c.split_chunk.new.chunks in
    let same : length zs ≡ length xs = omega (arith, ap length c.deref_mut.ensures.value) in
    let more : p.used_count < length xs = omega (arith, list.enough e.long, list.few, list.fits) in
    let back : take p.chunks.len (zs ++ drop (length zs) xs) ≡ zs = take_at zs (drop (length zs) xs) p.chunks.len (omega (arith, same, p.chunks.ok)) in
    let d : Vec Mapping = some_of xs (omega (arith, more)) in
    let read : c.index-2.result.now ≡ slice_index_or zs (c.args.chunk + 1) d =
    c.index-2.ensures ∙ (ap (λ ys. slice_index_or ys (c.args.chunk + 1) c.index-2.result.now) back ∙ get_or_default zs (c.args.chunk + 1) c.index-2.result.now d (omega (arith, same, more, e.used_count))) in
    let second = rw c.deref_mut.ensures.value at c.split_chunk.ensures.second in
    let chunk : vec_len c.index.result.now ≡ vec_len (slice_index_or xs c.args.chunk d) = ap vec_len (c.index.ensures ∙ get_or_default xs c.args.chunk c.index.result.now d (omega (arith, e.used_count, more))) in
    omega (
      arith,
      ap vec_len read,
      (slice_index_or zs (c.args.chunk + 1) d).ok,
      ap length (second d),
      length-drop (c.len.result / 2 + 1) (slice_index_or xs c.args.chunk d).items,
      (slice_index_or xs c.args.chunk d).ok,
      c.len.ensures,
      chunk,
      e.holds d,
    )

pub returns-clause-store : goal.returns-clause-store
returns-clause-store c =
    let p = c.args.self.now in
    let e = c.requires.divisible in
    let list = c.requires.store.list in
    let index = c.requires.store.index in
    let xs = p.chunks.items in
    let zs = c.split_chunk.new.chunks in
    let s = p.used_count in
    let same : length zs ≡ length xs = omega (arith, ap length c.deref_mut.ensures.value) in
    let more : s < length xs = omega (arith, list.enough e.long, list.few, list.fits) in
    let front : take c.args.chunk zs ≡ take c.args.chunk xs = c.split_chunk.ensures.front ∙ ap (take c.args.chunk) c.deref_mut.ensures.value in
    let first = rw c.deref_mut.ensures.value at c.split_chunk.ensures.first in
    let second = rw c.deref_mut.ensures.value at c.split_chunk.ensures.second in
    let later = rw c.deref_mut.ensures.value at c.split_chunk.ensures.later in
    let offset = c.len.result / 2 + 1 in
    let some_rest : (d : Vec Mapping) → offset < vec_len (slice_index_or xs c.args.chunk d) =
    λ d. omega (arith, c.len.ensures, ap vec_len (c.index.ensures ∙ get_or_default xs c.args.chunk c.index.result.now d (omega (arith, e.used_count, more))), e.holds d) in
    let now : IsChunkList zs (s + 1) p.len p.room =
    opened_list xs zs s c.args.chunk offset p.len p.room list e.used_count more same front (c.split_chunk.ensures.items ∙ ap chunks_joined c.deref_mut.ensures.value) first second later c.split_chunk.ensures.spare (omega arith) some_rest c.split_chunk.ensures.chunks
    e.few e.long in
    let starts = c.put.new.self.numbers in
    let firsts = c.put_entry.new.row in
    let starts_size : length starts ≡ length p.starts.numbers = c.put.ensures.len in
    let firsts_size : length firsts ≡ length p.firsts.items = c.put_entry.ensures.len ∙ ap length c.deref_mut-2.ensures.value in
    let back : take p.chunks.len (zs ++ drop (length zs) xs) ≡ zs = take_at zs (drop (length zs) xs) p.chunks.len (omega (arith, same, p.chunks.ok)) in
    let firsts_back : take p.firsts.len (firsts ++ drop (length firsts) p.firsts.items) ≡ firsts = take_at firsts (drop (length firsts) p.firsts.items) p.firsts.len (omega (arith, firsts_size, p.firsts.ok)) in
    let begins : c.get.result ≡ length (chunks_joined (take c.args.chunk xs)) = c.get.ensures c.get.result ∙ start_told xs s c.args.chunk c.get.result p.starts.numbers list.within e.used_count index.are_starts in
    let begun : c.get.result + offset ≡ length (chunks_joined (take c.args.chunk xs)) + offset = ap (λ n. n + offset) begins in
    let read : c.index-2.result.now ≡ slice_index_or zs (c.args.chunk + 1) c.index-2.result.now = c.index-2.ensures ∙ ap (λ ys. slice_index_or ys (c.args.chunk + 1) c.index-2.result.now) back in
    let seen : Vec Mapping = c.index-2.result.now in
    let full : 0 < length seen.items =
    omega (
      arith,
      ap (λ (v : Vec Mapping). length v.items) read,
      ap length (second seen),
      length-drop offset (slice_index_or xs c.args.chunk seen).items,
      some_rest seen,
      (slice_index_or xs c.args.chunk seen).ok,
    ) in
    let reads : (v : Vec Mapping) (m : Mapping) → c.first-first.result ≡ (slice_index_or (slice_index_or zs (c.args.chunk + 1) v).items 0 m).range.first =
    λ v m. first_of zs (c.args.chunk + 1) seen v c.index-3.result.now m c.first-first.result (omega (arith, same, more, e.used_count)) full read c.index-3.ensures c.first-first.ensures.value in
    record {
      list = rw back now;
      index = rw (back, firsts_back) (record {
        are_starts =
            divided_starts xs zs s c.args.chunk offset e.used_count more same front first second later (omega arith) some_rest p.starts.numbers starts (c.get.result + offset) index.are_starts index.starts_within starts_size begun
            c.put.ensures.before c.put.ensures.value c.put.ensures.behind;
        are_firsts =
            divided_firsts xs zs s c.args.chunk offset e.used_count more same front first second later (omega arith) some_rest p.firsts.items firsts c.first-first.result index.are_firsts index.firsts_within firsts_size reads
            (rw c.deref_mut-2.ensures.value at c.put_entry.ensures.before) c.put_entry.ensures.value (rw c.deref_mut-2.ensures.value at c.put_entry.ensures.behind);
        starts_within = omega (arith, same, starts_size, index.starts_within);
        firsts_within = omega (arith, same, firsts_size, index.firsts_within);
      });
    }
