use Rattle.std.proofs.Common.{◌≡◌, ℕ, ◌+◌, ◌-◌, ◌<◌, ◌≤◌, ◌∙◌, ◌++◌, [], ap, length, take, drop, slice_index_or, arith}
use Rattle.std.proofs.lemmas.List.{take_at}
use Rattle.std.specs.Global.{Vec}
use Rattle.gv_types.specs.declared.mapping.Mapping.{Mapping}
use Rattle.gv_chunks.specs.Chunks.{chunks_joined}
use Rattle.gv_chunks.proofs.StoreLemmas.{some_of, chunk_within, start_later, closed_items, closed_list}
use Rattle.gv_chunks.proofs.IndexMovedLemmas.{removed_starts, removed_firsts}
use Rattle.gv_chunks.proofs.store.ChunkStore.remove.Goals as goal

pub overflow_sub-self-2 : goal.overflow_sub-self-2
overflow_sub-self-2 c =
    let p = c.args.self.now in
    let e = c.requires.emptied in
    let inside : c.args.chunk < length p.chunks.items = omega (arith, e.used_count, c.requires.store.list.within) in
    let d : Vec Mapping = some_of p.chunks.items (omega (arith, inside)) in
    omega (arith, chunk_within p.chunks.items c.args.chunk d inside, e.all d, c.requires.store.list.held)

pub shift-requires-clause-out : goal.shift-requires-clause-out
shift-requires-clause-out c = λ k d from low.
    let p = c.args.self.now in
    let e = c.requires.emptied in
    let list = c.requires.store.list in
    let xs = p.chunks.items in
    let v : Vec Mapping = some_of xs (omega (arith, e.used_count, list.within)) in
    let moved : slice_index_or c.take.new.self.numbers k d ≡ slice_index_or p.starts.numbers (k + 1) d = c.take.ensures.behind k d from (omega arith) in
    rw moved (omega (arith, e.all v, (start_later xs p.used_count c.args.chunk (k + 1) d v p.starts.numbers list.within (omega arith) (omega arith) c.requires.store.index.are_starts).0))

pub shift-requires-clause-fits : goal.shift-requires-clause-fits
shift-requires-clause-fits c = λ k d from low.
    let p = c.args.self.now in
    let e = c.requires.emptied in
    let list = c.requires.store.list in
    let xs = p.chunks.items in
    let v : Vec Mapping = some_of xs (omega (arith, e.used_count, list.within)) in
    let moved : slice_index_or c.take.new.self.numbers k d ≡ slice_index_or p.starts.numbers (k + 1) d = c.take.ensures.behind k d from (omega arith) in
    rw moved (omega (arith, list.held, (start_later xs p.used_count c.args.chunk (k + 1) d v p.starts.numbers list.within (omega arith) (omega arith) c.requires.store.index.are_starts).1))

pub returns-clause-items : goal.returns-clause-items
returns-clause-items c =
    let p = c.args.self.now in
    let e = c.requires.emptied in
    let list = c.requires.store.list in
    let xs = p.chunks.items in
    let zs = c.retire_chunk.new.chunks in
    let s = p.used_count in
    let d : Vec Mapping = some_of xs (omega (arith, e.used_count, list.within)) in
    let same : length zs ≡ length xs = omega (arith, ap length c.deref_mut.ensures.value) in
    let front : take (s - 1) zs ≡ take c.args.chunk (take s xs) ++ drop (c.args.chunk + 1) (take s xs) =
    c.retire_chunk.ensures.used_count ∙ ap (λ ys. take c.args.chunk (take s ys) ++ drop (c.args.chunk + 1) (take s ys)) c.deref_mut.ensures.value in
    let none : chunks_joined (drop (s - 1) zs) ≡ [] = c.retire_chunk.ensures.spare in
    let back : take p.chunks.len (zs ++ drop (length zs) xs) ≡ zs = take_at zs (drop (length zs) xs) p.chunks.len (omega (arith, same, p.chunks.ok)) in
    rw (back, e.at) (closed_items xs zs s c.args.chunk c.args.start c.args.out_count p.len p.room d list e.used_count same front none e.start_is (e.all d))

pub returns-clause-store : goal.returns-clause-store
returns-clause-store c =
    let p = c.args.self.now in
    let e = c.requires.emptied in
    let list = c.requires.store.list in
    let index = c.requires.store.index in
    let xs = p.chunks.items in
    let zs = c.retire_chunk.new.chunks in
    let s = p.used_count in
    let d : Vec Mapping = some_of xs (omega (arith, e.used_count, list.within)) in
    let same : length zs ≡ length xs = omega (arith, ap length c.deref_mut.ensures.value) in
    let front : take (s - 1) zs ≡ take c.args.chunk (take s xs) ++ drop (c.args.chunk + 1) (take s xs) =
    c.retire_chunk.ensures.used_count ∙ ap (λ ys. take c.args.chunk (take s ys) ++ drop (c.args.chunk + 1) (take s ys)) c.deref_mut.ensures.value in
    let none : chunks_joined (drop (s - 1) zs) ≡ [] = c.retire_chunk.ensures.spare in
    let back : take p.chunks.len (zs ++ drop (length zs) xs) ≡ zs = take_at zs (drop (length zs) xs) p.chunks.len (omega (arith, same, p.chunks.ok)) in
    let starts = c.shift.new.self.numbers in
    let firsts = c.take_entry.new.row in
    let starts_size : length starts ≡ length p.starts.numbers = c.shift.ensures.len ∙ c.take.ensures.len in
    let firsts_size : length firsts ≡ length p.firsts.items = c.take_entry.ensures.len ∙ ap length c.deref_mut-2.ensures.value in
    let firsts_back : take p.firsts.len (firsts ++ drop (length firsts) p.firsts.items) ≡ firsts = take_at firsts (drop (length firsts) p.firsts.items) p.firsts.len (omega (arith, firsts_size, p.firsts.ok)) in
    let before : (k x : ℕ) → k < c.args.chunk → slice_index_or starts k x ≡ slice_index_or p.starts.numbers k x =
    λ k x low. c.shift.ensures.before k x low (omega (arith, low, e.used_count, list.within, index.starts_within, c.take.ensures.len)) ∙ c.take.ensures.before k x low in
    let behind : (k e : ℕ) → c.args.chunk ≤ k → k + 1 < s → slice_index_or starts k e + c.args.out_count ≡ slice_index_or p.starts.numbers (k + 1) e =
    λ k e from low.
    omega (
      arith,
      c.shift.ensures.moved k e from (omega arith),
      c.take.ensures.behind k e from low,
    ) in
    record {
      list = rw back (closed_list xs zs s c.args.chunk c.args.start c.args.out_count p.len p.room d list e.used_count same front none e.start_is (e.all d) c.retire_chunk.ensures.chunks e.few);
      index = rw (back, firsts_back) (record {
        are_starts = removed_starts xs zs s c.args.chunk c.args.out_count list.within e.used_count same front e.all p.starts.numbers starts index.are_starts index.starts_within starts_size before behind;
        are_firsts =
            removed_firsts xs zs s c.args.chunk c.args.out_count list.within e.used_count same front e.all p.firsts.items firsts index.are_firsts index.firsts_within firsts_size
            (rw c.deref_mut-2.ensures.value at c.take_entry.ensures.before) (rw c.deref_mut-2.ensures.value at c.take_entry.ensures.behind);
        starts_within = omega (arith, same, starts_size, index.starts_within);
        firsts_within = omega (arith, same, firsts_size, index.firsts_within);
      });
    }
