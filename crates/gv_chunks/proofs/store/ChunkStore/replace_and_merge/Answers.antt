use Rattle.std.proofs.Common.{◌≡◌, ◌+◌, ◌-◌, ◌<◌, ◌∙◌, ◌++◌, ◌⊎◌, inl, inr, ap, length, take, drop, arith}
use Rattle.std.proofs.lemmas.List.{take_at}
use Rattle.std.specs.List.{splice}
use Rattle.gv_chunks.specs.Chunks.{chunks_joined}
use Rattle.gv_chunks.specs.Inside.{IsChunkList}
use Rattle.gv_chunks.proofs.IsChunkListLemmas.{replaced_list}
use Rattle.gv_chunks.proofs.MergedLemmas.{joined_front}
use Rattle.gv_chunks.proofs.StoreLemmas.{index_written}
use Rattle.gv_chunks.proofs.store.ChunkStore.replace_and_merge.Goals.{then-self-eq0, else-self-eq0}
use Rattle.gv_chunks.proofs.store.ChunkStore.replace_and_merge.Goals as goal

pub write_index-requires-clause-filled : goal.write_index-requires-clause-filled
write_index-requires-clause-filled c =
    let p = c.args.self.now in
    let xs = p.chunks.items in
    let zs = c.replace_anywhere-used.new.chunks in
    let after = p.len - c.args.out_count + length c.args.pieces.now in
    let same : length zs ≡ length xs = omega (arith, ap length c.deref_mut.ensures.value) in
    let back : take p.chunks.len (zs ++ drop (length zs) xs) ≡ zs = take_at zs (drop (length zs) xs) p.chunks.len (omega (arith, same, p.chunks.ok)) in
    let read : c.deref.result.now ≡ zs = c.deref.ensures.value ∙ back in
    let which : ((c.if-self-eq0.self ≡ 0) × (after ≡ 0)) ⊎ ((c.if-self-eq0.self ≡ c.replace_anywhere-used.result) × (0 < after)) = elim c.if-self-eq0.branch [
      | then-self-eq0 w ↦ inl (w.self-is, w.if-self-eq0.true)
      | else-self-eq0 w ↦ inr (w.self-is, omega (arith, w.if-self-eq0.false))
    ] in
    let list : IsChunkList zs c.if-self-eq0.self after p.room =
    replaced_list xs zs p.used_count c.replace_anywhere-used.result c.if-self-eq0.self p.len p.room c.args.index c.args.out_count c.args.pieces.now c.requires.store.list c.requires.long c.requires.within c.requires.room
    same (c.replace_anywhere-used.ensures.items ∙ ap (λ ys. splice (chunks_joined ys) c.args.index (c.args.index + c.args.out_count) c.args.pieces.now) c.deref_mut.ensures.value) c.replace_anywhere-used.ensures.within
    c.replace_anywhere-used.ensures.spare c.replace_anywhere-used.ensures.chunks c.replace_anywhere-used.ensures.merged c.replace_anywhere-used.ensures.few which in
    rw read list.filled

pub write_index-requires-clause-few : goal.write_index-requires-clause-few
write_index-requires-clause-few c =
    let p = c.args.self.now in
    let xs = p.chunks.items in
    let zs = c.replace_anywhere-used.new.chunks in
    let after = p.len - c.args.out_count + length c.args.pieces.now in
    let same : length zs ≡ length xs = omega (arith, ap length c.deref_mut.ensures.value) in
    let back : take p.chunks.len (zs ++ drop (length zs) xs) ≡ zs = take_at zs (drop (length zs) xs) p.chunks.len (omega (arith, same, p.chunks.ok)) in
    let read : c.deref.result.now ≡ zs = c.deref.ensures.value ∙ back in
    let which : ((c.if-self-eq0.self ≡ 0) × (after ≡ 0)) ⊎ ((c.if-self-eq0.self ≡ c.replace_anywhere-used.result) × (0 < after)) = elim c.if-self-eq0.branch [
      | then-self-eq0 w ↦ inl (w.self-is, w.if-self-eq0.true)
      | else-self-eq0 w ↦ inr (w.self-is, omega (arith, w.if-self-eq0.false))
    ] in
    let list : IsChunkList zs c.if-self-eq0.self after p.room =
    replaced_list xs zs p.used_count c.replace_anywhere-used.result c.if-self-eq0.self p.len p.room c.args.index c.args.out_count c.args.pieces.now c.requires.store.list c.requires.long c.requires.within c.requires.room
    same (c.replace_anywhere-used.ensures.items ∙ ap (λ ys. splice (chunks_joined ys) c.args.index (c.args.index + c.args.out_count) c.args.pieces.now) c.deref_mut.ensures.value) c.replace_anywhere-used.ensures.within
    c.replace_anywhere-used.ensures.spare c.replace_anywhere-used.ensures.chunks c.replace_anywhere-used.ensures.merged c.replace_anywhere-used.ensures.few which in
    rw read (omega (arith, ap length (joined_front zs c.if-self-eq0.self list.spare), list.held, list.fits, c.fits-self))

pub returns-clause-store : goal.returns-clause-store
returns-clause-store c =
    let p = c.args.self.now in
    let xs = p.chunks.items in
    let zs = c.replace_anywhere-used.new.chunks in
    let after = p.len - c.args.out_count + length c.args.pieces.now in
    let same : length zs ≡ length xs = omega (arith, ap length c.deref_mut.ensures.value) in
    let back : take p.chunks.len (zs ++ drop (length zs) xs) ≡ zs = take_at zs (drop (length zs) xs) p.chunks.len (omega (arith, same, p.chunks.ok)) in
    let read : c.deref.result.now ≡ zs = c.deref.ensures.value ∙ back in
    let which : ((c.if-self-eq0.self ≡ 0) × (after ≡ 0)) ⊎ ((c.if-self-eq0.self ≡ c.replace_anywhere-used.result) × (0 < after)) = elim c.if-self-eq0.branch [
      | then-self-eq0 w ↦ inl (w.self-is, w.if-self-eq0.true)
      | else-self-eq0 w ↦ inr (w.self-is, omega (arith, w.if-self-eq0.false))
    ] in
    let list : IsChunkList zs c.if-self-eq0.self after p.room =
    replaced_list xs zs p.used_count c.replace_anywhere-used.result c.if-self-eq0.self p.len p.room c.args.index c.args.out_count c.args.pieces.now c.requires.store.list c.requires.long c.requires.within c.requires.room
    same (c.replace_anywhere-used.ensures.items ∙ ap (λ ys. splice (chunks_joined ys) c.args.index (c.args.index + c.args.out_count) c.args.pieces.now) c.deref_mut.ensures.value) c.replace_anywhere-used.ensures.within
    c.replace_anywhere-used.ensures.spare c.replace_anywhere-used.ensures.chunks c.replace_anywhere-used.ensures.merged c.replace_anywhere-used.ensures.few which in
    let starts = c.write_index.new.starts.numbers in
    let firsts = c.write_index.new.firsts in
    let starts_size : length starts ≡ length p.starts.numbers = c.write_index.ensures.starts_len in
    let firsts_size : length firsts ≡ length p.firsts.items = c.write_index.ensures.firsts_len ∙ ap length c.deref_mut-2.ensures.value in
    let firsts_back : take p.firsts.len (firsts ++ drop (length firsts) p.firsts.items) ≡ firsts = take_at firsts (drop (length firsts) p.firsts.items) p.firsts.len (omega (arith, firsts_size, p.firsts.ok)) in
    record {
      list = rw back list;
      index = rw (back, firsts_back) (index_written zs (take c.if-self-eq0.self c.deref.result.now) c.if-self-eq0.self starts firsts (ap (take c.if-self-eq0.self) read) c.write_index.ensures.starts c.write_index.ensures.firsts
          (omega (arith, same, starts_size, c.requires.store.index.starts_within)) (omega (arith, same, firsts_size, c.requires.store.index.firsts_within)));
    }
