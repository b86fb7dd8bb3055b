use Rattle.std.proofs.Common.{◌≤◌, length, arith}
use Rattle.gv_chunks.proofs.IsChunkListLemmas.{joined_added, added_to, still_list}
use Rattle.gv_chunks.proofs.StoreLemmas.{index_kept, more_numbers}
use Rattle.gv_chunks.proofs.store.ChunkStore.grow.Goals as goal

pub returns-in_err-add_chunks-clause-items : goal.returns-in_err-add_chunks-clause-items
returns-in_err-add_chunks-clause-items c = joined_added c.args.self.now.chunks.items c.add_chunks.new.chunks.items c.add_chunks.ensures.kept c.add_chunks.ensures.spare

pub returns-in_err-add_chunks-clause-store : goal.returns-in_err-add_chunks-clause-store
returns-in_err-add_chunks-clause-store c =
    let p = c.args.self.now in
    record {
      list = still_list p.chunks.items c.add_chunks.new.chunks.items p.used_count p.len p.room c.add_chunks.ensures.kept c.add_chunks.ensures.spare c.add_chunks.ensures.chunks c.requires.store.list;
      index = index_kept p.chunks.items c.add_chunks.new.chunks.items p.used_count p.starts.numbers p.firsts.items c.pad.new.self.numbers c.pad-2.new.items.items c.requires.store.list.within c.add_chunks.ensures.kept
          c.requires.store.index c.pad.ensures.more c.pad.ensures.kept c.pad-2.ensures.kept
          (omega (arith, c.add_chunks.ensures.at_most, c.in_ok-pad.ensures.ok, c.pad.ensures.more, c.requires.store.index.starts_within))
          (omega (arith, c.add_chunks.ensures.at_most, c.in_ok-pad-2.ensures.ok, more_numbers p.firsts.items c.pad-2.new.items.items c.pad-2.ensures.kept, c.requires.store.index.firsts_within));
    }

pub returns-clause-items : goal.returns-clause-items
returns-clause-items c = joined_added c.args.self.now.chunks.items c.add_chunks.new.chunks.items c.add_chunks.ensures.kept c.add_chunks.ensures.spare

pub returns-clause-store : goal.returns-clause-store
returns-clause-store c =
    let p = c.args.self.now in
    let made : c.chunks_for-count.result ≤ length c.add_chunks.new.chunks.items = c.in_ok-add_chunks.ensures.ok in
    record {
      list = added_to p.chunks.items c.add_chunks.new.chunks.items p.used_count p.len p.room c.args.room c.add_chunks.ensures.kept c.add_chunks.ensures.spare c.add_chunks.ensures.chunks c.requires.store.list c.requires.more
          (λ _. omega (arith, made, c.chunks_for-count.ensures.some)) (λ long. omega (arith, made, c.chunks_for-count.ensures.enough long));
      index = index_kept p.chunks.items c.add_chunks.new.chunks.items p.used_count p.starts.numbers p.firsts.items c.pad.new.self.numbers c.pad-2.new.items.items c.requires.store.list.within c.add_chunks.ensures.kept
          c.requires.store.index c.pad.ensures.more c.pad.ensures.kept c.pad-2.ensures.kept
          (omega (arith, c.add_chunks.ensures.at_most, c.in_ok-pad.ensures.ok, c.pad.ensures.more, c.requires.store.index.starts_within))
          (omega (arith, c.add_chunks.ensures.at_most, c.in_ok-pad-2.ensures.ok, more_numbers p.firsts.items c.pad-2.new.items.items c.pad-2.ensures.kept, c.requires.store.index.firsts_within));
    }
