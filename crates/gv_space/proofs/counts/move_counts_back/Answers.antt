use Rattle.std.proofs.Common.{◌+◌, ◌-◌, ◌≤◌, arith, sym, subst, ap, ◌∙◌}
use Rattle.std.specs.List.{All}
use Rattle.std.proofs.lemmas.List.Elements.{All-weaker}
use Rattle.gv_buffers.specs.Buffers.{BuffersState, most_counted}
use Rattle.gv_space.specs.Counts.{by_count, count_of, less_used, moved_in}
use Rattle.gv_space.specs.Live.{IsLiveBacking}
use Rattle.gv_space.proofs.ByCountLemmas.{less_used_of_counts, live-by_count, All-by_count}
use Rattle.gv_space.proofs.Recounted.{brought_back_last}
use Rattle.gv_space.proofs.counts.move_counts_back.Goals as goal

pub bring_back-requires-clause-live : goal.bring_back-requires-clause-live
bring_back-requires-clause-live c =
    subst (λ (t : BuffersState). All (λ m. IsLiveBacking t m.backing) c.args.taken.now) (sym c.count_out_run.ensures.counts)
    (live-by_count less_used c.args.pieces c.args.buffers.now c.args.taken.now less_used_of_counts c.requires.taken)

pub bring_back-requires-clause-kept : goal.bring_back-requires-clause-kept
bring_back-requires-clause-kept c =
    subst (λ (t : BuffersState). All (λ b. count_of b.id c.args.taken.now ≤ b.kept) t.live) (sym c.count_out_run.ensures.counts)
    (All-by_count (λ b. count_of b.id c.args.taken.now ≤ b.kept) less_used c.args.pieces c.args.buffers.now c.requires.kept)

pub bring_back-requires-clause-room : goal.bring_back-requires-clause-room
bring_back-requires-clause-room c =
    subst (λ (t : BuffersState). All (λ b. b.uses + count_of b.id c.args.taken.now ≤ most_counted) t.live) (sym c.count_out_run.ensures.counts)
    (All-by_count (λ b. b.uses + count_of b.id c.args.taken.now ≤ most_counted) less_used c.args.pieces c.args.buffers.now
    (All-weaker (λ b. b.uses + count_of b.id c.args.taken.now ≤ most_counted) (λ b. b.uses - count_of b.id c.args.pieces + count_of b.id c.args.taken.now ≤ most_counted) (λ b fits. omega arith)
    c.args.buffers.now.live c.requires.room))

pub returns-clause-counts : goal.returns-clause-counts
returns-clause-counts c =
    c.bring_back.ensures.counts ∙ ap (by_count moved_in c.args.taken.now) c.count_out_run.ensures.counts
    ∙ brought_back_last c.args.pieces c.args.taken.now c.args.buffers.now c.requires.counted

pub returns-clause-first_pages : goal.returns-clause-first_pages
returns-clause-first_pages c = λ before behind laid laid' are.
    c.bring_back.ensures.first_pages before behind laid' (c.count_out_run.ensures.first_pages before behind laid are)
