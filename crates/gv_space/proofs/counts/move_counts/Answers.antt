use Rattle.gv_space.proofs.FirstPageStays.{stays_between}
use Rattle.std.proofs.Common.{◌≡◌, ◌+◌, ◌-◌, ◌<◌, ◌≤◌, take, get_or, arith, sym, subst, ap, ◌∙◌}
use Rattle.std.specs.List.{All}
use Rattle.std.proofs.lemmas.List.{get_or_default}
use Rattle.std.proofs.lemmas.List.Elements.{All-weaker}
use Rattle.gv_types.specs.Mapping.{one_page_of_zeros}
use Rattle.gv_buffers.specs.Buffers.{BuffersState, most_counted}
use Rattle.gv_space.specs.Counts.{by_count, count_of, more_used, more_kept, moved_out}
use Rattle.gv_space.specs.Live.{IsLiveBacking}
use Rattle.gv_space.proofs.ByCountLemmas.{moved_out_of_counts, live-by_count, All-by_count}
use Rattle.gv_space.proofs.CountsOneByOne.{more_kept_counting, by_count_none, can_count}
use Rattle.gv_space.proofs.Recounted.{taken_out_first}
use Rattle.gv_space.proofs.FirstKept.{rest, first-kept, rest-live, rest-counted, rest-room, pieces-live, pieces-room, first-stays}
use Rattle.gv_space.proofs.counts.move_counts.Goals as goal

pub keep-requires : goal.keep-requires
keep-requires c =
    let first = c.in-Some.ensures.taken in
    can_count more_kept (λ b. b.kept) (λ b n. b.kept + n ≤ most_counted) (λ n. n < most_counted) more_kept_counting (λ b n k less fits. omega arith)
    c.args.buffers.now c.args.buffers.now c.args.taken.now 0 (get_or c.args.taken.now 0 one_page_of_zeros) c.in-Some.id first.page
    first.some (get_or_default c.args.taken.now 0 one_page_of_zeros (get_or c.args.taken.now 0 one_page_of_zeros) first.some) (first.is one_page_of_zeros) c.requires.taken c.requires.keeps (sym (by_count_none more_kept c.args.buffers.now more_kept_counting))

pub take_out-requires-clause-live : goal.take_out-requires-clause-live
take_out-requires-clause-live c =
    let kept : c.keep.new.self ≡ by_count more_kept (take 1 c.args.taken.now) c.args.buffers.now = first-kept c.in-Some.id c.args.taken.now c.args.buffers.now c.keep.new.self c.in-Some.ensures.taken c.keep.ensures in
    subst (λ (t : BuffersState). All (λ m. IsLiveBacking t m.backing) (rest c.args.taken.now)) (sym kept) (rest-live c.args.taken.now c.args.pieces.now c.args.buffers.now c.requires.taken)

pub take_out-requires-clause-counted : goal.take_out-requires-clause-counted
take_out-requires-clause-counted c =
    let kept : c.keep.new.self ≡ by_count more_kept (take 1 c.args.taken.now) c.args.buffers.now = first-kept c.in-Some.id c.args.taken.now c.args.buffers.now c.keep.new.self c.in-Some.ensures.taken c.keep.ensures in
    subst (λ (t : BuffersState). All (λ b. count_of b.id (rest c.args.taken.now) ≤ b.uses) t.live) (sym kept) (rest-counted c.args.taken.now c.args.pieces.now c.args.buffers.now c.requires.counted)

pub take_out-requires-clause-room : goal.take_out-requires-clause-room
take_out-requires-clause-room c =
    let kept : c.keep.new.self ≡ by_count more_kept (take 1 c.args.taken.now) c.args.buffers.now = first-kept c.in-Some.id c.args.taken.now c.args.buffers.now c.keep.new.self c.in-Some.ensures.taken c.keep.ensures in
    subst (λ (t : BuffersState). All (λ b. b.kept + count_of b.id (rest c.args.taken.now) ≤ most_counted) t.live) (sym kept) (rest-room c.args.taken.now c.args.pieces.now c.args.buffers.now c.requires.keeps)

pub count_in-requires-clause-live : goal.count_in-requires-clause-live
count_in-requires-clause-live c =
    let kept : c.keep.new.self ≡ by_count more_kept (take 1 c.args.taken.now) c.args.buffers.now = first-kept c.in-Some.id c.args.taken.now c.args.buffers.now c.keep.new.self c.in-Some.ensures.taken c.keep.ensures in
    let out = c.take_out.ensures.counts ∙ ap (by_count moved_out (rest c.args.taken.now)) kept in
    subst (λ (t : BuffersState). All (λ m. IsLiveBacking t m.backing) (rest c.args.pieces.now)) (sym out) (pieces-live c.args.taken.now c.args.pieces.now c.args.buffers.now c.requires.pieces)

pub count_in-requires-clause-room : goal.count_in-requires-clause-room
count_in-requires-clause-room c =
    let kept : c.keep.new.self ≡ by_count more_kept (take 1 c.args.taken.now) c.args.buffers.now = first-kept c.in-Some.id c.args.taken.now c.args.buffers.now c.keep.new.self c.in-Some.ensures.taken c.keep.ensures in
    let out = c.take_out.ensures.counts ∙ ap (by_count moved_out (rest c.args.taken.now)) kept in
    subst (λ (t : BuffersState). All (λ b. b.uses + count_of b.id (rest c.args.pieces.now) ≤ most_counted) t.live) (sym out) (pieces-room c.args.taken.now c.args.pieces.now c.args.buffers.now c.requires.room)

pub returns-in-Some-clause-counts : goal.returns-in-Some-clause-counts
returns-in-Some-clause-counts c =
    let kept : c.keep.new.self ≡ by_count more_kept (take 1 c.args.taken.now) c.args.buffers.now = first-kept c.in-Some.id c.args.taken.now c.args.buffers.now c.keep.new.self c.in-Some.ensures.taken c.keep.ensures in
    c.count_in.ensures.counts ∙ ap (by_count more_used (rest c.args.pieces.now)) (c.take_out.ensures.counts ∙ ap (by_count moved_out (rest c.args.taken.now)) kept)
    ∙ first-stays c.args.taken.now c.args.pieces.now c.args.buffers.now c.in-Some.id c.in-Some.ensures.taken c.in-Some.ensures.pieces c.requires.counted
    ∙ taken_out_first c.args.taken.now c.args.pieces.now c.args.buffers.now c.requires.counted

pub count_in-requires-2-clause-live : goal.count_in-requires-2-clause-live
count_in-requires-2-clause-live c =
    subst (λ (t : BuffersState). All (λ m. IsLiveBacking t m.backing) c.args.pieces.now) (sym c.take_out-2.ensures.counts)
    (live-by_count moved_out c.args.taken.now c.args.buffers.now c.args.pieces.now moved_out_of_counts c.requires.pieces)

pub count_in-requires-2-clause-room : goal.count_in-requires-2-clause-room
count_in-requires-2-clause-room c =
    subst (λ (t : BuffersState). All (λ b. b.uses + count_of b.id c.args.pieces.now ≤ most_counted) t.live) (sym c.take_out-2.ensures.counts)
    (All-by_count (λ b. b.uses + count_of b.id c.args.pieces.now ≤ most_counted) moved_out c.args.taken.now c.args.buffers.now
    (All-weaker (λ b. b.uses + count_of b.id c.args.pieces.now ≤ most_counted) (λ b. b.uses - count_of b.id c.args.taken.now + count_of b.id c.args.pieces.now ≤ most_counted) (λ b fits. omega arith)
    c.args.buffers.now.live c.requires.room))

pub returns-clause-counts : goal.returns-clause-counts
returns-clause-counts c =
    c.count_in-2.ensures.counts ∙ ap (by_count more_used c.args.pieces.now) c.take_out-2.ensures.counts
    ∙ taken_out_first c.args.taken.now c.args.pieces.now c.args.buffers.now c.requires.counted

pub returns-in-Some-clause-first_pages : goal.returns-in-Some-clause-first_pages
returns-in-Some-clause-first_pages c = λ before behind laid laid' are.
    let left = c.take_out.ensures.first_pages in
    let came = c.count_in.ensures.first_pages in
    stays_between before behind c.args.taken.now c.args.pieces.now c.in-Some.id c.args.first_pages.now c.take_out.new.first_pages c.count_in.new.first_pages
    c.in-Some.ensures.taken c.in-Some.ensures.pieces c.in-Some.ensures.first_pages left came laid laid' are

pub returns-clause-first_pages : goal.returns-clause-first_pages
returns-clause-first_pages c = λ before behind laid laid' are.
    c.count_in-2.ensures.first_pages before behind laid' (c.take_out-2.ensures.first_pages before behind laid are)
