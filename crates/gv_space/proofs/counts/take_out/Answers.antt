use Rattle.gv_space.proofs.FirstPageLoops.{left_turn, left_none, left_end, fewer}
use Rattle.std.proofs.Common.{refl, ◌+◌, ◌<◌, ◌≤◌, arith, sym, ◌∙◌}
use Rattle.gv_buffers.specs.Buffers.{most_counted}
use Rattle.gv_types.specs.declared.mapping.Backing.TheVariants.{Zero}
use Rattle.gv_space.specs.Counts.{moved_out}
use Rattle.gv_space.proofs.CountsOneByOne.{moved_out_counting, by_count_none, can_count, count_turn, count_end}
use Rattle.gv_space.proofs.counts.take_out.Goals as goal
use Rattle.gv_space.proofs.counts.take_out.Goals.{in-Buffer, in_default}

pub loop-mapping-init : goal.loop-mapping-init
loop-mapping-init c = record {
  counts = sym (by_count_none moved_out c.args.buffers.now moved_out_counting);
  first_pages = λ before behind laid are. are;
  no_more = λ index. omega arith;
  rows = refl;
}

pub count_taken_out-requires-clause-used : goal.count_taken_out-requires-clause-used
count_taken_out-requires-clause-used c =
    can_count moved_out (λ b. b.uses) (λ b n. n ≤ b.uses) (λ n. 0 < n) moved_out_counting (λ b n k less fits. omega arith)
    c.args.buffers.now c.loop-mapping.buffers c.args.mappings.now c.loop-mapping.mapping-index c.mapping-item.result c.in-Buffer.id c.in-Buffer.page
    c.loop-mapping-test.true c.mapping-item.is (sym c.backing.ensures ∙ c.in-Buffer.is) c.requires.live c.requires.counted c.loop-mapping.invariant.counts

pub count_taken_out-requires-clause-room : goal.count_taken_out-requires-clause-room
count_taken_out-requires-clause-room c =
    can_count moved_out (λ b. b.kept) (λ b n. b.kept + n ≤ most_counted) (λ n. n < most_counted) moved_out_counting (λ b n k less fits. omega arith)
    c.args.buffers.now c.loop-mapping.buffers c.args.mappings.now c.loop-mapping.mapping-index c.mapping-item.result c.in-Buffer.id c.in-Buffer.page
    c.loop-mapping-test.true c.mapping-item.is (sym c.backing.ensures ∙ c.in-Buffer.is) c.requires.live c.requires.room c.loop-mapping.invariant.counts

pub loop-mapping-preserved : goal.loop-mapping-preserved
loop-mapping-preserved c =
    let inv = c.loop-mapping.invariant in
    let ms = c.args.mappings.now in
    let turn = count_turn moved_out c.args.buffers.now c.loop-mapping.buffers c.match-backing.buffers ms c.loop-mapping.mapping-index c.mapping-item.result in
    elim c.match-backing.branch [
      | in-Buffer w ↦
          let of = sym c.backing.ensures ∙ w.in-Buffer.is in
          rw w.first_pages-is record {
            counts = turn _ moved_out_counting c.loop-mapping-test.true c.mapping-item.is of inv.counts (w.buffers-is ∙ w.count_taken_out.ensures);
            first_pages = λ before behind laid are.
                left_turn before behind ms c.loop-mapping.mapping-index c.mapping-item.result c.loop-mapping-test.true c.mapping-item.is
                w.in-Buffer.id w.in-Buffer.page c.loop-mapping.first_pages w.remove_page.new.self of laid (rw w.first.ensures.value at w.remove_page.ensures.here) w.remove_page.ensures.others
                (inv.first_pages before behind laid are);
            no_more = λ index.
                (let less = fewer w.in-Buffer.id.index w.first.result c.loop-mapping.first_pages w.remove_page.new.self w.remove_page.ensures.here w.remove_page.ensures.others index in
                let so_far = inv.no_more index in
                omega (arith, less, so_far));
            rows = w.remove_page.ensures.length ∙ inv.rows;
          }
      | in_default w ↦
          let of = sym c.backing.ensures ∙ w.in_default.is in
          rw w.first_pages-is record {
            counts = turn Zero moved_out_counting c.loop-mapping-test.true c.mapping-item.is of inv.counts w.buffers-is;
            first_pages = λ before behind laid are.
                left_none before behind ms c.loop-mapping.mapping-index c.mapping-item.result c.loop-mapping-test.true c.mapping-item.is
                c.loop-mapping.first_pages of (inv.first_pages before behind laid are);
            no_more = inv.no_more;
            rows = inv.rows;
          }
    ]

pub returns-clause-counts : goal.returns-clause-counts
returns-clause-counts c =
    count_end moved_out c.args.buffers.now c.loop-mapping.buffers c.args.mappings.now c.loop-mapping.mapping-index c.loop-mapping-test.false c.loop-mapping.invariant.counts

pub returns-clause-first_pages : goal.returns-clause-first_pages
returns-clause-first_pages c = λ before behind laid are.
    left_end before behind c.args.mappings.now c.loop-mapping.mapping-index c.loop-mapping.first_pages c.loop-mapping-test.false
    (c.loop-mapping.invariant.first_pages before behind laid are)
