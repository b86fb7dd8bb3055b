use Rattle.gv_space.proofs.FirstPageLoops.{came_turn, came_none, came_end, one_more_at, has_row}
use Rattle.std.proofs.Common.{refl, ◌+◌, ◌<◌, ◌≤◌, arith, sym, ◌∙◌}
use Rattle.gv_buffers.specs.Buffers.{most_counted}
use Rattle.gv_types.specs.declared.mapping.Backing.TheVariants.{Zero}
use Rattle.gv_space.specs.Counts.{more_used}
use Rattle.gv_space.proofs.CountsOneByOne.{more_used_counting, by_count_none, can_count, count_turn, count_end}
use Rattle.gv_space.proofs.counts.count_in.Goals as goal
use Rattle.gv_space.proofs.counts.count_in.Goals.{in-Buffer, in_default}

pub loop-mapping-init : goal.loop-mapping-init
loop-mapping-init c = record {
  counts = sym (by_count_none more_used c.args.buffers.now more_used_counting);
  first_pages = λ before behind laid are. are;
  few = λ index. (let less = c.requires.few index in omega (arith, less));
  rows = refl;
}

pub add_page-requires-clause-row : goal.add_page-requires-clause-row
add_page-requires-clause-row c =
    let row = has_row c.args.mappings.now c.loop-mapping.mapping-index c.mapping-item.result c.in-Buffer.id c.in-Buffer.page _ c.loop-mapping-test.true c.mapping-item.is
    (sym c.backing.ensures ∙ c.in-Buffer.is) c.requires.rows in
    omega (arith, row, c.loop-mapping.invariant.rows)

pub add_page-requires-clause-few : goal.add_page-requires-clause-few
add_page-requires-clause-few c =
    let less = c.loop-mapping.invariant.few c.in-Buffer.id.index in
    omega (arith, less, c.loop-mapping-test.true)

pub count_in-requires : goal.count_in-requires
count_in-requires c =
    can_count more_used (λ b. b.uses) (λ b n. b.uses + n ≤ most_counted) (λ n. n < most_counted) more_used_counting (λ b n k less fits. omega arith)
    c.args.buffers.now c.loop-mapping.buffers c.args.mappings.now c.loop-mapping.mapping-index c.mapping-item.result c.in-Buffer.id c.in-Buffer.page
    c.loop-mapping-test.true c.mapping-item.is (sym c.backing.ensures ∙ c.in-Buffer.is) c.requires.live c.requires.room c.loop-mapping.invariant.counts

pub loop-mapping-preserved : goal.loop-mapping-preserved
loop-mapping-preserved c =
    let inv = c.loop-mapping.invariant in
    let ms = c.args.mappings.now in
    let turn = count_turn more_used c.args.buffers.now c.loop-mapping.buffers c.match-backing.buffers ms c.loop-mapping.mapping-index c.mapping-item.result in
    elim c.match-backing.branch [
      | in-Buffer w ↦
          let of = sym c.backing.ensures ∙ w.in-Buffer.is in
          rw w.first_pages-is record {
            counts = turn _ more_used_counting c.loop-mapping-test.true c.mapping-item.is of inv.counts (w.buffers-is ∙ w.count_in.ensures);
            first_pages = λ before behind laid are.
                came_turn before behind ms c.loop-mapping.mapping-index c.mapping-item.result c.loop-mapping-test.true c.mapping-item.is
                w.in-Buffer.id w.in-Buffer.page c.loop-mapping.first_pages w.add_page.new.self of laid (rw w.first.ensures.value at w.add_page.ensures.here) w.add_page.ensures.others
                (inv.first_pages before behind laid are);
            few = λ index.
                (let less = one_more_at w.in-Buffer.id.index w.first.result c.loop-mapping.first_pages w.add_page.new.self w.add_page.ensures.here w.add_page.ensures.others index in
                let so_far = inv.few index in
                omega (arith, less, so_far, c.loop-mapping-test.true));
            rows = w.add_page.ensures.length ∙ inv.rows;
          }
      | in_default w ↦
          let of = sym c.backing.ensures ∙ w.in_default.is in
          rw w.first_pages-is record {
            counts = turn Zero more_used_counting c.loop-mapping-test.true c.mapping-item.is of inv.counts w.buffers-is;
            first_pages = λ before behind laid are.
                came_none before behind ms c.loop-mapping.mapping-index c.mapping-item.result c.loop-mapping-test.true c.mapping-item.is
                c.loop-mapping.first_pages of (inv.first_pages before behind laid are);
            few = λ index. (let so_far = inv.few index in omega (arith, so_far));
            rows = inv.rows;
          }
    ]

pub returns-clause-counts : goal.returns-clause-counts
returns-clause-counts c =
    count_end more_used c.args.buffers.now c.loop-mapping.buffers c.args.mappings.now c.loop-mapping.mapping-index c.loop-mapping-test.false c.loop-mapping.invariant.counts

pub returns-clause-first_pages : goal.returns-clause-first_pages
returns-clause-first_pages c = λ before behind laid are.
    came_end before behind c.args.mappings.now c.loop-mapping.mapping-index c.loop-mapping.first_pages c.loop-mapping-test.false
    (c.loop-mapping.invariant.first_pages before behind laid are)
