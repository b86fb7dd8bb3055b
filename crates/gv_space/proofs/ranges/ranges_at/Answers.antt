use Rattle.std.proofs.Common.{◌++◌, ◌∷◌, [], ap, ◌∙◌}
use Rattle.gv_types.specs.PageRange.{PageRangeState}
use Rattle.gv_types.specs.Mapping.{one_page_of_zeros}
use Rattle.gv_space.proofs.FirstPageFound.{found_turn, none_is_missed}
use Rattle.gv_space.proofs.ranges.ranges_at.Goals as goal
use Rattle.gv_space.proofs.ranges.ranges_at.Goals.{in-Some+in_ok-push, in_default}

pub loop-page-preserved : goal.loop-page-preserved
loop-page-preserved c = λ test are.
    let ms = c.args.list.now.mappings in
    elim c.match-first_ending_after.branch [
      | in-Some+in_ok-push w ↦
          rw w.ranges-is (w.in_ok-push.ensures.items
          ∙ ap (λ (r : PageRangeState). c.loop-page.ranges.items ++ r ∷ []) w.range.ensures
          ∙ found_turn test ms c.args.first_pages.now c.loop-page.page-index _ c.len-len.ensures.laid_out c.loop-page-test.true are one_page_of_zeros
          w.in-Some.mapping.now c.loop-page.ranges.items w.in-Some.ensures (c.loop-page.invariant test are))
      | in_default w ↦
          none_is_missed test ms c.args.first_pages.now c.loop-page.page-index _ c.len-len.ensures.laid_out c.loop-page-test.true are one_page_of_zeros w.in_default.ensures
    ]
