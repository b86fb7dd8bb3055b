use Rattle.std.proofs.Common.{◌≡◌, ◌++◌, ◌∷◌, List, [], length, arith, refl, ap, ◌∙◌}
use Rattle.gv_buffers.specs.FirstPages.{FirstPagesState, no_first_pages, first_pages_at}
use Rattle.gv_buffers.proofs.FirstPageRows.{none_pushed}
use Rattle.gv_buffers.proofs.first_page_table.FirstPageTable.reserve.Goals as goal

pub loop-alloc-init : goal.loop-alloc-init
loop-alloc-init c = record {
  same = λ other. ap (λ (rows : List FirstPagesState). first_pages_at rows other) c.self.view_is;
  no_fewer = omega (arith, ap (λ (rows : List FirstPagesState). length rows) c.self.view_is);
  no_more = omega (arith, ap (λ (rows : List FirstPagesState). length rows) c.self.view_is);
}

pub loop-alloc-preserved : goal.loop-alloc-preserved
loop-alloc-preserved c =
    let rows = c.loop-alloc.self-inside.rows.items in
    let before = c.loop-alloc.invariant in
    let pushed : c.push.new.self.items ≡ rows ++ no_first_pages ∷ [] = c.in_ok-push.ensures.items ∙ rw c.new.ensures refl in
    record {
      same = λ other. rw pushed (none_pushed rows other ∙ before.same other);
      no_fewer = omega (arith, before.no_fewer, ap (λ (rows : List FirstPagesState). length rows) pushed);
      no_more = omega (arith, c.loop-alloc-test.true, ap (λ (rows : List FirstPagesState). length rows) pushed);
    }

pub returns-in_err-push-clause-same : goal.returns-in_err-push-clause-same
returns-in_err-push-clause-same c = λ other. rw c.in_err-push.ensures.items (c.loop-alloc.invariant.same other)
