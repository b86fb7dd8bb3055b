use Rattle.std.proofs.Common.{◌≡◌, ℕ, ◌+◌, ◌-◌, List, map, length, arith, ◌∙◌, subst}
use Rattle.std.specs.List.{All}
use Rattle.gv_types.specs.PageRange.{PageRangeState, IsInSpace}
use Rattle.gv_types.specs.declared.operation.PageOp.TheVariants.{Unmap}
use Rattle.gv_journal.specs.Applying.{GrowsFor}
use Rattle.gv_journal.specs.Work.{HasRoom}
use Rattle.gv_journal.proofs.Limits.{ranges_refused, lives_where_given, starved_is_refused, unmap_refused, ops_more, state_more, limits_more}
use Rattle.gv_journal.proofs.Growing.{grows_unmapped}
use Rattle.gv_journal.proofs.applying.unmap_all.Goals as goal

pub returns-in-Err-clause-err : goal.returns-in-Err-clause-err
returns-in-Err-clause-err c = ranges_refused c.args.space.now c.args.id c.buffer_ranges.result c.in-Err.fault c.in-Err.is c.buffer_ranges.ensures.fault

pub returns-then-is_err-clause-err : goal.returns-then-is_err-clause-err
returns-then-is_err-clause-err c =
    starved_is_refused c.args.space.now c.args.id (lives_where_given c.args.space.now c.args.id c.buffer_ranges.result c.in-Ok.ranges c.in-Ok.is c.buffer_ranges.ensures.fault)

pub apply_pages-requires-clause-pages : goal.apply_pages-requires-clause-pages
apply_pages-requires-clause-pages c =
    let in_space : All IsInSpace c.deref-range-items.result.now = rw c.deref-range-items.ensures.value c.in-Ok.ensures.in_space in
    rw c.range-item.is (in_space c.loop-range.range-index c.range-item.result c.loop-range-test.true)

pub returns-in-Err-apply_pages-clause-err : goal.returns-in-Err-apply_pages-clause-err
returns-in-Err-apply_pages-clause-err c =
    unmap_refused c.args.space.now c.loop-range.space c.args.id c.deref-range-items.result.now c.loop-range.range-index c.range-item.result c.apply_pages.result c.in-Err-apply_pages.fault
    (c.deref-range-items.ensures.value ∙ c.in-Ok.ensures.ranges) c.loop-range-test.true c.range-item.is
    (lives_where_given c.args.space.now c.args.id c.buffer_ranges.result c.in-Ok.ranges c.in-Ok.is c.buffer_ranges.ensures.fault)
    c.loop-range.invariant.limits c.in-Err-apply_pages.is c.apply_pages.ensures.fault

pub returns-in-Err-apply_pages-clause-grown : goal.returns-in-Err-apply_pages-clause-grown
returns-in-Err-apply_pages-clause-grown c =
    subst (λ (rs : List PageRangeState). GrowsFor (map Unmap rs) c.args.space.now c.apply_pages.new.space) (c.deref-range-items.ensures.value ∙ c.in-Ok.ensures.ranges)
    (grows_unmapped c.args.space.now c.loop-range.space c.apply_pages.new.space c.deref-range-items.result.now c.loop-range.range-index c.range-item.result c.loop-range-test.true c.range-item.is
    c.loop-range.invariant.state c.loop-range.invariant.grown c.apply_pages.ensures.grown)

pub loop-range-preserved : goal.loop-range-preserved
loop-range-preserved c =
    let i = c.loop-range.range-index in
    let items = c.deref-range-items.result.now in
    let r = c.range-item.result in
    let below = c.loop-range-test.true in
    let remaining : length items - i + c.args.remaining ≡ 1 + (length items - (i + 1) + c.args.remaining) = omega arith in
    record {
      continues = λ origin was. c.in-Ok-apply_pages.ensures.continues origin (c.loop-range.invariant.continues origin was);
      ops = ops_more c.args.work.now.ops.items c.loop-range.work.ops.items c.apply_pages.new.work.ops.items items i r below c.range-item.is c.loop-range.invariant.ops c.in-Ok-apply_pages.ensures.ops;
      state = state_more c.args.space.now c.loop-range.space c.apply_pages.new.space items i r below c.range-item.is c.loop-range.invariant.state c.in-Ok-apply_pages.ensures.state;
      grown = grows_unmapped c.args.space.now c.loop-range.space c.apply_pages.new.space items i r below c.range-item.is c.loop-range.invariant.state c.loop-range.invariant.grown c.apply_pages.ensures.grown;
      limits = limits_more c.args.space.now c.loop-range.space c.apply_pages.new.space items i r c.apply_pages.result c.in-Ok-apply_pages.field-0 below c.range-item.is c.in-Ok-apply_pages.is c.apply_pages.ensures.fault c.in-Ok-apply_pages.ensures.state c.loop-range.invariant.limits;
      room = c.in-Ok-apply_pages.ensures.room (length items - (i + 1) + c.args.remaining) (subst (λ (n : ℕ). HasRoom n c.loop-range.work) remaining c.loop-range.invariant.room);
    }
