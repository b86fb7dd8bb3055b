use Rattle.std.proofs.Common.{arith, ◌≡◌, ◌+◌, ◌*◌, ◌≤◌, ℕ, true, false, slice_index_or, refl, sym, ◌∙◌, subst, inl, inr}
use Rattle.std.proofs.lemmas.Bool.{cases_lt}
use Rattle.gv_table.specs.BufferNames.{PageSlot}
use Rattle.gv_table.specs.Levels.{pages_of, slot_pages, first_within}
use Rattle.gv_table.specs.Tree.{IsTreeOf, slot_of, no_page}
use Rattle.gv_table.proofs.PagesOf.{pages_of-zero, slots-of-one-page}
use Rattle.gv_table.proofs.ListPositions.{ended-later, position-ended}
use Rattle.gv_table.proofs.RangesMeet.{meets-bounds}
use Rattle.gv_table.proofs.pages.paint_pages.Goals as goal

pub loop-index-init : goal.loop-index-init
loop-index-init c = record {
  from = omega arith;
  upto = c.slots_met-low.ensures.ordered;
  position = ended-later c.args.excerpt.now.mappings.now (first_within c.args.excerpt.now.range c.args.first) _ c.args.excerpt.now.position (omega (arith, pages_of-zero)) c.requires.position;
  painted = λ k up below. absurd (omega (arith, up, below));
  before = λ k less. refl;
  untouched = λ k above. refl;
}

pub advance-position-requires-clause-ended : goal.advance-position-requires-clause-ended
advance-position-requires-clause-ended c =
    let from : c.slots_met-low.result.0 ≤ c.loop-index.index = c.loop-index.invariant.from in
    let in_range = meets-bounds (slot_pages 0 (c.args.first + c.loop-index.index * pages_of 0)) c.args.excerpt.now.range (c.slots_met-low.ensures.met c.loop-index.index from c.loop-index-test.true) in
    ended-later c.args.excerpt.now.mappings.now _ (c.args.first + c.loop-index.index) c.loop-index.position (omega (arith, in_range, slots-of-one-page c.loop-index.index, pages_of-zero)) c.loop-index.invariant.position

pub paint_run-index-requires-clause-in_space : goal.paint_run-index-requires-clause-in_space
paint_run-index-requires-clause-in_space c = omega (arith, pages_of-zero, c.requires.in_space)

pub loop-index-preserved : goal.loop-index-preserved
loop-index-preserved c =
    let inv = c.loop-index.invariant in
    let ms = c.args.excerpt.now.mappings.now in
    let first : ℕ = c.args.first in
    let i : ℕ = c.loop-index.index in
    let run = c.paint_run-index.ensures in
    let row = c.paint_run-index.new.slots in
    record {
      from = omega (arith, inv.from, run.further);
      upto = run.within;
      position = position-ended ms (first + i) _ c.advance-position.result (omega (arith, run.further, slots-of-one-page c.paint_run-index.result)) c.advance-position.ensures;
      painted = λ k low below. elim (cases_lt k i) [
        | inl less ↦ subst (λ (s : PageSlot). IsTreeOf ms 0 (first + k * pages_of 0) (slot_of s)) (sym (run.before k less)) (inv.painted k low less)
        | inr up ↦ (
            let page : first + k ≡ first + k * pages_of 0 = omega (arith, slots-of-one-page k) in
            subst (λ (n : ℕ). IsTreeOf ms 0 n (slot_of (slice_index_or row k no_page))) page (run.painted k up below))
      ];
      before = λ k less. run.before k (omega (arith, less, inv.from)) ∙ inv.before k less;
      untouched = λ k up. run.behind k up ∙ inv.untouched k (omega (arith, run.further, up));
    }

pub returns-clause-inside : goal.returns-clause-inside
returns-clause-inside c = λ k below met.
    let page : ℕ = c.args.first + k * pages_of 0 in
    let bounds = meets-bounds (slot_pages 0 page) c.args.excerpt.now.range met in
    elim (cases_lt k c.slots_met-low.result.0) [
      | inl less ↦ absurd (omega (arith, bounds, c.slots_met-low.ensures.before k less))
      | inr low ↦ elim (cases_lt k c.loop-index.index) [
        | inl less ↦ c.loop-index.invariant.painted k low less
        | inr from ↦ (
            let behind = c.slots_met-low.ensures.beyond k (omega (arith, c.loop-index-test.false, from)) below in
            absurd (omega (arith, bounds, behind)))
      ]
    ]

pub returns-clause-outside : goal.returns-clause-outside
returns-clause-outside c = λ k below apart.
    elim (cases_lt k c.slots_met-low.result.0) [
      | inl less ↦ c.loop-index.invariant.before k less
      | inr low ↦ elim (cases_lt k c.loop-index.index) [
        | inl less ↦ (
            let met = c.slots_met-low.ensures.met k low (omega (arith, less, c.loop-index.invariant.upto)) in
            let bad : true ≡ false = sym met ∙ apart in cc)
        | inr from ↦ c.loop-index.invariant.untouched k from
      ]
    ]
