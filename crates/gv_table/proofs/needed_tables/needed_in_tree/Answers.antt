use Rattle.std.proofs.Common.{arith, ◌≡◌, ◌+◌, ◌-◌, ◌*◌, ℕ, ap, sym, ◌∙◌, subst}
use Rattle.gv_table.specs.Kinds.{Kind}
use Rattle.gv_table.specs.Levels.{pages_of, LiesInSlot}
use Rattle.gv_table.specs.Tree.{is_table, child}
use Rattle.gv_table.specs.Counts.{needed}
use Rattle.gv_table.proofs.TablesInSlots.{needed-same}
use Rattle.gv_table.proofs.KindLemmas.{of-each}
use Rattle.gv_table.proofs.NeedsOfOnePart.{needed-around}
use Rattle.gv_table.proofs.Needs.{missing-small}
use Rattle.gv_table.proofs.PagesOf.{pages_of-top, pages_of-below, part-within}
use Rattle.gv_table.proofs.needed_tables.needed_in_tree.Goals as goal

pub loop-index-init : goal.loop-index-init
loop-index-init c =
    let all = pages_of-top in
    let in_space = c.first-page.ensures.in_space in
    record {
      known = omega arith;
      in_space = omega (arith, all);
      within = record { from = omega arith; upto = omega (arith, all, in_space) };
      few = of-each _ (omega arith) (omega arith);
      counted = of-each _ (omega arith) (omega arith);
    }

pub loop-index-preserved : goal.loop-index-preserved
loop-index-preserved c =
    let inv = c.loop-index.invariant in
    let level : ℕ = c.loop-index.level in
    let first : ℕ = c.loop-index.first in
    let index : ℕ = c.in-Some.index in
    let slot = c.loop-index.slot.now in
    let range = c.args.range in
    let is = c.in-Some.ensures.part in
    let all = pages_of-below level (let h = is.some in omega (arith, h)) in
    let fits = part-within index (512 * pages_of (level - 1)) (pages_of (level - 1)) is.known (omega arith) in
    let start : first + index * pages_of (level - 1) ≡ first + index * c.pages_of.result = ap (λ (n : ℕ). first + index * n) (sym c.pages_of.ensures.pages) in
    let small = λ (kind : Kind). missing-small kind (level - 1) (is_table slot) in
    let some = is.some in
    let parts = λ (kind : Kind). needed-around range level first index c.first-page.ensures.in_space.0 is kind c.args.pieces.now slot in
    let part = λ (kind : Kind). ap (λ (n : ℕ). needed kind c.args.pieces.now range (level - 1) n (child slot index)) start ∙
    needed-same kind c.args.pieces.now range (level - 1) (first + index * c.pages_of.result) _ _ c.child_of-slot.ensures in
    record {
      known = omega (arith, inv.known);
      in_space = omega (arith, inv.in_space, all, fits, start);
      within = subst (λ (n : ℕ). LiesInSlot range (level - 1) n) start is.part;
      few = λ kind. omega (arith, inv.few kind, c.with-count.ensures kind, c.missing.ensures kind, small kind, some);
      counted = λ kind. omega (arith, inv.counted kind, c.with-count.ensures kind, c.missing.ensures kind, parts kind, part kind);
    }
