use Rattle.std.proofs.Common.{arith, refl, ◌≡◌, ◌+◌, ◌-◌, ◌*◌, ◌≤◌, ℕ, inl, inr, true, MatchOption, subst}
use Rattle.std.proofs.lemmas.Bool.{cases_lt}
use Rattle.std.proofs.Math.Nat.{add-mul}
use Rattle.gv_types.specs.PageRange.{lies_in}
use Rattle.gv_types.specs.Mapping.{part}
use Rattle.gv_table.specs.declared.wanted.Wanted.TheVariants as variant
use Rattle.gv_table.specs.Levels.{pages_of, slot_pages}
use Rattle.gv_table.specs.Wanted.{wanted}
use Rattle.gv_table.proofs.ListPositions.{position-ended}
use Rattle.gv_table.proofs.UniformSlots.{held-undivided, slot-from}
use Rattle.gv_table.proofs.fast_row.are_whole.Goals as goal

pub loop-index-preserved : goal.loop-index-preserved
loop-index-preserved c =
    let inv = c.loop-index.invariant in
    let ms = c.args.excerpt.now.mappings.now in
    let level : ℕ = c.args.slot_at.level in
    let p : ℕ = pages_of c.args.slot_at.level in
    let i : ℕ = c.loop-index.index in
    let alike = c.alike_from-count.ensures in
    let held = c.alike_from-count.result.held in
    let product = add-mul c.loop-index.index c.min.result (pages_of c.args.slot_at.level) in
    let there = λ (k : ℕ) (from : c.loop-index.index ≤ k). slot-from c.args.slot_at.first (c.args.slot_at.first + c.loop-index.index * c.pages_of-pages.result) i k c.pages_of-pages.result p refl c.pages_of-pages.ensures.pages from in
    record {
      position = position-ended ms c.max.result _ c.advance-position.result
          (let start = there c.loop-index.index (omega arith) in omega (arith, start, product)) c.advance-position.ensures;
      whole = λ k from below. elim (cases_lt k c.loop-index.index) [
        | inl less ↦ inv.whole k from less
        | inr up ↦ record {
          within = subst (λ (n : ℕ). lies_in (slot_pages c.args.slot_at.level n) c.args.excerpt.now.range ≡ true) (there k up) (alike.within (k - i) (omega (arith, up, below, c.min.ensures)));
          undivided = held-undivided ms level (c.args.slot_at.first + k * pages_of c.args.slot_at.level) held
              (subst (λ (n : ℕ). MatchOption held (wanted ms level n ≡ variant.Nothing) (λ m. wanted ms level n ≡ variant.Entry (part m n))) (there k up)
              (alike.wanted (k - i) (omega (arith, up, below, c.min.ensures))));
        }
      ];
    }
