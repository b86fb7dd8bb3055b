use Rattle.std.proofs.Common.{arith, refl, ◌≡◌, ◌+◌, ◌-◌, ◌*◌, ◌≤◌, ℕ, ◌∙◌, inl, inr, true, slice_index_or, IfSome, MatchOption, sym, subst}
use Rattle.std.proofs.lemmas.Bool.{cases_lt}
use Rattle.std.proofs.Math.Nat.{add-mul}
use Rattle.gv_types.specs.PageRange.{covers}
use Rattle.gv_types.specs.Mapping.{part}
use Rattle.gv_table.specs.declared.slot.Slot.{Slot}
use Rattle.gv_table.specs.declared.slot.Slot.TheVariants.{Empty}
use Rattle.gv_table.specs.declared.wanted.Wanted.TheVariants as variant
use Rattle.gv_table.specs.Levels.{pages_of}
use Rattle.gv_table.specs.Tree.{IsTreeOf}
use Rattle.gv_table.specs.Wanted.{wanted}
use Rattle.gv_table.proofs.ListPositions.{position-ended}
use Rattle.gv_table.proofs.UniformSlots.{alike-tree, alike-encoded, copied-match, copied-some, slot-from}
use Rattle.gv_table.proofs.fast_row.put_leaves.Goals as goal

pub fill_leaves-requires-clause-covered : goal.fill_leaves-requires-clause-covered
fill_leaves-requires-clause-covered c = λ k from below.
    let held = c.alike_from-count.result.held in
    let there = slot-from c.args.slot_at.first (c.args.slot_at.first + c.loop-index.index * c.pages_of-pages.result) c.loop-index.index k c.pages_of-pages.result (pages_of c.args.slot_at.level)
    refl c.pages_of-pages.ensures.pages from in
    copied-some c.as_ref.result held (λ m. covers m.range (c.args.slot_at.first + k * pages_of c.args.slot_at.level) ≡ true) c.as_ref.ensures.value
    (subst (λ (n : ℕ). IfSome held (λ m. covers m.range n ≡ true)) there
    (c.alike_from-count.ensures.covered (k - c.loop-index.index) (omega (arith, from, below, c.min-alike.ensures))))

pub fill_leaves-requires-clause-encoded : goal.fill_leaves-requires-clause-encoded
fill_leaves-requires-clause-encoded c = λ k from below.
    let ms = c.args.excerpt.now.mappings.now in
    let level : ℕ = c.args.slot_at.level in
    let p : ℕ = pages_of c.args.slot_at.level in
    let held = c.alike_from-count.result.held in
    let there = slot-from c.args.slot_at.first (c.args.slot_at.first + c.loop-index.index * c.pages_of-pages.result) c.loop-index.index k c.pages_of-pages.result p refl c.pages_of-pages.ensures.pages from in
    alike-encoded ms level (c.args.slot_at.first + k * p) c.as_ref.result c.requires.laid_out c.requires.encoded
    (copied-match c.as_ref.result held _ (λ m. wanted ms level (c.args.slot_at.first + k * p) ≡ variant.Entry (part m (c.args.slot_at.first + k * p))) c.as_ref.ensures.value
    (subst (λ (n : ℕ). MatchOption held (wanted ms level n ≡ variant.Nothing) (λ m. wanted ms level n ≡ variant.Entry (part m n)))
    there (c.alike_from-count.ensures.wanted (k - c.loop-index.index) (omega (arith, from, below, c.min-alike.ensures)))))

pub loop-index-preserved : goal.loop-index-preserved
loop-index-preserved c =
    let inv = c.loop-index.invariant in
    let ms = c.args.excerpt.now.mappings.now in
    let level : ℕ = c.args.slot_at.level in
    let p : ℕ = pages_of c.args.slot_at.level in
    let i : ℕ = c.loop-index.index in
    let held = c.alike_from-count.result.held in
    let filled = c.fill_leaves.ensures in
    let product = add-mul c.loop-index.index c.min-alike.result (pages_of c.args.slot_at.level) in
    let there = λ (k : ℕ) (from : c.loop-index.index ≤ k). slot-from c.args.slot_at.first (c.args.slot_at.first + c.loop-index.index * c.pages_of-pages.result) i k c.pages_of-pages.result p refl c.pages_of-pages.ensures.pages from in
    record {
      from = omega (arith, inv.from);
      last = omega (arith, c.loop-index-test.true, c.min-alike.ensures);
      position = position-ended ms c.max.result _ c.advance-position.result
          (let start = there c.loop-index.index (omega arith) in omega (arith, start, product)) c.advance-position.ensures;
      painted = λ k from below. elim (cases_lt k c.loop-index.index) [
        | inl less ↦ subst (λ (s : Slot). IsTreeOf ms level (c.args.slot_at.first + k * pages_of c.args.slot_at.level) s) (sym (filled.before k less)) (inv.painted k from less)
        | inr up ↦ alike-tree ms level (c.args.slot_at.first + k * pages_of c.args.slot_at.level) c.as_ref.result (slice_index_or c.fill_leaves.new.slots k Empty)
            (copied-match c.as_ref.result held _ (λ m. wanted ms level (c.args.slot_at.first + k * p) ≡ variant.Entry (part m (c.args.slot_at.first + k * p))) c.as_ref.ensures.value
            (subst (λ (n : ℕ). MatchOption held (wanted ms level n ≡ variant.Nothing) (λ m. wanted ms level n ≡ variant.Entry (part m n)))
            (there k up) (c.alike_from-count.ensures.wanted (k - i) (omega (arith, up, below, c.min-alike.ensures)))))
            (filled.filled k up below)
      ];
      before = λ k less. filled.before k (omega (arith, less, inv.from)) ∙ inv.before k less;
      untouched = λ k from. filled.behind k from ∙ inv.untouched k (omega (arith, from));
    }
