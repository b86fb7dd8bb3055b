use Rattle.std.proofs.Common.{rules, arith, refl, ◌≡◌, ◌≢◌, ◌≤◌, ◌<◌, ◌+◌, ◌*◌, ℕ, ◌⊎◌, inl, inr, List, length, slice_index_or, slice_set, IfSome, MatchOption, sym, ap, ◌∙◌, subst}
use Rattle.std.proofs.lemmas.List.{get_or_default}
use Rattle.gv_types.specs.Mapping.{part}
use Rattle.gv_table.specs.Kinds.{Kind}
use Rattle.gv_table.specs.declared.slot.Slot.{Slot}
use Rattle.gv_table.specs.declared.slot.Slot.TheVariants.{Empty}
use Rattle.gv_table.specs.Levels.{pages_of}
use Rattle.gv_table.specs.BufferNames.{IsEncodable}
use Rattle.gv_table.specs.Shape.{IsShaped}
use Rattle.gv_table.specs.Tree.{IsTreeOf, leaf}
use Rattle.gv_table.specs.Counts.{tables_in, tables_at}
use Rattle.gv_table.proofs.TableCountUpdates.{row-part, row-counted}
use Rattle.gv_table.proofs.TablesInSlots.{tables_at-other}
use Rattle.gv_table.proofs.TablesAsWanted.{lost-whole, gained-none}
use Rattle.gv_table.proofs.NextSlotPainted.{painted-gained, painted-lost, painted-above}
use Rattle.gv_table.proofs.OneSlotPainted.{sides}
use Rattle.gv_table.proofs.Shapes.{shaped-other}
use Rattle.gv_table.proofs.RowLoops.{row-other, row-here}
use Rattle.gv_table.proofs.UniformSlots.{alike-undivided, alike-tree, alike-encoded, alike-no-table}
use Rattle.gv_table.proofs.leaves.paint_alike.Goals as goal

pub loop-index-init : goal.loop-index-init
loop-index-init c = record {
  painted = λ k from below. absurd (omega (arith, from, below));
  before = λ k below. refl;
  untouched = λ k from. refl;
  shaped = c.requires.shaped;
  gained = λ kind. refl;
  put = λ kind. refl;
  present = λ target. refl;
}

pub paint_whole-requires-clause-counted : goal.paint_whole-requires-clause-counted
paint_whole-requires-clause-counted c = λ target.
    let ms = c.args.excerpt.now.mappings.now in
    let i : ℕ = c.loop-index.index in
    let row = c.loop-index.slots in
    let page : ℕ = c.args.slot_at.first + c.loop-index.index * pages_of c.args.slot_at.level in
    let within : c.loop-index.index < length c.loop-index.slots = search rules in
    let below : c.loop-index.index < 512 = omega (arith, c.loop-index-test.true, c.requires.within) in
    let start : c.args.slot_at.first + c.loop-index.index * c.pages_of-pages.result ≡ c.args.slot_at.first + c.loop-index.index * pages_of c.args.slot_at.level =
    ap (λ (n : ℕ). c.args.slot_at.first + c.loop-index.index * n) c.pages_of-pages.ensures.pages in
    let read : slice_index_or row i c.index-slots-index.result ≡ slice_index_or row i Empty = get_or_default row i c.index-slots-index.result Empty within in
    let here = row-part c.args.counts.now c.loop-index.counts c.args.slot_at.level i c.args.slots.now row below c.requires.part c.loop-index.invariant.present in
    let counted = here.counted target in
    let same = ap (λ (s : Slot). tables_at target c.args.slot_at.level s) read in
    omega (arith, counted, same)

pub paint_whole-requires-clause-encoded : goal.paint_whole-requires-clause-encoded
paint_whole-requires-clause-encoded c =
    let ms = c.args.excerpt.now.mappings.now in
    let start : c.args.slot_at.first + c.loop-index.index * c.pages_of-pages.result ≡ c.args.slot_at.first + c.loop-index.index * pages_of c.args.slot_at.level =
    ap (λ (n : ℕ). c.args.slot_at.first + c.loop-index.index * n) c.pages_of-pages.ensures.pages in
    let page : ℕ = c.args.slot_at.first + c.loop-index.index * pages_of c.args.slot_at.level in
    subst (λ (n : ℕ). IfSome c.args.held (λ m. IsEncodable (part m.now n).backing 1)) (sym start)
    (alike-encoded ms c.args.slot_at.level page c.args.held c.requires.laid_out c.requires.encoded (c.requires.wanted c.loop-index.index c.loop-index.auto.index c.loop-index-test.true))

split : (k i : ℕ) → k < i + 1 → (k < i) ⊎ (k ≡ i)
split k i below = grind arith

pub loop-index-preserved : goal.loop-index-preserved
loop-index-preserved c =
    let inv = c.loop-index.invariant in
    let ms = c.args.excerpt.now.mappings.now in
    let i : ℕ = c.loop-index.index in
    let row = c.loop-index.slots in
    let page : ℕ = c.args.slot_at.first + c.loop-index.index * pages_of c.args.slot_at.level in
    let within : c.loop-index.index < length c.loop-index.slots = search rules in
    let below : c.loop-index.index < 512 = omega (arith, c.loop-index-test.true, c.requires.within) in
    let start : c.args.slot_at.first + c.loop-index.index * c.pages_of-pages.result ≡ c.args.slot_at.first + c.loop-index.index * pages_of c.args.slot_at.level =
    ap (λ (n : ℕ). c.args.slot_at.first + c.loop-index.index * n) c.pages_of-pages.ensures.pages in
    let read : slice_index_or row i c.index-slots-index.result ≡ slice_index_or row i Empty = get_or_default row i c.index-slots-index.result Empty within in
    let want = c.requires.wanted c.loop-index.index c.loop-index.auto.index c.loop-index-test.true in
    let none = alike-undivided ms c.args.slot_at.level page c.args.held want in
    let whole = λ (kind : Kind). lost-whole kind ms c.args.slot_at.level page (slice_index_or row i Empty) c.requires.laid_out none in
    let count = λ (kind : Kind). ap (λ (s : Slot). tables_in kind c.args.slot_at.level s) read in
    let after : List Slot = slice_set row i c.paint_whole.new.slot in
    let same : (k : ℕ) → k ≢ i → slice_index_or after k Empty ≡ slice_index_or row k Empty = row-other after row i _ refl in
    let new : slice_index_or after i Empty ≡ c.paint_whole.new.slot = row-here after row i _ refl within in
    let P : ℕ → Slot → Type 0 = λ n s. MatchOption c.args.held (s ≡ Empty) (λ m. s ≡ leaf (part m.now n)) in
    let made : P page (slice_index_or after i Empty) = subst (P page) (sym new) (subst (λ (n : ℕ). P n c.paint_whole.new.slot) start c.paint_whole.ensures.slot) in
    let here : IsTreeOf ms c.args.slot_at.level page (slice_index_or after i Empty) = alike-tree ms c.args.slot_at.level page c.args.held _ want made in
    let g = λ (kind : Kind). painted-gained ms c.args.slot_at.level c.args.slot_at.first i c.args.slots.now row after same inv.untouched c.requires.laid_out here kind below in
    let l = λ (kind : Kind). painted-lost ms c.args.slot_at.level c.args.slot_at.first i c.args.slots.now row after same inv.untouched c.requires.laid_out here kind below in
    let nothing = λ (kind : Kind). gained-none kind ms c.args.slot_at.level page (slice_index_or row i Empty) none in
    record {
      painted = λ k from less. elim (split k i less) [
        | inl smaller ↦ (let differ : k ≢ i = omega arith in
            subst (λ (s : Slot). IsTreeOf ms c.args.slot_at.level (c.args.slot_at.first + k * pages_of c.args.slot_at.level) s) (sym (same k differ)) (inv.painted k from smaller))
        | inr e ↦ (let P : ℕ → Type 0 = λ j. IsTreeOf ms c.args.slot_at.level (c.args.slot_at.first + j * pages_of c.args.slot_at.level) (slice_index_or after j Empty) in subst P (sym e) here)
      ];
      before = λ k less. let differ : k ≢ i = omega (arith, less, c.loop-index.auto.index) in same k differ ∙ inv.before k less;
      shaped = λ k inside. elim (sides k i) [
        | inl e ↦ (let P : ℕ → Type 0 = λ j. IsShaped c.args.slot_at.level (slice_index_or after j Empty) in
            subst P (sym e) (shaped-other c.args.slot_at.level (slice_index_or after i Empty) (alike-no-table c.args.held page _ made)))
        | inr (inl less) ↦ (let differ : k ≢ i = omega (arith, less) in subst (λ (s : Slot). IsShaped c.args.slot_at.level s) (sym (same k differ)) (inv.shaped k inside))
        | inr (inr more) ↦ (let differ : k ≢ i = omega (arith, more) in subst (λ (s : Slot). IsShaped c.args.slot_at.level s) (sym (same k differ)) (inv.shaped k inside))
      ];
      untouched = painted-above ms c.args.slot_at.level c.args.slot_at.first i c.args.slots.now row after same inv.untouched c.requires.laid_out here;
      gained = λ kind. omega (arith, g kind, nothing kind, inv.gained kind);
      put = λ kind. omega (arith, l kind, whole kind, count kind, inv.put kind, c.paint_whole.ensures.put kind);
      present = row-counted c.args.counts.now c.loop-index.counts c.paint_whole.new.counts c.args.slot_at.level i c.args.slots.now row after below same inv.present
          (λ target.
          let old = ap (λ (s : Slot). tables_at target c.args.slot_at.level s) read in
          let end = tables_at-other target c.args.slot_at.level (slice_index_or after i Empty) (alike-no-table c.args.held page _ made) in
          let counted = c.paint_whole.ensures.counted target in
          omega (arith, old, end, counted));
    }

pub returns-clause-painted : goal.returns-clause-painted
returns-clause-painted c = λ k from below. c.loop-index.invariant.painted k from (omega (arith, below, c.loop-index-test.false))

pub returns-clause-before : goal.returns-clause-before
returns-clause-before c = c.loop-index.invariant.before

pub returns-clause-behind : goal.returns-clause-behind
returns-clause-behind c = λ k from.
    let last : c.loop-index.index ≤ c.args.run.end = c.loop-index.auto.index-end c.requires.ordered in
    c.loop-index.invariant.untouched k (omega (arith, from, last))

pub returns-clause-gained : goal.returns-clause-gained
returns-clause-gained c = c.loop-index.invariant.gained

pub returns-clause-put : goal.returns-clause-put
returns-clause-put c = c.loop-index.invariant.put

pub returns-clause-counted : goal.returns-clause-counted
returns-clause-counted c = c.loop-index.invariant.present

pub paint_whole-requires-clause-shaped : goal.paint_whole-requires-clause-shaped
paint_whole-requires-clause-shaped c =
    let within : c.loop-index.index < length c.loop-index.slots = search rules in
    let below : c.loop-index.index < 512 = omega (arith, c.loop-index-test.true, c.requires.within) in
    subst (λ (s : Slot). IsShaped c.args.slot_at.level s) (sym (get_or_default c.loop-index.slots c.loop-index.index c.index-slots-index.result Empty within))
    (c.loop-index.invariant.shaped c.loop-index.index below)

pub returns-clause-shaped : goal.returns-clause-shaped
returns-clause-shaped c = c.loop-index.invariant.shaped
