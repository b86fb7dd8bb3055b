use Rattle.std.proofs.Common.{arith, ◌≡◌, ◌+◌, ◌*◌, ◌<◌, ◌≤◌, ℕ, inl, inr, length, get_or, slice_index_or, Option, MatchOption, IfSome, sym, ap, ◌∙◌, subst}
use Rattle.std.proofs.lemmas.Bool.{cases_lt}
use Rattle.gv_types.specs.PageRange.{end_of}
use Rattle.gv_types.specs.Mapping.{part, IsMapping}
use Rattle.gv_types.specs.declared.mapping.Mapping.{Mapping}
use Rattle.gv_ranges.proofs.LookupLemmas.{is_mapping}
use Rattle.gv_ranges.proofs.TakeDropLemmas.{All-drop_at}
use Rattle.gv_table.specs.declared.wanted.Wanted.TheVariants as variant
use Rattle.gv_table.specs.Levels.{pages_of, slot_pages, first_within}
use Rattle.gv_table.specs.Wanted.{wanted}
use Rattle.gv_table.proofs.UniformSlots.{gap-wanted}
use Rattle.gv_table.proofs.PagesOf.{pages_of-some, whole-part, whole-some}
use Rattle.gv_table.proofs.RangesMeet.{lies-from, lies-bounds}
use Rattle.gv_table.proofs.Wants.{held-leaf, held-whole}
use Rattle.gv_table.proofs.alike.alike_from.Goals as goal
use Rattle.gv_table.proofs.alike.alike_from.Goals.{then-first, else-first+then-excerpt-len+then-first-2, else-first+then-excerpt-len+else-first-2+then-level-le-GREATEST_LEAF_LEVEL, else-first+then-excerpt-len+else-first-2+else-level-le-GREATEST_LEAF_LEVEL, else-first+else-excerpt-len}

pub returns-clause-wanted : goal.returns-clause-wanted
returns-clause-wanted c = λ k below.
    let ms = c.args.excerpt.now.mappings.now in
    let level : ℕ = c.args.slot_at.level in
    let slot : ℕ = c.args.slot_at.first + k * pages_of c.args.slot_at.level in
    let Says : Option Mapping → Type 0 = λ held.
    MatchOption held (wanted ms level slot ≡ variant.Nothing) (λ m. wanted ms level slot ≡ variant.Entry (part m slot)) in
    let some = pages_of-some c.args.slot_at.level in
    let fits = whole-part c.saturating_sub.result k (pages_of c.args.slot_at.level) some (subst (λ (n : ℕ). k < n) c.slots_in-count.ensures below) in
    let gap = gap-wanted ms level slot (first_within c.args.excerpt.now.range c.args.slot_at.first) c.args.excerpt.now.position c.requires.laid_out c.requires.position in
    elim c.if-first.branch [
      | then-first w ↦ absurd (omega (arith, fits, some, w.end-is, c.saturating_sub.ensures))
      | else-first+then-excerpt-len+then-first-2 w ↦
          subst Says (sym w.held-is) (gap (omega (arith, w.if-first.false, c.first.ensures.value)) (λ d inside.
          let begins : w.first-then-first-2.result ≡ (get_or c.args.excerpt.now.mappings.now c.args.excerpt.now.position d).range.first =
          w.first-then-first-2.ensures.value ∙ ap (λ (m : Mapping). m.range.first) (w.get-m.ensures d) in
          omega (arith, begins, fits, w.end-is, w.min-end.ensures, c.saturating_sub.ensures)))
      | else-first+then-excerpt-len+else-first-2+then-level-le-GREATEST_LEAF_LEVEL w ↦ (
          let m = w.get-m.result in
          let is = w.get-m.ensures m in
          let low : w.first-then-excerpt-len.result ≡ (slice_index_or c.args.excerpt.now.mappings.now c.args.excerpt.now.position m).range.first =
          w.first-then-excerpt-len.ensures.value ∙ ap (λ (m : Mapping). m.range.first) is in
          let high : w.end.result ≡ end_of (slice_index_or c.args.excerpt.now.mappings.now c.args.excerpt.now.position m).range =
          w.end.ensures.value ∙ ap (λ (m : Mapping). end_of m.range) is in
          let held = held-leaf ms level slot c.args.excerpt.now.position m c.requires.laid_out (omega (arith, w.if-excerpt-len.true, w.len.ensures.len)) (omega (arith, w.if-level-le-GREATEST_LEAF_LEVEL.true))
          (lies-from (slot_pages level slot) (slice_index_or c.args.excerpt.now.mappings.now c.args.excerpt.now.position m).range
          (omega (arith, low, w.if-first-2.false))
          (omega (arith, high, fits, w.end-is, w.min-end-then-level-le-GREATEST_LEAF_LEVEL.ensures, c.saturating_sub.ensures))) in
          subst Says (sym w.held-is) (held ∙ ap (λ (m : Mapping). variant.Entry (part m slot)) (sym is)))
      | else-first+then-excerpt-len+else-first-2+else-level-le-GREATEST_LEAF_LEVEL w ↦ absurd (omega (arith, fits, some, w.end-is, c.saturating_sub.ensures))
      | else-first+else-excerpt-len w ↦
          subst Says (sym w.held-is) (gap (omega (arith, w.if-first.false, c.first.ensures.value)) (λ d inside. absurd (omega (arith, inside, w.if-excerpt-len.false, w.len.ensures.len))))
    ]

pub returns-clause-mapping : goal.returns-clause-mapping
returns-clause-mapping c =
    let Is : Option Mapping → Type 0 = λ held. IfSome held (λ m. IsMapping m) in
    elim c.if-first.branch [
      | then-first w ↦ subst Is (sym w.held-is) tt
      | else-first+then-excerpt-len+then-first-2 w ↦ subst Is (sym w.held-is) tt
      | else-first+then-excerpt-len+else-first-2+then-level-le-GREATEST_LEAF_LEVEL w ↦ (
          let m = w.get-m.result in
          subst Is (sym w.held-is) (subst IsMapping (sym (w.get-m.ensures m))
          (is_mapping c.args.excerpt.now.mappings.now 0 c.args.excerpt.now.position m c.requires.laid_out (omega (arith, w.if-excerpt-len.true, w.len.ensures.len)))))
      | else-first+then-excerpt-len+else-first-2+else-level-le-GREATEST_LEAF_LEVEL w ↦ subst Is (sym w.held-is) tt
      | else-first+else-excerpt-len w ↦ subst Is (sym w.held-is) tt
    ]

pub returns-clause-some : goal.returns-clause-some
returns-clause-some c = λ inside whole.
    let ms = c.args.excerpt.now.mappings.now in
    let level : ℕ = c.args.slot_at.level in
    let first : ℕ = c.args.slot_at.first in
    let slot = slot_pages c.args.slot_at.level c.args.slot_at.first in
    let bounds = lies-bounds slot c.args.excerpt.now.range inside in
    let some = pages_of-some c.args.slot_at.level in
    let enough : pages_of c.args.slot_at.level ≤ c.saturating_sub.result → 0 < c.slots_in-count.result =
    λ h. subst (λ (n : ℕ). 0 < n) (sym c.slots_in-count.ensures) (whole-some c.saturating_sub.result (pages_of c.args.slot_at.level) some h) in
    let holds = λ (m : Mapping) (within : c.args.excerpt.now.position < length c.args.excerpt.now.mappings.now)
    (begun : (get_or c.args.excerpt.now.mappings.now c.args.excerpt.now.position m).range.first < c.args.slot_at.first + pages_of c.args.slot_at.level).
    held-whole ms level first c.args.excerpt.now.position m c.requires.laid_out within whole begun
    (let past = All-drop_at (λ (n : Mapping). first_within c.args.excerpt.now.range c.args.slot_at.first < end_of n.range) ms c.args.excerpt.now.position m within c.requires.position.not_ended in
    omega (arith, past)) in
    elim c.if-first.branch [
      | then-first w ↦ absurd (omega (arith, bounds, w.if-first.true, c.first.ensures.value))
      | else-first+then-excerpt-len+then-first-2 w ↦ (
          let m = w.get-m.result in
          let low : w.first-then-first-2.result ≡ (get_or c.args.excerpt.now.mappings.now c.args.excerpt.now.position m).range.first =
          w.first-then-first-2.ensures.value ∙ ap (λ (m : Mapping). m.range.first) (w.get-m.ensures m) in
          let low' : w.first-then-excerpt-len.result ≡ (get_or c.args.excerpt.now.mappings.now c.args.excerpt.now.position m).range.first =
          w.first-then-excerpt-len.ensures.value ∙ ap (λ (m : Mapping). m.range.first) (w.get-m.ensures m) in
          elim (cases_lt (get_or c.args.excerpt.now.mappings.now c.args.excerpt.now.position m).range.first (c.args.slot_at.first + pages_of c.args.slot_at.level)) [
            | inl begun ↦ (let h = holds m (omega (arith, w.if-excerpt-len.true, w.len.ensures.len)) begun in absurd (omega (arith, h, low', w.if-first-2.true)))
            | inr from ↦ enough (omega (arith, from, low, bounds, w.end-is, w.min-end.ensures, c.end-end.ensures.value, c.saturating_sub.ensures))
          ])
      | else-first+then-excerpt-len+else-first-2+then-level-le-GREATEST_LEAF_LEVEL w ↦ (
          let m = w.get-m.result in
          let low : w.first-then-excerpt-len.result ≡ (get_or c.args.excerpt.now.mappings.now c.args.excerpt.now.position m).range.first =
          w.first-then-excerpt-len.ensures.value ∙ ap (λ (m : Mapping). m.range.first) (w.get-m.ensures m) in
          let high : w.end.result ≡ end_of (get_or c.args.excerpt.now.mappings.now c.args.excerpt.now.position m).range =
          w.end.ensures.value ∙ ap (λ (m : Mapping). end_of m.range) (w.get-m.ensures m) in
          let h = holds m (omega (arith, w.if-excerpt-len.true, w.len.ensures.len)) (omega (arith, low, some, w.if-first-2.false)) in
          enough (omega (arith, h, high, bounds, w.end-is, w.min-end-then-level-le-GREATEST_LEAF_LEVEL.ensures, c.end-end.ensures.value, c.saturating_sub.ensures)))
      | else-first+then-excerpt-len+else-first-2+else-level-le-GREATEST_LEAF_LEVEL w ↦ (
          let m = w.get-m.result in
          let low : w.first-then-excerpt-len.result ≡ (get_or c.args.excerpt.now.mappings.now c.args.excerpt.now.position m).range.first =
          w.first-then-excerpt-len.ensures.value ∙ ap (λ (m : Mapping). m.range.first) (w.get-m.ensures m) in
          let h = holds m (omega (arith, w.if-excerpt-len.true, w.len.ensures.len)) (omega (arith, low, some, w.if-first-2.false)) in
          absurd (omega (arith, h, w.if-level-le-GREATEST_LEAF_LEVEL.false)))
      | else-first+else-excerpt-len w ↦ enough (omega (arith, bounds, w.end-is, c.end-end.ensures.value, c.saturating_sub.ensures))
    ]
