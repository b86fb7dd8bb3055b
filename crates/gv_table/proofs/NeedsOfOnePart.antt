-- What a slot needs where the whole range lies in one of its parts.
use Rattle.std.proofs.Common.{◌≡◌, ℕ, ◌+◌, ◌-◌, ◌*◌, ◌<◌, inl, inr, true, false, List, arith, refl}
use Rattle.std.proofs.lemmas.Bool.{cases_lt}
use Rattle.gv_types.specs.PageRange.{PageRangeState, meets, lies_in}
use Rattle.gv_types.specs.declared.mapping.Mapping.{Mapping}
use Rattle.gv_table.specs.Kinds.{Kind, one_of, unless}
use Rattle.gv_table.specs.declared.slot.Slot.{Slot}
use Rattle.gv_table.specs.Levels.{pages_of, slot_pages, IsInPart}
use Rattle.gv_table.specs.Tree.{is_table, child}
use Rattle.gv_table.specs.Counts.{needed, may_divide}
use Rattle.gv_table.proofs.Needs.{needed-apart, needed-parts}
use Rattle.gv_table.proofs.PagesOf.{pages_of-some, pages_of-below, rows-rise}
use Rattle.gv_table.proofs.RangesMeet.{meets-from, meets-after, meets-before, lies-not-low, lies-not-high}
use Rattle.gv_table.proofs.Sums.{sum_below-zeros, sum_below-more, sum_below-rest}

module _ (range : PageRangeState) (level first index : ℕ) (some : 0 < range.count) (is : IsInPart range level first index) where
  -- the slot goes on before the range or behind it
  larger : lies_in (slot_pages level first) range ≡ false
  larger =
      let p : ℕ = pages_of (level - 1) in
      let one = pages_of-some (level - 1) in
      let all = pages_of-below level (let h = is.some in omega (arith, h)) in
      elim (cases_lt 0 index) [
        | inl later ↦ (
            let up = rows-rise 0 index p later in
            lies-not-low (slot_pages level first) range (let h = is.part.from in omega (arith, h, up, one)))
        | inr begin ↦ (
            let none : index ≡ 0 = omega arith in
            let upto = rw none at is.part.upto in
            lies-not-high (slot_pages level first) range (omega (arith, upto, one, all)))
      ]

  around-met : meets (slot_pages level first) range ≡ true
  around-met =
      let from = is.part.from in
      let upto = is.part.upto in
      let all = pages_of-below level (let h = is.some in omega (arith, h)) in
      let up = rows-rise index 512 (pages_of (level - 1)) is.known in
      meets-from (slot_pages level first) range (omega (arith, from, some)) (omega (arith, upto, all, up, some))

  -- so it needs a table, whatever the pieces are, and else what the part needs
  pub needed-around :
      (kind : Kind) (pieces : List Mapping) (slot : Slot) → needed kind pieces range level first slot ≡
      unless (is_table slot) (one_of kind (level - 1)) + needed kind pieces range (level - 1) (first + index * pages_of (level - 1)) (child slot index)
  needed-around kind pieces slot =
      let p : ℕ = pages_of (level - 1) in
      let f = λ (k : ℕ). needed kind pieces range (level - 1) (first + k * pages_of (level - 1)) (child slot k) in
      let from = is.part.from in
      let upto = is.part.upto in
      let may : may_divide pieces range level first ≡ true = rw (around-met, larger) refl in
      let whole = needed-parts kind pieces range level first slot (let h = is.some in omega (arith, h)) may in
      let zeros = sum_below-zeros index f (λ k below.
      let up = rows-rise k index p below in
      needed-apart kind pieces range (level - 1) (first + k * pages_of (level - 1)) (child slot k)
      (meets-before (slot_pages (level - 1) (first + k * pages_of (level - 1))) range (omega (arith, up, from)))) in
      let rest = sum_below-rest 512 f (index + 1) (let h = is.known in omega (arith, h)) (λ k up down.
      let rise = rows-rise index k p (omega (arith, up)) in
      needed-apart kind pieces range (level - 1) (first + k * pages_of (level - 1)) (child slot k)
      (meets-after (slot_pages (level - 1) (first + k * pages_of (level - 1))) range (omega (arith, rise, upto)))) in
      let more = sum_below-more index f in
      omega (arith, whole, zeros, rest, more)
