-- How many positions of a slot may need a table, part by part.
use Rattle.std.proofs.Common.{◌≡◌, ℕ, zero, suc, ◌+◌, ◌-◌, ◌*◌, ◌<◌, ◌≤◌, Bool, true, false, not, ◌&&◌, ◌||◌, List, refl, arith, sym, ap, ◌∙◌, inl, inr}
use Rattle.std.proofs.lemmas.Bool.{cases_lt}
use Rattle.gv_types.specs.PageRange.{PageRangeState, meets, lies_in}
use Rattle.gv_types.specs.declared.mapping.Mapping.{Mapping}
use Rattle.gv_table.specs.Kinds.{Kind, pages, slots, one_of, unless}
use Rattle.gv_table.specs.declared.slot.Slot.{Slot}
use Rattle.gv_table.specs.Levels.{pages_of, slot_pages}
use Rattle.gv_table.specs.Sums.{sum_below}
use Rattle.gv_table.specs.Wanted.{wanted, is_divided}
use Rattle.gv_table.specs.Tree.{is_table, child}
use Rattle.gv_table.specs.Counts.{needed, may_divide}
use Rattle.gv_table.proofs.CoveringMappings.{true-or-false}
use Rattle.gv_table.proofs.Sums.{sum_below-zeros}
use Rattle.std.proofs.Math.Nat.{add-mul}

pub needed-zero : (kind : Kind) (pieces : List Mapping) (range : PageRangeState) (first : ℕ) (slot : Slot) → needed kind pieces range 0 first slot ≡ 0
unfolding needed
needed-zero kind pieces range first slot = refl

pub needed-none : (kind : Kind) (pieces : List Mapping) (range : PageRangeState) (level first : ℕ) (slot : Slot) → may_divide pieces range level first ≡ false →
    needed kind pieces range level first slot ≡ 0
unfolding needed
needed-none kind pieces range zero first slot whole = refl
needed-none kind pieces range (suc level) first slot whole = rw whole refl

left-false : (a b : Bool) → a ≡ false → (a && b) ≡ false
left-false true b e = cc
left-false false b e = refl

left-true : (a b : Bool) → (a && b) ≡ true → a ≡ true
left-true true b e = refl
left-true false b e = e

-- a slot apart from the range needs nothing
pub needed-apart : (kind : Kind) (pieces : List Mapping) (range : PageRangeState) (level first : ℕ) (slot : Slot) → meets (slot_pages level first) range ≡ false →
    needed kind pieces range level first slot ≡ 0
needed-apart kind pieces range level first slot apart =
    needed-none kind pieces range level first slot
    (left-false (meets (slot_pages level first) range) (not (lies_in (slot_pages level first) range) || is_divided (wanted pieces level first)) apart)

pub may-met : (pieces : List Mapping) (range : PageRangeState) (level first : ℕ) → may_divide pieces range level first ≡ true → meets (slot_pages level first) range ≡ true
may-met pieces range level first may =
    left-true (meets (slot_pages level first) range) (not (lies_in (slot_pages level first) range) || is_divided (wanted pieces level first)) may

pub needed-parts : (kind : Kind) (pieces : List Mapping) (range : PageRangeState) (level first : ℕ) (slot : Slot) → 0 < level → may_divide pieces range level first ≡ true →
    needed kind pieces range level first slot ≡
    unless (is_table slot) (one_of kind (level - 1)) + sum_below 512 (λ k. needed kind pieces range (level - 1) (first + k * pages_of (level - 1)) (child slot k))
unfolding needed
needed-parts kind pieces range zero first slot some may = absurd (omega arith)
needed-parts kind pieces range (suc level) first slot some may = let lower : suc level - 1 ≡ level = omega arith in rw (may, lower) refl

-- a page needs no table, and a slot of pages none where its table stands
pub needed-present : (kind : Kind) (pieces : List Mapping) (range : PageRangeState) (level first : ℕ) (slot : Slot) → level ≤ 1 → is_table slot ≡ true →
    needed kind pieces range level first slot ≡ 0
needed-present kind pieces range level first slot low stands =
    elim (true-or-false (may_divide pieces range level first)) [
      | inr whole ↦ needed-none kind pieces range level first slot whole
      | inl may ↦ elim (cases_lt 0 level) [
        | inr none ↦ (let e : level ≡ 0 = omega (arith, none) in ap (λ (n : ℕ). needed kind pieces range n first slot) e ∙ needed-zero kind pieces range first slot)
        | inl some ↦ (
            let f = λ (k : ℕ). needed kind pieces range (level - 1) (first + k * pages_of (level - 1)) (child slot k) in
            let below : level - 1 ≡ 0 = omega arith in
            let whole = needed-parts kind pieces range level first slot (omega arith) may in
            let none = sum_below-zeros 512 f (λ k inside.
            ap (λ (n : ℕ). needed kind pieces range n (first + k * pages_of (level - 1)) (child slot k)) below ∙ needed-zero kind pieces range (first + k * pages_of (level - 1)) (child slot k)) in
            let here : unless (is_table slot) (one_of kind (level - 1)) ≡ 0 = rw stands refl in
            omega (arith, whole, none, here))
      ]
    ]

one_of-small : (kind : Kind) (level : ℕ) → one_of kind level ≤ 1
one_of-small pages zero = omega arith
one_of-small pages (suc level) = omega arith
one_of-small slots zero = omega arith
one_of-small slots (suc level) = omega arith

-- at most one table is missing at a position
pub missing-small : (kind : Kind) (level : ℕ) (b : Bool) → unless b (one_of kind level) ≤ 1
missing-small kind level true = omega arith
missing-small kind level false = one_of-small kind level

pub product-up : (n p : ℕ) → 0 < p → n ≤ n * p
product-up n p some = grind arith

-- a table has as many parts that need nothing themselves as it has slots
pub rest-bound : (total high p : ℕ) → total + high ≤ high * p → high ≤ 512 → 0 < p → total + 512 ≤ 512 * p
rest-bound total high p bound few some =
    let rest : ℕ = 512 - high in
    let all : high + rest ≡ 512 = omega arith in
    let up = product-up rest p some in
    let product : 512 * p ≡ high * p + rest * p = ap (λ (m : ℕ). m * p) (sym all) ∙ add-mul high rest p in
    omega (arith, up, product, bound, all)
