-- When a range of pages meets another, and when it lies in one.
use Rattle.std.proofs.Common.{◌≡◌, ℕ, ◌+◌, ◌<◌, ◌≤◌, ◌⊎◌, inl, inr, Bool, true, false, ◌&&◌, nat_lt, nat_le, arith, refl}
use Rattle.std.proofs.lemmas.Bool.Decides.{nat_tests}
use Rattle.std.proofs.lemmas.Bool.{lt-leb, le-leb, lt-ltb, le-ltb, and_from, cases_lt}
use Rattle.gv_types.specs.PageRange.{PageRangeState, span, end_of, covers, meets, lies_in}

pub lt-true : (a b : ℕ) → nat_lt a b ≡ true → a < b
lt-true a b e = grind (arith, nat_tests)

pub lt-false : (a b : ℕ) → nat_lt a b ≡ false → b ≤ a
lt-false a b e = grind (arith, nat_tests)

pub le-true : (a b : ℕ) → nat_le a b ≡ true → a ≤ b
le-true a b e = grind (arith, nat_tests)

both : (a b : Bool) → (a && b) ≡ true → (a ≡ true) × (b ≡ true)
both true b e = (refl, e)
both false b e = cc

either : (a b : Bool) → (a && b) ≡ false → (a ≡ false) ⊎ (b ≡ false)
either true b e = inr e
either false b e = inl refl

right-false : (a b : Bool) → b ≡ false → (a && b) ≡ false
right-false true b e = e
right-false false b e = refl

pub meets-bounds : (s t : PageRangeState) → meets s t ≡ true → (s.first < end_of t) × (t.first < end_of s)
meets-bounds s t e =
    let h = both (nat_lt s.first (end_of t)) (nat_lt t.first (end_of s)) e in (lt-true _ _ h.0, lt-true _ _ h.1)

pub meets-from : (s t : PageRangeState) → s.first < end_of t → t.first < end_of s → meets s t ≡ true
meets-from s t a b = and_from _ _ (lt-ltb _ _ a) (lt-ltb _ _ b)

pub meets-after : (s t : PageRangeState) → end_of t ≤ s.first → meets s t ≡ false
meets-after s t h = rw (le-ltb _ _ h) refl

pub meets-before : (s t : PageRangeState) → end_of s ≤ t.first → meets s t ≡ false
meets-before s t h = right-false (nat_lt s.first (end_of t)) (nat_lt t.first (end_of s)) (le-ltb _ _ h)

pub apart-cases : (s t : PageRangeState) → meets s t ≡ false → (end_of t ≤ s.first) ⊎ (end_of s ≤ t.first)
apart-cases s t e =
    elim (either (nat_lt s.first (end_of t)) (nat_lt t.first (end_of s)) e) [
      | inl a ↦ inl (lt-false _ _ a)
      | inr b ↦ inr (lt-false _ _ b)
    ]

pub lies-bounds : (s t : PageRangeState) → lies_in s t ≡ true → (t.first ≤ s.first) × (end_of s ≤ end_of t)
lies-bounds s t e =
    let h = both (nat_le t.first s.first) (nat_le (end_of s) (end_of t)) e in (le-true _ _ h.0, le-true _ _ h.1)

pub lies-from : (s t : PageRangeState) → t.first ≤ s.first → end_of s ≤ end_of t → lies_in s t ≡ true
lies-from s t a b = and_from _ _ (le-leb _ _ a) (le-leb _ _ b)

pub lies-not-low : (s t : PageRangeState) → s.first < t.first → lies_in s t ≡ false
lies-not-low s t h = rw (lt-leb _ _ h) refl

pub lies-not-high : (s t : PageRangeState) → end_of t < end_of s → lies_in s t ≡ false
lies-not-high s t h = right-false (nat_le t.first s.first) (nat_le (end_of s) (end_of t)) (lt-leb _ _ h)

pub covers-bounds : (s : PageRangeState) (page : ℕ) → covers s page ≡ true → (s.first ≤ page) × (page < end_of s)
covers-bounds s page e =
    let h = both (nat_le s.first page) (nat_lt page (end_of s)) e in (le-true _ _ h.0, lt-true _ _ h.1)

pub covers-from : (s : PageRangeState) (page : ℕ) → s.first ≤ page → page < end_of s → covers s page ≡ true
covers-from s page a b = and_from _ _ (le-leb _ _ a) (lt-ltb _ _ b)

-- a range covers a page where the page alone lies in it
pub covers-lies : (s : PageRangeState) (page : ℕ) → covers s page ≡ lies_in (span page 1) s
covers-lies s page =
    elim (cases_lt page s.first) [
      | inl less ↦ rw (lt-leb _ _ less) refl
      | inr low ↦ (elim (cases_lt page (end_of s)) [
        | inl high ↦ rw (le-leb _ _ low, lt-ltb _ _ high, le-leb _ _ (let h : page + 1 ≤ end_of s = omega arith in h)) refl
        | inr past ↦ rw (le-leb _ _ low, le-ltb _ _ past, lt-leb _ _ (let h : end_of s < page + 1 = omega arith in h)) refl
      ])
    ]
