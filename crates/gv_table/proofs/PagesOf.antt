-- How many pages a slot covers, and which slot of a table a page is in.
use Rattle.std.proofs.Common.{◌≡◌, ℕ, zero, suc, ◌+◌, ◌-◌, ◌*◌, ◌/◌, ◌%◌, ◌<◌, ◌≤◌, inl, inr, refl, ap, ◌∙◌, arith, lit≤}
use Rattle.std.proofs.lemmas.Bool.{cases_lt}
use Rattle.gv_types.specs.Page.{PAGES}
use Rattle.gv_table.specs.Levels.{pages_of}

pub pages_of-zero : pages_of 0 ≡ 1
unfolding pages_of
pages_of-zero = refl

-- so many slots of one page are so many pages
pub slots-of-one-page : (n : ℕ) → n * pages_of 0 ≡ n
slots-of-one-page n = ap (λ (k : ℕ). n * k) pages_of-zero ∙ omega arith

pub pages_of-top : pages_of 5 ≡ PAGES
unfolding pages_of
pages_of-top = refl

pub pages_of-bound : (level : ℕ) → level ≤ 5 → pages_of level ≤ PAGES
unfolding pages_of
pages_of-bound zero few = lit≤ tt
pages_of-bound (suc zero) few = lit≤ tt
pages_of-bound (suc (suc zero)) few = lit≤ tt
pages_of-bound (suc (suc (suc zero))) few = lit≤ tt
pages_of-bound (suc (suc (suc (suc zero)))) few = lit≤ tt
pages_of-bound (suc (suc (suc (suc (suc zero))))) few = lit≤ tt
pages_of-bound (suc (suc (suc (suc (suc (suc level)))))) few = absurd (omega arith)

pub pages_of-more : (level : ℕ) → pages_of (suc level) ≡ 512 * pages_of level
unfolding pages_of
pages_of-more level = grind arith

pub pages_of-some : (level : ℕ) → 0 < pages_of level
pages_of-some zero = rw pages_of-zero (omega arith)
pages_of-some (suc level) = let h = pages_of-some level in let e = pages_of-more level in omega (arith, h, e)

pub pages_of-below : (level : ℕ) → 0 < level → pages_of level ≡ 512 * pages_of (level - 1)
pages_of-below zero some = absurd (omega arith)
pages_of-below (suc level) some = let lower : suc level - 1 ≡ level = omega arith in rw lower (pages_of-more level)

-- a part of a table of n pages ends within it
pub part-within : (k n p : ℕ) → k < 512 → n ≡ 512 * p → k * p + p ≤ n
part-within k n p below e = rw e (grind arith)

pub index-within : (distance pages : ℕ) → 0 < pages → (distance / pages * pages ≤ distance) × (distance < distance / pages * pages + pages)
index-within distance pages some =
    let whole : distance / pages * pages + distance % pages ≡ distance = grind arith in
    let rest : distance % pages < pages = grind arith in
    (omega (arith, whole), omega (arith, whole, rest))

pub index-below : (distance pages : ℕ) → 0 < pages → distance < 512 * pages → distance / pages < 512
index-below distance pages some below = grind arith

-- the positions of a row rise by the pages of a slot
pub rows-rise : (k i p : ℕ) → k < i → k * p + p ≤ i * p
rows-rise k i p below = grind arith

pub one-more-part : (i p : ℕ) → (i + 1) * p ≡ i * p + p
one-more-part i p = grind arith

-- a slot past the one that a page is in begins past the page
pub row-past : (d k p : ℕ) → 0 < p → d / p + 1 ≤ k → d + 1 ≤ k * p
row-past d k p some past =
    let h = index-within d p some in
    let up = rows-rise (d / p) k p (omega arith) in
    omega (arith, h, up)

pub over-one : (n : ℕ) → n ≡ n / 1
over-one n = let h = index-within n 1 (omega arith) in omega (arith, h)

-- a quotient rises with its number
pub over-rises : (a b p : ℕ) → 0 < p → a ≤ b → a / p ≤ b / p
over-rises a b p some up =
    elim (cases_lt (b / p) (a / p)) [
      | inl less ↦ (
          let i = index-within a p some in
          let j = index-within b p some in
          let r = rows-rise (b / p) (a / p) p less in
          absurd (omega (arith, i, j, r)))
      | inr from ↦ from
    ]

-- so many whole slots lie in so many pages
pub whole-part : (distance k p : ℕ) → 0 < p → k < distance / p → k * p + p ≤ distance
whole-part distance k p some below =
    let h = index-within distance p some in
    let up = rows-rise k (distance / p) p below in
    omega (arith, h, up)

-- and one does in no fewer than its own
pub whole-some : (distance p : ℕ) → 0 < p → p ≤ distance → 0 < distance / p
whole-some distance p some enough =
    elim (cases_lt 0 (distance / p)) [
      | inl more ↦ more
      | inr none ↦ (
          let h = index-within distance p some in
          let zero : distance / p ≡ 0 = omega arith in
          let gone : distance / p * p ≡ 0 = ap (λ (n : ℕ). n * p) zero ∙ omega arith in
          absurd (omega (arith, h, gone)))
    ]
