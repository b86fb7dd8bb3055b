-- The bits of regions: a page that an operation covers has the bit of its region, so operations without a bit in common touch nowhere.
use Rattle.std.proofs.Common.{◌≡◌, ℕ, ◌+◌, ◌-◌, ◌*◌, ◌/◌, ◌%◌, ◌^◌, ◌<◌, ◌≤◌, max, false, List, [], ◌∷◌, Option, Some, None, inl, inr, ap, sym, ◌∙◌, arith}
use Rattle.std.specs.Prelude.{◌⊎◌, bit_and, bit_or}
use Rattle.std.specs.Int.{w128, rotate_left, bit_at}
use Rattle.std.proofs.lemmas.Bool.{cases_lt}
use Rattle.std.proofs.lemmas.Bool.Decides.{nat_tests}
use Rattle.std.proofs.lemmas.Nat.{shr-shr, pow_pos}
use Rattle.std.proofs.lemmas.Nat.Bits.{bit_at-zero, bit_at_and, bit_at_or, bit_at_ones, bit_at_cat_low, bit_at_cat_high}
use Rattle.gv_types.specs.PageRange.{PageRangeState, end_of, meets}
use Rattle.gv_types.specs.declared.operation.PageOp.{PageOp}
use Rattle.gv_journal.specs.Restoring.{pages_named}
use Rattle.gv_journal.specs.Reach.{region_of, regions_between, regions_named, regions_from}

-- a bit of the low 128
bit_low : (n i : ℕ) → i < 128 → bit_at (n % 2 ^ 128) i ≡ bit_at n i
bit_low n i within =
    let parts : n / 2 ^ 128 * 2 ^ 128 + n % 2 ^ 128 ≡ n = omega arith in
    sym (bit_at_cat_low (n / 2 ^ 128) 128 (n % 2 ^ 128) i within) ∙ ap (λ (x : ℕ). bit_at x i) parts

bit_shifted : (n k i : ℕ) → bit_at (n * 2 ^ k) (k + i) ≡ bit_at n i
bit_shifted n k i =
    let whole : n * 2 ^ k ≡ n * 2 ^ k + 0 = omega arith in
    let place : k + i - k ≡ i = omega arith in
    ap (λ (x : ℕ). bit_at x (k + i)) whole ∙ bit_at_cat_high n k 0 (k + i) (pow_pos k) (omega arith) ∙ ap (bit_at n) place

bit_unshifted : (n k i : ℕ) → bit_at (n / 2 ^ k) i ≡ bit_at n (k + i)
bit_unshifted n k i = ap (λ (x : ℕ). x % 2) (shr-shr n k i)

bit_of_either : (a b i : ℕ) → (bit_at a i ≡ 1) ⊎ (bit_at b i ≡ 1) → bit_at (bit_or a b) i ≡ 1
bit_of_either a b i (inl one) = let most : bit_at b i ≤ 1 = omega arith in omega (arith, bit_at_or a b i, one, most)
bit_of_either a b i (inr one) = let most : bit_at a i ≤ 1 = omega arith in omega (arith, bit_at_or a b i, one, most)

-- a bit of a number that is turned to the left
module _ (n by j : ℕ) (within : j < 128) (one : bit_at n j ≡ 1) where
  abbrev rotation : ℕ
  rotation = by % 128

  turned_or_back : (rotation + j < 128) ⊎ (128 ≤ rotation + j) → (bit_at ((n * 2 ^ rotation) % 2 ^ 128) ((by + j) % 128) ≡ 1) ⊎ (bit_at (n / 2 ^ ((128 - rotation) % 128)) ((by + j) % 128) ≡ 1)
  turned_or_back (inl less) =
      let place : (by + j) % 128 ≡ rotation + j = omega arith in
      inl (ap (bit_at ((n * 2 ^ rotation) % 2 ^ 128)) place ∙ bit_low (n * 2 ^ rotation) (rotation + j) less ∙ bit_shifted n rotation j ∙ one)
  turned_or_back (inr more) =
      let back : (128 - rotation) % 128 ≡ 128 - rotation = omega arith in
      let place : (128 - rotation) + (by + j) % 128 ≡ j = omega arith in
      inr (ap (λ (k : ℕ). bit_at (n / 2 ^ k) ((by + j) % 128)) back ∙ bit_unshifted n (128 - rotation) ((by + j) % 128) ∙ ap (bit_at n) place ∙ one)

  bit_turned : bit_at (rotate_left w128 n by) ((by + j) % 128) ≡ 1
  bit_turned = bit_of_either ((n * 2 ^ rotation) % 2 ^ 128) (n / 2 ^ ((128 - rotation) % 128)) ((by + j) % 128) (turned_or_back (cases_lt (rotation + j) 128))

-- the bit of the region of a page
abbrev IsMarked : ℕ → ℕ → Type 0
IsMarked regions page = bit_at regions (region_of page % 128) ≡ 1

module _ (s : PageRangeState) (page : ℕ) (from : s.first ≤ page) (to : page ≤ max s.first (end_of s - 1)) where
  abbrev low : ℕ
  low = region_of s.first

  abbrev high : ℕ
  high = region_of (end_of s - 1)

  abbrev away : ℕ
  away = region_of page - low

  abbrev ones : ℕ
  ones = (2 ^ 128 - 1) / 2 ^ (127 - (high - low))

  near : away ≤ high - low
  near = omega (arith, from, to)

  place : region_of page % 128 ≡ (low % 128 + away % 128) % 128
  place = omega (arith, from)

  one : bit_at ones (away % 128) ≡ 1
  one = bit_unshifted (2 ^ 128 - 1) (127 - (high - low)) (away % 128) ∙ bit_at_ones 128 (127 - (high - low) + away % 128) (omega (arith, near))

  in_regions : IsMarked (regions_between low high) page
  in_regions = ap (bit_at (rotate_left w128 ones (low % 128))) place ∙ bit_turned ones (low % 128) (away % 128) (omega arith) one

-- all pages that an operation names
abbrev pub AreMarked : ℕ → Option PageRangeState → Type 0
AreMarked regions None = Unit {0}
AreMarked regions (Some s) = (page : ℕ) → s.first ≤ page → page ≤ max s.first (end_of s - 1) → IsMarked regions page

abbrev pub AllMarked : ℕ → List PageOp → Type 0
AllMarked regions [] = Unit {0}
AllMarked regions (op ∷ ops) = AreMarked regions (pages_named op) × AllMarked regions ops

still_set : (regions i : ℕ) (ops : List PageOp) → bit_at regions i ≡ 1 → bit_at (regions_from regions ops) i ≡ 1
still_set regions i [] one = one
still_set regions i (op ∷ ops) one =
    still_set (bit_or regions (regions_named (pages_named op))) i ops (bit_of_either regions (regions_named (pages_named op)) i (inl one))

first_marked : (regions : ℕ) (named : Option PageRangeState) (ops : List PageOp) → AreMarked (regions_from (bit_or regions (regions_named named)) ops) named
first_marked regions None ops = tt
first_marked regions (Some s) ops = λ page from to.
    still_set (bit_or regions (regions_named (Some s))) (region_of page % 128) ops
    (bit_of_either regions (regions_named (Some s)) (region_of page % 128) (inr (in_regions s page from to)))

pub all_marked : (regions : ℕ) (ops : List PageOp) → AllMarked (regions_from regions ops) ops
all_marked regions [] = tt
all_marked regions (op ∷ ops) = (first_marked regions (pages_named op) ops, all_marked (bit_or regions (regions_named (pages_named op))) ops)

-- ranges whose regions have no bit in common don't meet
module _ (r s : PageRangeState) (a b : ℕ) (marked : AreMarked a (Some r)) (other : AreMarked b (Some s)) (none : bit_and a b ≡ 0) where
  abbrev page : ℕ
  page = max r.first s.first

  apart : r.first < end_of s → s.first < end_of r → ⊥
  apart low high =
      let one : IsMarked a page = marked page (omega arith) (omega (arith, low, high)) in
      let same : IsMarked b page = other page (omega arith) (omega (arith, low, high)) in
      let unset : bit_at (bit_and a b) (region_of page % 128) ≡ 0 = ap (λ (x : ℕ). bit_at x (region_of page % 128)) none ∙ bit_at-zero (region_of page % 128) in
      omega (arith, bit_at_and a b (region_of page % 128), one, same, unset)

  by_cases : (r.first < end_of s) ⊎ (end_of s ≤ r.first) → (s.first < end_of r) ⊎ (end_of r ≤ s.first) → meets r s ≡ false
  by_cases (inl low) (inl high) = absurd (apart low high)
  by_cases (inl low) (inr ends) = grind (arith, nat_tests)
  by_cases (inr ends) behind = grind (arith, nat_tests)

  pub no_region_met : meets r s ≡ false
  no_region_met = by_cases (cases_lt r.first (end_of s)) (cases_lt s.first (end_of r))
