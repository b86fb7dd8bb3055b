-- Page numbers compared by the sign bit of a wrapped difference.
use Rattle.std.proofs.Common.{◌≡◌, ℕ, ◌+◌, ◌-◌, ◌%◌, ◌^◌, ◌<◌, ◌≤◌, List, get_or, inl, inr, ap, arith}
use Rattle.std.specs.Prelude.{◌⊎◌, bit_and, bit_or}
use Rattle.std.specs.Int.{bit_at}
use Rattle.std.proofs.lemmas.Bool.{cases_lt}
use Rattle.std.proofs.lemmas.Nat.Bits.{bit_at_and, bit_at_or}
use Rattle.gv_types.specs.Page.{PAGES}

high_bit : (n : ℕ) → n < 2 ^ 63 → bit_at n 63 ≡ 0
high_bit n low = omega arith

no_high_bit : (n : ℕ) → n < 2 ^ 64 → bit_at n 63 ≡ 0 → n < 2 ^ 63
no_high_bit n fits none = omega (arith, none)

-- no sign is set of what was gathered so far, nor of both differences
pub no_sign : (signs a b : ℕ) → signs < 2 ^ 64 → a < 2 ^ 64 → b < 2 ^ 64 → bit_or signs (bit_and a b) < 2 ^ 63 →
    (signs < 2 ^ 63) × ((a < 2 ^ 63) ⊎ (b < 2 ^ 63))
no_sign signs a b signs_fits a_fits b_fits low = (no_high_bit signs signs_fits (omega (arith, none, bit_at_or signs (bit_and a b) 63)), by_cases (cases_lt a (2 ^ 63)) (cases_lt b (2 ^ 63)))
  where
    none : bit_at (bit_or signs (bit_and a b)) 63 ≡ 0
    none = high_bit (bit_or signs (bit_and a b)) low

    by_cases : (a < 2 ^ 63) ⊎ (2 ^ 63 ≤ a) → (b < 2 ^ 63) ⊎ (2 ^ 63 ≤ b) → (a < 2 ^ 63) ⊎ (b < 2 ^ 63)
    by_cases (inl less) other = inl less
    by_cases (inr ge) (inl less) = inr less
    by_cases (inr ge) (inr high) =
        let one : bit_at a 63 ≡ 1 = omega (arith, ge) in
        let also : bit_at b 63 ≡ 1 = omega (arith, high) in
        absurd (omega (arith, none, bit_at_or signs (bit_and a b) 63, bit_at_and a b 63, one, also))

-- a difference without a sign: what is taken off is no greater
pub not_less : (n m : ℕ) → m ≤ PAGES → (n + (2 ^ 64 - m)) % 2 ^ 64 < 2 ^ 63 → m ≤ n
not_less n m in_space low = omega (arith, low)

-- one more pair of pages that lie apart: it leaves no sign in what was gathered
module _ (first past : ℕ) (fs ps : List ℕ) (i signs : ℕ) (fits : signs < 2 ^ 64) (past_in_space : past ≤ PAGES) (in_space : get_or ps i 0 ≤ PAGES)
    (earlier : signs < 2 ^ 63 → (k : ℕ) → k < i → (past ≤ get_or fs k 0) ⊎ (get_or ps k 0 ≤ first)) where
  abbrev before : ℕ
  before = (get_or fs i 0 + (2 ^ 64 - past)) % 2 ^ 64

  abbrev behind : ℕ
  behind = (first + (2 ^ 64 - get_or ps i 0)) % 2 ^ 64

  here : (before < 2 ^ 63) ⊎ (behind < 2 ^ 63) → (past ≤ get_or fs i 0) ⊎ (get_or ps i 0 ≤ first)
  here (inl none) = inl (not_less (get_or fs i 0) past past_in_space none)
  here (inr none) = inr (not_less first (get_or ps i 0) in_space none)

  pub one_apart : bit_or signs (bit_and before behind) < 2 ^ 63 → (k : ℕ) → k < i + 1 → (past ≤ get_or fs k 0) ⊎ (get_or ps k 0 ≤ first)
  one_apart low k below = by_cases (cases_lt k i)
    where
      parts : (signs < 2 ^ 63) × ((before < 2 ^ 63) ⊎ (behind < 2 ^ 63))
      parts = no_sign signs before behind fits (omega arith) (omega arith) low

      at_index : k ≡ i → (past ≤ get_or fs i 0) ⊎ (get_or ps i 0 ≤ first) → (past ≤ get_or fs k 0) ⊎ (get_or ps k 0 ≤ first)
      at_index is (inl far) = inl (omega (arith, far, ap (λ (n : ℕ). get_or fs n 0) is))
      at_index is (inr far) = inr (omega (arith, far, ap (λ (n : ℕ). get_or ps n 0) is))

      by_cases : (k < i) ⊎ (i ≤ k) → (past ≤ get_or fs k 0) ⊎ (get_or ps k 0 ≤ first)
      by_cases (inl less) = earlier parts.0 k less
      by_cases (inr ge) = at_index (omega (arith, ge, below)) (here parts.1)
