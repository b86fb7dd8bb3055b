-- Text of ASCII bytes alone.
use Rattle.std.proofs.Common.{◌≡◌, ℕ, zero, suc, ◌<◌, ◌≤◌, List, [], ◌∷◌, Bool, true, false, refl, sym, arith, nat_lt}
use Rattle.std.proofs.lemmas.Bool.Decides.{nat_tests}
use Rattle.std.specs.Bool.{MatchBool}
use Rattle.std.specs.Char.{is_ascii}
use Rattle.std.specs.List.{list_all}
use Rattle.std.specs.Prelude.{IsAscii, slice_index, ◌&&◌}
use Rattle.std.specs.Str.{IsNotAscii}

all_are : (text : List ℕ) → IsAscii text → list_all is_ascii text ≡ true
all_are [] h = refl
all_are (c ∷ cs) h =
    let first : c < 128 = h zero in
    let low : nat_lt c 128 ≡ true = grind (arith, nat_tests, first) in
    rw low (all_are cs (λ i. h (suc i)))

one_is_not : (text : List ℕ) (i : ℕ) → 128 ≤ slice_index text i → list_all is_ascii text ≡ false
one_is_not [] i h = absurd (omega arith)
one_is_not (c ∷ cs) zero h =
    let high : nat_lt c 128 ≡ false = grind (arith, nat_tests, h) in
    rw high refl
one_is_not (c ∷ cs) (suc i) h =
    let more = one_is_not cs i h in
    elim (nat_lt c 128) as (λ b. (b && list_all is_ascii cs) ≡ false) [ true ↦ more | false ↦ refl ]

-- what a look at the whole text tells
pub is_ascii-all : (text : List ℕ) (found : Bool) → MatchBool found (IsAscii text) (IsNotAscii text) → found ≡ list_all is_ascii text
is_ascii-all text true all = sym (all_are text all)
is_ascii-all text false (i, high) = sym (one_is_not text i high)
