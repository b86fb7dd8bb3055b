-- What `{:016x}` writes is the last sixteen digits.
use Rattle.std.proofs.Common.{◌≡◌, ℕ, zero, suc, ◌+◌, ◌-◌, ◌/◌, ◌%◌, ◌^◌, ◌<◌, List, [], ◌∷◌, ◌++◌, true, false, cond, nat_eq, length, replicate, refl, sym, ap, append_assoc, add-zero, pow-suc, inl, inr, ◌⊎◌, lit<, arith, rules}
use Rattle.std.proofs.lemmas.List.{append-nil}
use Rattle.std.specs.Fmt.{digit_glyph, digits, digits_onto, padded_integral, format_spec, char_count}
use Rattle.gv_lines.specs.Hex.{hex, last_digits}

-- how many digits a number has, at most k
digit_count : ℕ → ℕ → ℕ
digit_count zero n = 0
digit_count (suc k) n = cond (nat_eq (n / 16) 0) 1 (1 + digit_count k (n / 16))

length-digits_onto : (k n : ℕ) (behind : List ℕ) → length (digits_onto k 16 false n behind) ≡ digit_count k n + length behind
unfolding digit_count
length-digits_onto zero n behind = omega arith
length-digits_onto (suc k) n behind = elim (nat_eq (n / 16) 0) as (λ v. length (cond v (digit_glyph false (n % 16) ∷ behind) (digits_onto k 16 false (n / 16) (digit_glyph false (n % 16) ∷ behind))) ≡ cond v 1 (1 + digit_count k (n / 16)) + length behind) [
  | true ↦ omega arith
  | false ↦ rw (length-digits_onto k (n / 16) (digit_glyph false (n % 16) ∷ behind)) (omega arith)
]

replicate-last : (j : ℕ) (a : ℕ) → replicate j a ++ a ∷ [] ≡ a ∷ replicate j a
replicate-last zero a = refl
replicate-last (suc j) a = ap (λ xs. a ∷ xs) (replicate-last j a)

-- zero is all zeros
last_digits_zero : (j : ℕ) → last_digits j 0 ≡ replicate j 48
last_digits_zero zero = refl
last_digits_zero (suc j) = rw (last_digits_zero j) (replicate-last j 48)

zero_or_more : (n : ℕ) → (n ≡ 0) ⊎ (0 < n)
zero_or_more zero = inl refl
zero_or_more (suc n) = inr (omega arith)

-- one digit
last_one : (m k n : ℕ) (behind : List ℕ) → n / 16 ≡ 0 → last_digits (suc m) n ++ behind ≡ replicate (suc m - digit_count (suc k) n) 48 ++ digits_onto (suc k) 16 false n behind
unfolding digit_count
last_one m k n behind none =
    let e : suc m - 1 ≡ m = omega arith in
    rw (none, last_digits_zero m, append_assoc, e) refl

last_digits_onto : (m k n : ℕ) (behind : List ℕ) → n < 16 ^ suc m → m < k → last_digits (suc m) n ++ behind ≡ replicate (suc m - digit_count k n) 48 ++ digits_onto k 16 false n behind
unfolding digit_count
last_digits_onto m zero n behind small room = absurd (omega arith)
last_digits_onto zero (suc k) n behind small room = let none : n / 16 ≡ 0 = omega arith in last_one zero k n behind none
last_digits_onto (suc j) (suc k) n behind small room =
    elim (zero_or_more (n / 16)) [
      | inl none ↦ last_one (suc j) k n behind none
      | inr some ↦
          let e : nat_eq (n / 16) 0 ≡ false = search rules in
          let below : n / 16 < 16 ^ suc j = omega (arith, pow-suc 16 (suc j)) in
          let count : suc (suc j) - (1 + digit_count k (n / 16)) ≡ suc j - digit_count k (n / 16) = omega arith in
          let rest = last_digits_onto j k (n / 16) (digit_glyph false (n % 16) ∷ behind) below (omega arith) in
          rw (append_assoc, e, count) rest
    ]

padded : (m k n : ℕ) → n < 16 ^ suc m → m < k → padded_integral (format_spec 32 0 4 (suc m) (2 ^ 64 - 1)) false [] (digits_onto k 16 false n []) ≡ last_digits (suc m) n
unfolding padded_integral char_count
padded m k n small room =
    let whole = rw append-nil at (last_digits_onto m k n [] small room) in
    let less : suc m - digit_count k n - 0 - 0 ≡ suc m - digit_count k n = omega arith in
    simp (append-nil, length-digits_onto k n [], add-zero) (rw less (sym whole))

pub hex_is_padded : (n : ℕ) → n < 2 ^ 64 → padded_integral (format_spec 32 0 4 16 (2 ^ 64 - 1)) false [] (digits 16 false n) ≡ hex n
unfolding hex digits
hex_is_padded n small = padded 15 64 n small (lit< tt)
