-- Digits read one by one.
use Rattle.std.proofs.Common.{suc, add-one, drop, get_or, ◌∙◌, ◌≡◌, ℕ, ◌+◌, ◌*◌, ◌^◌, ◌<◌, ◌≤◌, List, [], ◌∷◌, Some, None, Bool, true, false, nat_lt, refl, arith, rules, length}
use Rattle.std.proofs.lemmas.Bool.{le-ltb, lt-ltb}
use Rattle.std.proofs.lemmas.List.{drop_all}
use Rattle.std.proofs.Math.Seq.{drop-cons}
use Rattle.std.proofs.Math.Nat.{mul-le-mul_left, mul_assoc, mul_comm, add-mul, pow-suc, pow-zero, pow-le-pow_right}
use Rattle.std.proofs.lemmas.Nat.{mul-add-lt}
use Rattle.std.specs.Prelude.{Option, ◌&&◌, if◌then◌else◌}
use Rattle.std.specs.List.{list_all}
use Rattle.gv_lines.specs.Words.{digit_value, is_digit, value_of, digits_of}

-- the value of these digits behind a number that was read so far
abbrev pub value_behind : ℕ → ℕ → List ℕ → ℕ
value_behind base n [] = n
value_behind base n (c ∷ cs) = value_behind base (n * base + digit_value c) cs

-- the number of these digits behind a number that was read so far, if all are digits and it is not too large
abbrev pub digits_behind : ℕ → ℕ → List ℕ → Option ℕ
digits_behind base n cs =
    if list_all (is_digit base) cs && nat_lt (value_behind base n cs) (2 ^ 64) then Some (value_behind base n cs) else None

horner : (n base digit place : ℕ) → (n * base + digit) * place ≡ n * (place * base) + digit * place
horner n base digit place =
    let moved : n * base * place ≡ n * (place * base) = rw (mul_assoc, mul_comm base place) refl in
    rw (add-mul, moved) refl

-- digits read one by one are worth what their places say
value_behind-value_of : (base n : ℕ) (cs : List ℕ) → value_behind base n cs ≡ n * base ^ length cs + value_of base cs
value_behind-value_of base n [] = let unit : base ^ 0 ≡ 1 = pow-zero base in rw unit (omega arith)
value_behind-value_of base n (c ∷ cs) =
    let more = value_behind-value_of base (n * base + digit_value c) cs in
    let worth = horner n base (digit_value c) (base ^ length cs) in
    rw (pow-suc base (length cs)) (omega (arith, more, worth))

-- more digits never make the number less
pub value_behind-le : (base n : ℕ) (cs : List ℕ) → 1 ≤ base → n ≤ value_behind base n cs
value_behind-le base n [] h = omega arith
value_behind-le base n (c ∷ cs) h =
    let grown : n * 1 ≤ n * base = mul-le-mul_left n h in
    let more = value_behind-le base (n * base + digit_value c) cs h in omega (arith, grown, more)

and_false : (b : Bool) → (b && false) ≡ false
and_false true = refl
and_false false = refl

-- a number that is too large stays so
pub digits_too_large : (base n : ℕ) (cs : List ℕ) → 1 ≤ base → 2 ^ 64 ≤ n → digits_behind base n cs ≡ None
digits_too_large base n cs h large =
    let over : nat_lt (value_behind base n cs) (2 ^ 64) ≡ false = le-ltb _ _ (omega (arith, value_behind-le base n cs h)) in
    rw (over, and_false) refl

-- one more digit
pub digit_read : (base n c : ℕ) (cs : List ℕ) → digit_value c < base → digits_behind base n (c ∷ cs) ≡ digits_behind base (n * base + digit_value c) cs
digit_read base n c cs h = let e : nat_lt (digit_value c) base ≡ true = search rules in rw e refl

-- no digit
pub digit_refused : (base n c : ℕ) (cs : List ℕ) → base ≤ digit_value c → digits_behind base n (c ∷ cs) ≡ None
digit_refused base n c cs h = let e : nat_lt (digit_value c) base ≡ false = le-ltb _ _ h in rw e refl

pub digits_begin : (base : ℕ) (cs : List ℕ) → (length cs ≡ 0 → ⊥) → digits_of base cs ≡ digits_behind base 0 cs
unfolding digits_of
digits_begin base [] some = absurd (some refl)
digits_begin base (c ∷ cs) some = rw (value_behind-value_of base 0 (c ∷ cs)) (search rules)

-- the digit at place i
pub digit_at : (base n i : ℕ) (cs : List ℕ) → i < length cs → digit_value (get_or cs i 0) < base → digits_behind base n (drop i cs) ≡ digits_behind base (n * base + digit_value (get_or cs i 0)) (drop (i + 1) cs)
digit_at base n i cs h digit = rw (add-one, drop-cons cs i 0 h) (digit_read base n (get_or cs i 0) (drop (suc i) cs) digit)

pub digit_overflows : (base n i : ℕ) (cs : List ℕ) → 1 ≤ base → i < length cs → digit_value (get_or cs i 0) < base → 2 ^ 64 ≤ n * base + digit_value (get_or cs i 0) → digits_behind base n (drop i cs) ≡ None
digit_overflows base n i cs positive h digit large = digit_at base n i cs h digit ∙ digits_too_large base _ (drop (i + 1) cs) positive large

pub digit_wrong : (base n i : ℕ) (cs : List ℕ) → i < length cs → base ≤ digit_value (get_or cs i 0) → digits_behind base n (drop i cs) ≡ None
digit_wrong base n i cs h wrong = rw (drop-cons cs i 0 h) (digit_refused base n (get_or cs i 0) (drop (suc i) cs) wrong)

pub digits_end : (base n i : ℕ) (cs : List ℕ) → n < 2 ^ 64 → length cs ≤ i → digits_behind base n (drop i cs) ≡ Some n
digits_end base n i cs small end =
    let none = drop_all i cs end in let e : nat_lt n (2 ^ 64) ≡ true = lt-ltb n (2 ^ 64) small in rw (none, e) refl

-- one digit more stays below what so many digits can be worth
digit_fits : (base n digit i : ℕ) → n < base ^ i → digit < base → n * base + digit < base ^ (i + 1)
digit_fits base n digit i below small =
    let more : base ^ (i + 1) ≡ base ^ i * base = rw (add-one) (pow-suc base i) in
    let next = mul-add-lt n base digit (base ^ i) below small in
    rw (more, mul_comm (base ^ i) base) next

-- one digit more, where so many digits never make a number too large
pub few_fit : (base n digit i len : ℕ) → 1 ≤ base → n < base ^ i → digit < base → i < len → base ^ len ≤ 2 ^ 64 → n * base + digit < 2 ^ 64
few_fit base n digit i len some below small few limit =
    let next = digit_fits base n digit i below small in
    let most : base ^ (i + 1) ≤ base ^ len = pow-le-pow_right {n = base} some (omega arith) in omega (arith, next, most)
