-- What the word of a page tells.
use Rattle.std.proofs.Common.{◌≡◌, ℕ, ◌+◌, ◌-◌, ◌*◌, ◌/◌, ◌%◌, ◌^◌, ◌<◌, ◌==◌, nat_lt, if◌then◌else◌, Bool, true, false, refl, arith}
use Rattle.std.proofs.lemmas.Bool.Decides.{nat_tests}
use Rattle.gv_types.specs.Mapping.{buffer_id}
use Rattle.gv_table.specs.declared.slot.Slot.TheVariants.{Zero, Buffer}
use Rattle.gv_table.specs.Tree.{slot_of, decoded_slot}

-- a word that was made of a head and a page
pub word-encoded : (head page word : ℕ) → word ≡ (head * 1099511627776 % 18446744073709551616 + page) % 18446744073709551616 → 0 < head → head < 2 ^ 24 → page < 2 ^ 40 →
    slot_of word ≡ decoded_slot head page
unfolding slot_of
word-encoded head page word is some few small =
    let whole : word ≡ head * 1099511627776 + page = omega (arith, is, few, small) in
    let other : (word == 0) ≡ false = grind (arith, nat_tests, whole, some) in
    let high : word / 2 ^ 40 ≡ head = omega (arith, whole, small) in
    let low : word % 2 ^ 40 ≡ page = omega (arith, whole, small) in
    rw (other, high, low) refl

pub encoded-zero : (marked : Bool) (head page : ℕ) → head ≡ 1 + (if marked then 1 else 0) → decoded_slot head page ≡ Zero (record { read_only = marked })
encoded-zero true head page is = rw is refl
encoded-zero false head page is = rw is refl

pub encoded-buffer : (marked : Bool) (index head page : ℕ) → head ≡ 3 + 2 * index + (if marked then 1 else 0) →
    decoded_slot head page ≡ Buffer (record { read_only = marked }) (buffer_id index 0) page
encoded-buffer true index head page is =
    let high : nat_lt head 3 ≡ false = grind (arith, nat_tests, is) in
    let rest : (head - 3) % 2 ≡ 1 = omega (arith, is) in
    let half : (head - 3) / 2 ≡ index = omega (arith, is) in
    rw (high, rest, half) refl
encoded-buffer false index head page is =
    let high : nat_lt head 3 ≡ false = grind (arith, nat_tests, is) in
    let rest : (head - 3) % 2 ≡ 0 = omega (arith, is) in
    let half : (head - 3) / 2 ≡ index = omega (arith, is) in
    rw (high, rest, half) refl

-- a word of which something is encoded, in its two parts
pub encoded-parts : (word head page : ℕ) → (word == 0) ≡ false → head ≡ word / 1099511627776 → page ≡ word % 1099511627776 → slot_of word ≡ decoded_slot head page
unfolding slot_of
encoded-parts word head page other high low =
    let above : word / 2 ^ 40 ≡ head = omega (arith, high) in
    let below : word % 2 ^ 40 ≡ page = omega (arith, low) in
    rw (other, above, below) refl
