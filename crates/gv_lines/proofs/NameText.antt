-- A name is ASCII text of at most 16 bytes.
use Rattle.std.proofs.Common.{◌≡◌, ℕ, ◌<◌, ◌≤◌, List, [], ◌∷◌, Bool, true, false, arith, length, nat_le, zero, suc, slice_index, refl, lit<}
use Rattle.std.proofs.lemmas.Str.{IsUtf8-from_ascii}
use Rattle.std.proofs.lemmas.Bool.Decides.{nat_tests}
use Rattle.std.specs.Char.{is_ascii_lowercase}
use Rattle.std.specs.List.{list_all}
use Rattle.std.specs.Prelude.{IsAscii, IsUtf8, ◌&&◌}
use Rattle.gv_lines.specs.Words.{is_name, is_name_byte}

both : (a b : Bool) → (a && b) ≡ true → (a ≡ true) × (b ≡ true)
both true b h = (refl, h)
both false b h = absurd (cc)

name_byte-ascii : (c : ℕ) → is_name_byte c ≡ true → c < 128
name_byte-ascii c h = grind (arith, nat_tests)

name_bytes-ascii : (cs : List ℕ) → list_all is_name_byte cs ≡ true → IsAscii cs
name_bytes-ascii [] h i = lit< tt
name_bytes-ascii (c ∷ cs) h zero = name_byte-ascii c (both _ _ h).0
name_bytes-ascii (c ∷ cs) h (suc i) = name_bytes-ascii cs (both _ _ h).1 i

-- a name is UTF-8 and not too long
pub is_name-text : (word : List ℕ) → is_name word ≡ true → IsUtf8 word × (length word ≤ 16)
is_name-text [] h = absurd (cc)
is_name-text (c ∷ cs) h =
    let front = both _ _ (both _ _ h).0 in
    let letter : is_ascii_lowercase c ≡ true = (both _ _ front.0).0 in
    let others : list_all is_name_byte cs ≡ true = (both _ _ front.0).1 in
    let short : nat_le (length (c ∷ cs)) 16 ≡ true = front.1 in
    let first_byte : c < 128 = grind (arith, nat_tests, letter) in
    let all_bytes : IsAscii (c ∷ cs) = λ i. elim i as (λ j. slice_index (c ∷ cs) j < 128) [ zero ↦ first_byte | suc j ↦ name_bytes-ascii cs others j ] in
    (IsUtf8-from_ascii (c ∷ cs) all_bytes, grind (arith, nat_tests, short))
