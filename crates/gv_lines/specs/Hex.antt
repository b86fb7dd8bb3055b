-- Numbers of 64 bits in hexadecimal.
use Rattle.std.specs.Prelude.{ℕ, ◌^◌, false, List, [], ◌∷◌, ◌++◌, zero, suc, ◌/◌, ◌%◌}
use Rattle.std.specs.Fmt.{digit_glyph}

-- a number is below this one
abbrev pub number_limit : ℕ
number_limit = 2 ^ 64

-- how many hexadecimal digits the greatest number has
abbrev pub hex_digits : ℕ
hex_digits = 16

-- the last digits of a number, this many, with leading zeros
abbrev pub last_digits : ℕ → ℕ → List ℕ
last_digits zero n = []
last_digits (suc k) n = last_digits k (n / 16) ++ digit_glyph false (n % 16) ∷ []

-- all its digits, in lower case
unfoldable pub hex : ℕ → List ℕ
hex n = last_digits hex_digits n
