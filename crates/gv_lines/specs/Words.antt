-- The words of a line, and which of them are names and numbers.
use Rattle.std.specs.Prelude.{ℕ, ◌+◌, ◌-◌, ◌*◌, ◌^◌, Bool, false, not, ◌&&◌, ◌||◌, ◌==◌, nat_lt, nat_le, if◌then◌else◌, List, [], ◌∷◌, length, drop, Option, Some, None, codes, bytes_eq}
use Rattle.std.specs.List.{slice_split, list_all, starts_with}
use Rattle.std.specs.Char.{is_ascii_lowercase, is_ascii_digit}
use Rattle.gv_lines.specs.OptionSteps.{◌>>=◌}
use Rattle.gv_lines.specs.Hex.{number_limit, hex_digits}

-- the parts of a text between the places of a byte
abbrev pub parts : ℕ → List ℕ → List (List ℕ)
parts byte text = slice_split (λ b. b == byte) text

-- the byte of a space
abbrev pub space_byte : ℕ
space_byte = 32

-- The parts of a line between its spaces. Between two spaces in a row, and at an end with a space, is the empty word.
abbrev pub words : List ℕ → List (List ℕ)
words line = parts space_byte line

-- the word that stands between two clauses
abbrev pub separator : List ℕ
separator = codes ";"

abbrev pub is_separator : List ℕ → Bool
is_separator word = bytes_eq word separator

-- The words of each clause: those between the separators. Between two separators in a row, and at an end with a separator, is the empty clause.
abbrev pub clauses : List (List ℕ) → List (List (List ℕ))
clauses words = slice_split is_separator words

-- how many bytes a name has at most
abbrev pub name_bytes : ℕ
name_bytes = 16

-- the byte of an underscore
abbrev pub underscore : ℕ
underscore = 95

abbrev pub is_name_byte : ℕ → Bool
is_name_byte c = is_ascii_lowercase c || is_ascii_digit c || c == underscore

-- a lower-case letter, then lower-case letters, digits and underscores; zero is no name
abbrev pub is_name : List ℕ → Bool
is_name [] = false
is_name (c ∷ cs) =
    is_ascii_lowercase c && list_all is_name_byte cs && nat_le (length (c ∷ cs)) name_bytes
    && not (bytes_eq (c ∷ cs) (codes "zero"))

-- the name that a word is, if it is one
abbrev pub name_read : List ℕ → Option (List ℕ)
name_read word = if is_name word then Some word else None

-- the base of decimal numbers, and of hexadecimal ones
abbrev pub decimal_base : ℕ
decimal_base = 10

abbrev pub hex_base : ℕ
hex_base = 16

-- the value of a digit 0-9 or a-f; for any other byte a value that is no digit's in any base up to this one
abbrev pub digit_value : ℕ → ℕ
digit_value c =
    if is_ascii_digit c then c - 48 else if nat_le 97 c && nat_le c 102 then c - 97 + 10 else hex_base

-- the value of these digits, of which the first is worth most
abbrev pub value_of : ℕ → List ℕ → ℕ
value_of base [] = 0
value_of base (c ∷ cs) = digit_value c * base ^ length cs + value_of base cs

abbrev pub is_digit : ℕ → ℕ → Bool
is_digit base c = nat_lt (digit_value c) base

-- the number of these digits, at least one, if it is not too large
unfoldable pub digits_of : ℕ → List ℕ → Option ℕ
digits_of base digits =
    if nat_lt 0 (length digits) && list_all (is_digit base) digits && nat_lt (value_of base digits) number_limit
    then Some (value_of base digits) else None

-- decimal digits without a leading zero
unfoldable pub decimal_of : List ℕ → Option ℕ
decimal_of word =
    if starts_with (λ a b. a == b) word (codes "0") && nat_lt 1 (length word) then None
    else digits_of decimal_base word

-- 0x and some hexadecimal digits, or a decimal number
unfoldable pub number_of : List ℕ → Option ℕ
number_of word =
    if starts_with (λ a b. a == b) word (codes "0x")
    then (if nat_le (length (drop 2 word)) hex_digits then digits_of hex_base (drop 2 word) else None)
    else decimal_of word

-- how many queues there are, numbered from 0
abbrev pub queue_count : ℕ
queue_count = 16

-- the queue of a number, if there is one
abbrev pub queue_of : ℕ → Option ℕ
queue_of number = if nat_lt number queue_count then Some number else None

-- the queue that a word names, by a decimal number
abbrev pub queue_named : List ℕ → Option ℕ
queue_named word = do
  number ← decimal_of word
  queue_of number

-- what the first word was read as, and the other words
abbrev pub with_rest : {X : Type 0} → Option X → List (List ℕ) → Option (X × List (List ℕ))
with_rest None more = None
with_rest (Some x) more = Some (x, more)

-- the first word, if it is a name, and the other words
abbrev pub first_name : List (List ℕ) → Option (List ℕ × List (List ℕ))
first_name [] = None
first_name (word ∷ more) = with_rest (name_read word) more

-- the first word, if it is a number, and the other words
abbrev pub first_number : List (List ℕ) → Option (ℕ × List (List ℕ))
first_number [] = None
first_number (word ∷ more) = with_rest (number_of word) more

-- the first word, if it names a queue, and the other words
abbrev pub first_queue : List (List ℕ) → Option (ℕ × List (List ℕ))
first_queue [] = None
first_queue (word ∷ more) = with_rest (queue_named word) more

-- the value, where no word is left
abbrev pub ended : {A : Type 0} → List (List ℕ) → A → Option A
ended [] value = Some value
ended (word ∷ more) value = None
