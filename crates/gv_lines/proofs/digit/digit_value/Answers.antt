use Rattle.std.proofs.Common.{◌≡◌, ℕ, ◌<◌, map, get_or, refl, ap, ◌∙◌, arith}
use Rattle.std.proofs.lemmas.List.FromFn.{get_or-map-range_with_len}
use Rattle.std.specs.List.{range_with_len}
use Rattle.gv_lines.specs.Words.{digit_value}
use Rattle.gv_lines.specs.declared.digit.TheConstants.{DIGIT_VALUES}
use Rattle.gv_lines.proofs.digit.digit_value.Goals as goal

-- the table has the value of each byte
table_is : DIGIT_VALUES ≡ map digit_value (range_with_len 0 256)
table_is = refl

read : (byte : ℕ) → byte < 256 → get_or DIGIT_VALUES byte 0 ≡ digit_value byte
read byte below = ap (λ t. get_or t byte 0) table_is ∙ get_or-map-range_with_len digit_value 0 256 byte byte 0 below (omega arith)

pub returns : goal.returns
returns c = c.from-2.ensures ∙ rw c.from.ensures (read c.args.byte (omega arith))
