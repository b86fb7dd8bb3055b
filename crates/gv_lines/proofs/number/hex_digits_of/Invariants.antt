use Rattle.std.proofs.Common.{◌≡◌, drop, ◌<◌, ◌^◌}
use Rattle.gv_lines.specs.Words.{digits_of, hex_base}
use Rattle.gv_lines.proofs.Digits.{digits_behind}
use Rattle.gv_lines.proofs.number.hex_digits_of.Given as goal

abbrev pub invariant-loop-digit : goal.invariant-loop-digit
invariant-loop-digit l = record {
  fits : l.value < hex_base ^ l.digit-index;
  so_far : digits_of hex_base l.digits ≡ digits_behind hex_base l.value (drop l.digit-index l.digits);
}
