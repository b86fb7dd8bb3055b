use Rattle.std.proofs.Common.{◌≡◌, drop, ◌<◌, ◌^◌}
use Rattle.gv_lines.specs.Words.{digits_of, decimal_base}
use Rattle.gv_lines.proofs.Digits.{digits_behind}
use Rattle.gv_lines.proofs.number.few_digits_of.Given as goal

abbrev pub invariant-loop-digit : goal.invariant-loop-digit
invariant-loop-digit l = record {
  fits : l.value < decimal_base ^ l.digit-index;
  so_far : digits_of decimal_base l.digits ≡ digits_behind decimal_base l.value (drop l.digit-index l.digits);
}
