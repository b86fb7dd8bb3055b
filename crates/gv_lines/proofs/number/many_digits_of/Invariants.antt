use Rattle.std.proofs.Common.{◌≡◌, drop, ◌<◌, ◌^◌}
use Rattle.gv_lines.specs.Words.{digits_of, decimal_base}
use Rattle.gv_lines.proofs.Digits.{digits_behind}
use Rattle.gv_lines.proofs.number.many_digits_of.Given as goal

abbrev pub invariant-loop-digit : goal.invariant-loop-digit
invariant-loop-digit l = record {
  fits : l.value < 2 ^ 64;
  so_far : digits_of decimal_base l.digits ≡ digits_behind decimal_base l.value (drop l.digit-index l.digits);
}
