use Rattle.std.proofs.Common.{◌∙◌, sym, rules, arith}
use Rattle.gv_lines.proofs.Digits.{digits_begin, digit_overflows, digits_end}
use Rattle.gv_lines.specs.Words.{decimal_base}
use Rattle.gv_lines.proofs.number.many_digits_of.Goals as goal

pub loop-digit-init : goal.loop-digit-init
loop-digit-init c = record {
  fits = search rules;
  so_far = digits_begin decimal_base c.args.digits.now (search rules);
}

pub returns : goal.returns
returns c =
    sym (c.loop-digit.invariant.so_far ∙ digits_end decimal_base c.loop-digit.value c.loop-digit.digit-index c.args.digits.now c.loop-digit.invariant.fits c.loop-digit-test.false)

pub returns-in_err-value : goal.returns-in_err-value
returns-in_err-value c =
    let is_digit = rw c.digit_value-digit.ensures at c.if-digit-ge-DECIMAL_BASE.false in
    let too_large = rw c.digit_value-digit.ensures at c.in_err-value.ensures in
    c.from_residual.ensures ∙ sym (c.loop-digit.invariant.so_far ∙ digit_overflows decimal_base c.loop-digit.value c.loop-digit.digit-index c.args.digits.now (omega arith) c.loop-digit-test.true is_digit too_large)
