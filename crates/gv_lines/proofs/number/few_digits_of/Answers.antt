use Rattle.std.proofs.Common.{length, rules, arith}
use Rattle.gv_lines.specs.Words.{decimal_base}
use Rattle.gv_lines.proofs.Digits.{digits_begin, few_fit}
use Rattle.gv_lines.proofs.number.few_digits_of.Goals as goal

pub loop-digit-init : goal.loop-digit-init
loop-digit-init c = record {
  fits = search rules;
  so_far = digits_begin decimal_base c.args.digits.now (search rules);
}

pub overflow_mul-value : goal.overflow_mul-value
overflow_mul-value c =
    let fits = few_fit decimal_base c.loop-digit.value c.digit_value-digit.result c.loop-digit.digit-index (length c.args.digits.now) (omega arith) c.loop-digit.invariant.fits c.if-digit-ge-DECIMAL_BASE.false c.loop-digit-test.true c.requires.short in
    omega (arith, fits)

pub overflow_add-value : goal.overflow_add-value
overflow_add-value c =
    let fits = few_fit decimal_base c.loop-digit.value c.digit_value-digit.result c.loop-digit.digit-index (length c.args.digits.now) (omega arith) c.loop-digit.invariant.fits c.if-digit-ge-DECIMAL_BASE.false c.loop-digit-test.true c.requires.short in
    omega (arith, fits)
