use Rattle.std.proofs.Common.{◌≤◌, ◌^◌, length, arith}
use Rattle.std.proofs.Math.Nat.{pow-le-pow_right}
use Rattle.gv_lines.specs.Words.{decimal_base}
use Rattle.gv_lines.proofs.number.decimal_of.Goals as goal

pub few_digits_of-requires : goal.few_digits_of-requires
few_digits_of-requires c =
    let most : decimal_base ^ length c.args.word.now ≤ decimal_base ^ 19 = pow-le-pow_right {n = decimal_base} (omega arith) {i = length c.args.word.now} {j = 19} (omega arith) in
    record { short = omega (arith, most) }
