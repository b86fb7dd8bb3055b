use Rattle.std.proofs.Common.{◌≤◌, ◌^◌, length, arith}
use Rattle.std.proofs.Math.Nat.{pow-le-pow_right}
use Rattle.gv_lines.specs.Words.{hex_base}
use Rattle.gv_lines.proofs.number.number_of.Goals as goal

pub hex_digits_of-requires : goal.hex_digits_of-requires
hex_digits_of-requires c =
    let most : hex_base ^ length c.in-Some.digits.now ≤ hex_base ^ 16 = pow-le-pow_right {n = hex_base} (omega arith) {i = length c.in-Some.digits.now} {j = 16} (omega arith) in
    record { short = omega (arith, most) }
