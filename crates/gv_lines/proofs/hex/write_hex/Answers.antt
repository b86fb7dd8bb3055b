use Rattle.std.proofs.Common.{rules}
use Rattle.gv_lines.proofs.HexDigits.{hex_is_padded}
use Rattle.gv_lines.proofs.hex.write_hex.Goals as goal

pub returns : goal.returns
returns c = let padded = hex_is_padded c.args.number (search rules) in search (rules, padded)
