use Rattle.gv_lines.proofs.Ascii.{is_ascii-all}
use Rattle.gv_lines.proofs.parse.is_ascii.Goals as goal

pub returns : goal.returns
returns c = is_ascii-all c.args.text.now c.is_ascii.result c.is_ascii.ensures.cases
