use Rattle.std.proofs.Common.{rules}
use Rattle.gv_lines.proofs.NameText.{is_name-text}
use Rattle.gv_lines.proofs.name.Name.from_word.Goals as goal

pub returns-in_default : goal.returns-in_default
returns-in_default c = absurd (c.in_default.ensures.cases.0 (is_name-text c.args.word.now (search rules)).0)
