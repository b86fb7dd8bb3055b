use Rattle.gv_lines.proofs.FirstSeparator.{words_all}
use Rattle.gv_lines.proofs.words.Words.new.Goals as goal

pub returns : goal.returns
returns c = words_all c.args.line.now
