use Rattle.gv_lines.proofs.FirstSeparator.{one_clause}
use Rattle.gv_lines.proofs.words.Words.are_one_clause.Goals as goal

pub returns : goal.returns
returns c = λ none. rw c.self.view_is at (one_clause c.self.inside.limit c.self.inside.rest.now c.has_byte.result c.has_byte.ensures none)
