use Rattle.std.proofs.Common.{nat_eq, refl}
use Rattle.gv_lines.proofs.FirstSeparator.{none_left}
use Rattle.gv_lines.proofs.words.Words.is_done.Goals as goal

pub returns : goal.returns
returns c = rw c.self.view_is at (none_left c.self.inside.limit c.self.inside.rest.now (nat_eq c.self.inside.limit 0) refl)
