use Rattle.gv_journal.proofs.WithoutLemmas.{view_of_others}
use Rattle.gv_journal.proofs.laws.viewing.Goals as goal

pub returns : goal.returns
returns c = λ n xs base page none. view_of_others n xs base page none
