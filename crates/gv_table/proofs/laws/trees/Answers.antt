use Rattle.gv_table.proofs.SameTreeLemmas.{tables-gained}
use Rattle.gv_table.proofs.laws.trees.Goals as goal

pub returns : goal.returns
returns c = tables-gained
