use Rattle.std.proofs.Common.{ap, ◌∙◌}
use Rattle.gv_table.specs.Tree.{is_table}
use Rattle.gv_table.proofs.Slots.{is_table-Empty}
use Rattle.gv_table.proofs.divide.filled.Goals as goal

pub returns-in_default-clause-leaves : goal.returns-in_default-clause-leaves
returns-in_default-clause-leaves c = λ k below. ap is_table (c.requires.empty k below) ∙ is_table-Empty
