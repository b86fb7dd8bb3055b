use Rattle.std.proofs.Common.{◌∙◌}
use Rattle.gv_table.proofs.leaves.make_leaf.Goals as goal

pub returns-clause-leaf : goal.returns-clause-leaf
returns-clause-leaf c = c.overwrite.ensures ∙ c.leaf.ensures.leaf c.requires.encoded
