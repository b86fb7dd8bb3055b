use Rattle.std.proofs.Common.{subst}
use Rattle.gv_table.specs.Table.{IsTree}
use Rattle.gv_space.specs.State.{SpaceState}
use Rattle.gv_space.proofs.space.Space.walk.Goals as goal

pub returns-clause-tree : goal.returns-clause-tree
returns-clause-tree c =
    let seen = c.walk.ensures.tree in
    (seen.0, subst (λ (s : SpaceState). IsTree s.mappings seen.0) c.self.view_is seen.1, seen.2)
