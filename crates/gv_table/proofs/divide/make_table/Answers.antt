use Rattle.std.proofs.Common.{◌≡◌, true, sym, inl, refl, ◌∙◌}
use Rattle.gv_table.specs.Tree.{is_table}
use Rattle.gv_table.proofs.Trees.{read-parts}
use Rattle.gv_table.proofs.divide.make_table.Goals as goal

pub returns-else-not-is_table-clause-divided : goal.returns-else-not-is_table-clause-divided
returns-else-not-is_table-clause-divided c =
    let table : is_table c.args.slot.now ≡ true = sym c.is_table.ensures ∙ c.if-not-is_table.false in
    record {
      table = table;
      parts = λ ms first laid encoded tree k below. read-parts ms c.args.level first c.args.slot.now c.requires.some tree table k below;
      tables = λ k below. inl refl;
    }
