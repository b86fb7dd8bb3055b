use Rattle.std.proofs.Common.{arith, ap, ◌∙◌}
use Rattle.gv_table.specs.Kinds.{of}
use Rattle.gv_table.proofs.KindLemmas.{none-is, sums-same}
use Rattle.gv_space.proofs.list_with_table.edits.paint.Goals as goal

pub returns-clause-back : goal.returns-clause-back
returns-clause-back c =
    λ ms laid tree.
    c.paint.ensures.back ms laid tree ∙
    sums-same (λ kind. let none = ap (of kind) c.new-left.ensures ∙ none-is kind in omega (arith, none, c.paint.ensures.put kind))
