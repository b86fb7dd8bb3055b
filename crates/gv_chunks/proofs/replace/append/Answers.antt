use Rattle.std.proofs.Common.{◌++◌, ◌∙◌, ap}
use Rattle.gv_chunks.proofs.ShiftLemmas.{one_piece}
use Rattle.gv_chunks.proofs.replace.append.Goals as goal

pub returns-in-len1-clause-items : goal.returns-in-len1-clause-items
returns-in-len1-clause-items c =
    c.push_reserved.ensures.items ∙ ap (λ ys. c.args.items.now.items ++ ys) (one_piece c.args.pieces.now c.piece-item.result c.in-len1.len_at_least c.in-len1.len_below c.piece-item.is)
