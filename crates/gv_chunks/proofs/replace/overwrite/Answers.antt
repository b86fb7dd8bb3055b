use Rattle.std.proofs.Common.{arith}
use Rattle.gv_chunks.proofs.ShiftLemmas.{one_written, two_written}
use Rattle.gv_chunks.proofs.replace.overwrite.Goals as goal

pub returns-in-len1-clause-items : goal.returns-in-len1-clause-items
returns-in-len1-clause-items c =
    one_written c.args.items.now.items c.args.pieces.now c.args.index c.piece-item.result (omega (arith, c.args.items.now.ok, c.requires)) c.in-len1.len_at_least c.in-len1.len_below c.piece-item.is

pub returns-in-len2-clause-items : goal.returns-in-len2-clause-items
returns-in-len2-clause-items c =
    two_written c.args.items.now.items c.args.pieces.now c.args.index c.first-item.result c.second-item.result (omega (arith, c.args.items.now.ok, c.requires, c.in-len2.len_at_least)) c.in-len2.len_at_least c.in-len2.len_below c.first-item.is c.second-item.is
