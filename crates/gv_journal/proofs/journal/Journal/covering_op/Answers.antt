use Rattle.std.proofs.Common.{sym, ap, ◌∙◌}
use Rattle.std.specs.Option.{option_map}
use Rattle.gv_journal.specs.Withdrawing.{item_at}
use Rattle.gv_journal.specs.declared.journal.entry.CoveringOp.{CoveringOp}
use Rattle.gv_journal.proofs.Covering.{silent_says}
use Rattle.gv_journal.proofs.journal.Journal.covering_op.Goals as goal

pub returns-in_err-index-clause-op : goal.returns-in_err-index-clause-op
returns-in_err-index-clause-op c =
    ap (option_map (λ (said : CoveringOp). said.op)) c.from_residual.ensures ∙ sym (silent_says (item_at c.args.self.now c.args.number) c.args.page c.in_err-index.ensures.none)
