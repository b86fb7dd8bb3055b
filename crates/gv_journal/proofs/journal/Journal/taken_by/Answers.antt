use Rattle.std.proofs.Common.{sym, ◌∙◌}
use Rattle.gv_journal.specs.Items.{entries, is_withdrawn}
use Rattle.gv_journal.specs.Withdrawing.{item_at}
use Rattle.gv_journal.proofs.Covering.{silent_took}
use Rattle.gv_journal.proofs.journal.Journal.taken_by.Goals as goal

pub returns-in_err-index : goal.returns-in_err-index
returns-in_err-index c = c.from_residual.ensures ∙ sym (silent_took (is_withdrawn (entries c.args.self.now) c.args.number) (item_at c.args.self.now c.args.number) c.args.page c.in_err-index.ensures.none)
