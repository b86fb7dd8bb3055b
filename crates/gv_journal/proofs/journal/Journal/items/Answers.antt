use Rattle.std.proofs.Common.{reverse, subst}
use Rattle.gv_journal.specs.Items.{JournalState, entries}
use Rattle.gv_journal.specs.Covering.{WereLive}
use Rattle.gv_journal.proofs.Bindings.{were_live}
use Rattle.gv_journal.proofs.journal.Journal.items.Goals as goal

pub returns-clause-were_live : goal.returns-clause-were_live
returns-clause-were_live c =
    subst (λ (j : JournalState). WereLive (entries j)) c.self.view_is (were_live c.self.inside.first (reverse c.self.inside.item_store.items) c.self.invariant.name_older)
