use Rattle.std.proofs.Common.{◌≡◌, ℕ, ◌+◌, ◌-◌, get_or, arith, reverse, ◌∙◌, ap}
use Rattle.gv_journal.specs.Items.{JournalState, entries}
use Rattle.gv_journal.specs.Notes.{notes_of}
use Rattle.gv_journal.proofs.HeldItems.{item_store_items}
use Rattle.gv_journal.proofs.FoundItems.{own_note}
use Rattle.gv_journal.proofs.journal.Journal.noted.Goals as goal

pub returns-clause-withdrawn : goal.returns-clause-withdrawn
returns-clause-withdrawn c =
    let j = c.args.self.now in
    let first_is : c.self.inside.first ≡ j.first = ap (λ (x : JournalState). x.first) c.self.view_is in
    let all : c.items-items.result.now ≡ reverse j.items =
    c.items-items.ensures ∙ item_store_items c.self.inside.limit c.self.inside.first c.self.inside.item_store.items j c.self.view_is in
    let noted : c.notes-notes.result.now ≡ notes_of (entries j) =
    c.notes-notes.ensures.value ∙ c.self.invariant.notes ∙ ap (λ (x : JournalState). notes_of (entries x)) c.self.view_is in
    let place : c.args.index ≡ j.first + c.args.index - c.self.inside.first = omega (arith, first_is) in
    own_note j (j.first + c.args.index) c.self.inside.first c.items-items.result.now c.notes-notes.result.now first_is (omega (arith, first_is)) (omega (arith, c.requires)) all noted
    c.index-notes-index.result c.index-items-index.result (c.index-notes-index.is ∙ ap (λ (n : ℕ). get_or c.notes-notes.result.now n c.index-notes-index.result) place)
