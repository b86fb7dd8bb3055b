-- The invariant of a journal's fields: which items withdrawals name, and the notes. No public clause cites this module.
use Rattle.std.specs.Prelude.{◌≡◌, ℕ, ◌<◌, ◌≤◌, false, List, [], ◌∷◌, reverse}
use Rattle.gv_journal.specs.Items.{JournalState, NumberedItem, entries, next, is_withdrawn}
use Rattle.gv_journal.specs.Notes.{notes_of}
use Rattle.gv_journal.specs.Verdict.{numbers}
use Rattle.gv_journal.specs.declared.item.ItemKind.{ItemKind}
use Rattle.gv_journal.specs.declared.item.ItemKind.TheVariants.{Bind, Withdrawal}
use Rattle.gv_journal.specs.declared.journal.Journal.TheInside.{Inside}

abbrev pub journal_of : Inside → JournalState
journal_of j = record { limit = j.limit; first = j.first; items = reverse j.item_store.items }

-- a Withdrawal names an older item
abbrev pub NamesBelow : ItemKind → ℕ → Type 0
NamesBelow (Bind queue number request seen done) n = Unit {0}
NamesBelow (Withdrawal of) n = of < n

abbrev pub NameOlder : List NumberedItem → Type 0
NameOlder [] = Unit {0}
NameOlder (x ∷ older) = NamesBelow x.item.kind x.number × NameOlder older

-- no other item names what a Withdrawal names, which is held
abbrev pub NamesOnce : ItemKind → ℕ → List NumberedItem → Type 0
NamesOnce (Bind queue number request seen done) first older = Unit {0}
NamesOnce (Withdrawal of) first older = (first ≤ of) × (is_withdrawn older of ≡ false)

abbrev pub NameOnce : ℕ → List NumberedItem → Type 0
NameOnce first [] = Unit {0}
NameOnce first (x ∷ older) = NamesOnce x.item.kind first older × NameOnce first older

pub record IsSoundJournal (j : Inside) : Type 0 where
  pub numbered_below : next (journal_of j) ≤ numbers
  pub name_older : NameOlder (entries (journal_of j))
  pub name_once : NameOnce j.first (entries (journal_of j))
  pub notes : j.item_store.notes ≡ notes_of (entries (journal_of j))
