-- Which withdrawals name items, so that these can be passed over unread. No public clause cites this module.
use Rattle.std.specs.Prelude.{◌≡◌, ℕ, ◌+◌, ◌-◌, ◌<◌, ◌≤◌, Bool, nat_le, is_some, if◌then◌else◌, List, [], ◌∷◌, map, reverse, length, slice_index_or, set, min, Option, Some, None}
use Rattle.gv_journal.specs.Items.{NumberedItem, names}
use Rattle.gv_journal.specs.declared.item.ItemKind.{ItemKind}
use Rattle.gv_journal.specs.declared.item.ItemKind.TheVariants.{Bind, Withdrawal}

-- the number of the newest item that names a number
abbrev pub named_by : List NumberedItem → ℕ → Option ℕ
named_by [] n = None
named_by (x ∷ older) n = if names x.item.kind n then Some x.number else named_by older n

-- the notes of items, the oldest one first: which withdrawal names each
abbrev pub notes_of : List NumberedItem → List (Option ℕ)
notes_of xs = map (λ x. named_by xs x.number) (reverse xs)

-- the number of a withdrawal, where it is this one or above
abbrev pub crossed : ℕ → Option ℕ → Option ℕ
crossed to None = None
crossed to (Some by) = if nat_le to by then Some by else None

abbrev pub lesser : Option ℕ → Option ℕ → Option ℕ
lesser None other = other
lesser (Some least) None = Some least
lesser (Some least) (Some other) = Some (min least other)

-- the least number, from `to` on, of a withdrawal of an item with one of these notes
abbrev pub crossing_from : ℕ → Option ℕ → List (Option ℕ) → Option ℕ
crossing_from to least [] = least
crossing_from to least (note ∷ notes) = crossing_from to (lesser least (crossed to note)) notes

-- the notes of items numbered from `n` on tell which of these are gone
abbrev pub TellGone : (ℕ → Bool) → ℕ → List (Option ℕ) → Type 0
TellGone gone n notes = (i : ℕ) (note : Option ℕ) → i < length notes → gone (n + i) ≡ is_some (slice_index_or notes i note)

-- what it names, if anything, is one of so many items, the oldest of which is `first`
abbrev pub NamesWithin : ItemKind → ℕ → ℕ → Type 0
NamesWithin (Bind queue number request seen done) first count = Unit {0}
NamesWithin (Withdrawal of) first count = (first ≤ of) × (of < first + count)

-- the notes once an item of this kind names none any more
abbrev pub cleared : ItemKind → ℕ → List (Option ℕ) → List (Option ℕ)
cleared (Bind queue number request seen done) first notes = notes
cleared (Withdrawal of) first notes = set notes (of - first) None
