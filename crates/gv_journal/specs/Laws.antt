-- What holds of every journal.
use Rattle.std.specs.Prelude.{◌≡◌, ℕ, true, false, not, ◌==◌, filter, List, [], ◌∷◌, Option}
use Rattle.gv_types.specs.Bounds.{BoundsState}
use Rattle.gv_types.specs.Limits.{LimitsState}
use Rattle.gv_types.specs.declared.mapping.Entry.{Entry}
use Rattle.gv_types.specs.declared.mapping.Mapping.{Mapping}
use Rattle.gv_space.specs.State.{SpaceState, AreKept, IsUnchanged, new_space}
use Rattle.gv_journal.specs.Items.{JournalState, NumberedItem, names, view, view_without}
use Rattle.gv_journal.specs.Fits.{FitsSpace}

-- a new journal fits a new space
abbrev pub NewJournalFits : Type 0
NewJournalFits = (area : BoundsState) (limits : LimitsState) (limit : ℕ) → FitsSpace (new_space area limits) (record { limit = limit; first = 0; items = [] })

-- a journal of no item fits every space of which nothing is kept
abbrev pub EmptyJournalFits : Type 0
EmptyJournalFits = (s : SpaceState) (limit first : ℕ) → AreKept s [] → FitsSpace s (record { limit = limit; first = first; items = [] })

-- A journal goes on to fit a space in which only the buffers and their users change, and in which all that is kept stays
-- kept: where a buffer is made or destroyed, and where a job joins or leaves.
abbrev pub FitsWithOtherBuffers : Type 0
FitsWithOtherBuffers =
    (s t : SpaceState) (j : JournalState) → t ≡ record s { buffers = t.buffers } → ((kept : List Mapping) → AreKept s kept → AreKept t kept) → FitsSpace s j → FitsSpace t j

-- and one that only has more room
abbrev pub FitsWithRoom : Type 0
FitsWithRoom = (s t : SpaceState) (j : JournalState) → IsUnchanged s t → FitsSpace s j → FitsSpace t j

-- the items but that with this number
abbrev pub others : ℕ → List NumberedItem → List NumberedItem
others n xs = filter (λ x. not (n == x.number)) xs

-- what has this number names no item: it is a Bind
abbrev pub NamesNone : ℕ → List NumberedItem → Type 0
NamesNone n [] = Unit {0}
NamesNone n (x ∷ xs) = ((n == x.number) ≡ true → (m : ℕ) → names x.item.kind m ≡ false) × NamesNone n xs

-- what the items say without a Bind is what the list without it says, the others with their numbers
abbrev pub ViewOfOthers : Type 0
ViewOfOthers =
    (n : ℕ) (xs : List NumberedItem) (base : ℕ → Option Entry) (page : ℕ) → NamesNone n xs → view_without n xs base page ≡ view (others n xs) base page
