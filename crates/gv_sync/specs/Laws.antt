-- Laws of `raised`, that each kind of step keeps the rule `SeatsAgree`, and what follows from the rule.
use Rattle.std.specs.Prelude.{◌≡◌, ◌⊎◌, ℕ, ◌<◌, ◌≤◌, List, [], ◌∷◌, ◌++◌, length, max, slice_index, All, Contains}
use mathlib.Core.Option.{none}
use Rattle.atomic_table.specs.Table.{Allows, Splits, State, opening, step}
use Rattle.gv_sync.specs.declared.marks.SeatKnowledge.{SeatKnowledge}
use Rattle.gv_sync.specs.Marks.{first_known, known_after_split, known_split_off}
use Rattle.gv_sync.specs.Raises.{raised}
use Rattle.gv_sync.specs.Rule.{IsOwnRaise, Knows, SeatsAgree, Loaded, Raised}

-- no raise is greater
abbrev pub RaisedIsGreatest : Type 0
RaisedIsGreatest = (values : List ℕ) → All (λ v. v ≤ raised values) values

-- it is 0 or one of the raises
abbrev pub RaisedIsReached : Type 0
RaisedIsReached = (values : List ℕ) → (raised values ≡ 0) ⊎ Contains values (raised values)

-- one more raise gives the greater of the number and the value
abbrev pub RaisedOnceMore : Type 0
RaisedOnceMore =
    (values : List ℕ) (value : ℕ) → raised (values ++ value ∷ []) ≡ max (raised values) value

-- the rule holds of new timelines
abbrev pub NewTimelinesAgree : Type 0
NewTimelinesAgree =
    (words : List ℕ) → All (λ n. n ≡ 0) words
    → SeatsAgree (length words) (opening words [] (first_known (length words)))

-- whatever the timelines are as a seat loads one, the rule is kept, and the load tells what it owes
abbrev pub LoadKeepsRule : Type 0
LoadKeepsRule =
    (count slots seat timeline : ℕ) (before : SeatKnowledge) (out : List (ℕ × ℕ)) → timeline < count
    → Allows (SeatsAgree count) slots seat (before, out) timeline (λ n. n)
    (Loaded (step slots timeline 0 0 none) (before, out))

-- the same where a seat raises one to a value
abbrev pub RaiseKeepsRule : Type 0
RaiseKeepsRule =
    (count slots seat timeline value : ℕ) (before : SeatKnowledge) (out : List (ℕ × ℕ)) → timeline < count
    → Allows (SeatsAgree count) slots seat (before, out) timeline (λ n. max n value)
    (Raised (step slots timeline value 0 none) (before, out))

-- the same where a seat is split
abbrev pub SplitKeepsRule : Type 0
SplitKeepsRule =
    (count seat : ℕ) (before : SeatKnowledge)
    → Splits (SeatsAgree count) seat before (known_after_split before) (known_split_off before)

-- no seat comes from elsewhere: with one more, whatever it knows and did, the rule would be broken
abbrev pub NoSeatFromElsewhere : Type 0
NoSeatFromElsewhere =
    (count : ℕ) (s next : State ℕ SeatKnowledge) (more : SeatKnowledge) → SeatsAgree count s
    → next.views ≡ s.views ++ more ∷ [] → ¬ SeatsAgree count next

-- a seat with the whole is the only one
abbrev pub WholeIsTheOnlySeat : Type 0
WholeIsTheOnlySeat =
    (count seat other : ℕ) (known known_there : SeatKnowledge) (s : State ℕ SeatKnowledge) → SeatsAgree count s
    → Knows s.views seat known → known.halvings ≡ 0 → Knows s.views other known_there → other ≡ seat

-- so each number is what that seat raised it to, which at first is 0
abbrev pub WholeRaisedAll : Type 0
WholeRaisedAll =
    (count seat timeline : ℕ) (known : SeatKnowledge) (s : State ℕ SeatKnowledge) → SeatsAgree count s
    → Knows s.views seat known → IsOwnRaise known timeline (slice_index s.words timeline)
