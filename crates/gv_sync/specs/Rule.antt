-- The rule of the timelines: of each seat, dropped ones too, raised ≤ seen ≤ word, a word is 0 or what some seat raised it to, and the seats' shares are one whole.
use Rattle.std.specs.Prelude.{◌≡◌, ◌⊎◌, ℕ, ◌-◌, ◌^◌, ◌≤◌, List, [], ◌∷◌, ◌++◌, length, max, slice_index, sum_by}
use mathlib.Core.Option.{some}
use lib.ListN.{get_elem?}
use Rattle.atomic_table.specs.Table.{State, Me, Step}
use Rattle.gv_sync.specs.declared.marks.Mark.{Mark}
use Rattle.gv_sync.specs.declared.marks.SeatKnowledge.{SeatKnowledge}
use Rattle.gv_sync.specs.Marks.{IsNoLess, mark_at, marks_after_load, marks_after_raise}

-- the seat with this number knows this
abbrev pub Knows : List SeatKnowledge → ℕ → SeatKnowledge → Type 0
Knows seats seat known = get_elem? seats seat ≡ some known

-- a seat raised a timeline no higher than it saw it, and saw it no higher than it is
pub record RaisedWhatItSaw (words : List ℕ) (marks : List Mark) : Type 0 where
  pub counted : length marks ≡ length words
  pub raised : (timeline : ℕ) → (mark_at marks timeline).raised ≤ (mark_at marks timeline).seen
  pub seen : (timeline : ℕ) → (mark_at marks timeline).seen ≤ slice_index words timeline

-- the timeline is 0, or some seat raised it to what it is
abbrev pub IsRaised : List ℕ → List SeatKnowledge → ℕ → Type 0
IsRaised words seats timeline =
    (slice_index words timeline ≡ 0)
    ⊎ ((seat : ℕ) × (known : SeatKnowledge) × Knows seats seat known
    × ((mark_at known.marks timeline).raised ≡ slice_index words timeline))

-- a seat's share of a whole of 2 ^ most parts
abbrev pub share : ℕ → SeatKnowledge → ℕ
share most known = 2 ^ (most - known.halvings)

-- no seat's share was halved more often
abbrev pub AreHalvedAtMost : ℕ → List SeatKnowledge → Type 0
AreHalvedAtMost most seats =
    (seat : ℕ) (known : SeatKnowledge) → Knows seats seat known → known.halvings ≤ most

-- the shares of all seats add up to the whole: no seat came from elsewhere, and none is forgotten
abbrev pub AreOneWhole : List SeatKnowledge → Type 0
AreOneWhole seats =
    (most : ℕ) → AreHalvedAtMost most seats → sum_by (share most) seats ≡ 2 ^ most

-- the words and what all seats know, dropped ones too, agree
pub record SeatsAgree (count : ℕ) (s : State ℕ SeatKnowledge) : Type 0 where
  pub counted : length s.words ≡ count
  pub within : (seat : ℕ) (known : SeatKnowledge) → Knows s.views seat known → RaisedWhatItSaw s.words known.marks
  pub raised : (timeline : ℕ) → IsRaised s.words s.views timeline
  pub shared : AreOneWhole s.views

abbrev pub Holder : Type 0
Holder = Me ℕ SeatKnowledge

-- a seat with the whole is the only one: a number is what it raised it to
abbrev pub IsOwnRaise : SeatKnowledge → ℕ → ℕ → Type 0
IsOwnRaise known timeline number =
    known.halvings ≡ 0 → number ≡ (mark_at known.marks timeline).raised

-- what a load tells: the number found is now seen, and no lower than what was seen. Nothing was raised
pub record Loaded (s : Step ℕ) (before : Holder) (found : ℕ) (after : Holder) : Type 0 where
  pub marks : after.0.marks ≡ marks_after_load before.0.marks s.word found
  pub raises : after.0.raises ≡ before.0.raises
  pub halvings : after.0.halvings ≡ before.0.halvings
  pub no_less : IsNoLess (mark_at before.0.marks s.word) found
  pub alone : IsOwnRaise before.0 s.word found

-- what a fetch_max tells: the greater of the number found and the value is now seen, and that was the seat's last raise
pub record Raised (s : Step ℕ) (before : Holder) (found : ℕ) (after : Holder) : Type 0 where
  pub marks : after.0.marks ≡ marks_after_raise before.0.marks s.word s.first (max found s.first)
  pub raises : after.0.raises ≡ before.0.raises ++ record { timeline = s.word; value = s.first } ∷ []
  pub halvings : after.0.halvings ≡ before.0.halvings
  pub no_less : IsNoLess (mark_at before.0.marks s.word) found
  pub alone : IsOwnRaise before.0 s.word found
