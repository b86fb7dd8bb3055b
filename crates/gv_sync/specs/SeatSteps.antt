-- A seat's steps one after another: what a list of raises makes of what it knows.
use Rattle.std.specs.Prelude.{◌≡◌, ℕ, ◌+◌, ◌<◌, ◌≤◌, List, [], ◌∷◌, ◌++◌, length, max}
use Rattle.gv_types.specs.declared.request.Point.{Point}
use Rattle.gv_sync.specs.Marks.{IsNoLess}
use Rattle.gv_sync.specs.Raises.{raised, values_on}
use Rattle.gv_sync.specs.Seats.{SeatState, after_raise, mark_of}

-- the seat after raises to these points in order, each by one step, and no other steps
pub record HasRaised (points : List Point) (old new : SeatState) : Type 0 where
  pub of : new.of ≡ old.of
  pub raises : new.raises ≡ old.raises ++ points
  pub halvings : new.halvings ≡ old.halvings
  pub counted : length new.marks ≡ length old.marks
  pub taken : (timeline : ℕ) → (mark_of new timeline).taken
      ≡ (mark_of old timeline).taken + length (values_on timeline points)
  pub raised : (timeline : ℕ) → (mark_of new timeline).raised
      ≡ max (mark_of old timeline).raised (raised (values_on timeline points))
  pub seen : (timeline : ℕ) → (mark_of old timeline).seen ≤ (mark_of new timeline).seen

-- at first it is the seat itself
abbrev pub NoRaisesYet : Type 0
NoRaisesYet = (seat : SeatState) → HasRaised [] seat seat

-- and one more raise is one more point
abbrev pub OneMoreRaise : Type 0
OneMoreRaise =
    (points : List Point) (point : Point) (number : ℕ) (old seat : SeatState)
    → HasRaised points old seat → point.timeline < length seat.marks
    → IsNoLess (mark_of seat point.timeline) number
    → HasRaised (points ++ point ∷ []) old (after_raise seat point number)

-- the seat after any number of loads, each by one step, and no other steps: it raised nothing, and no seat was split off it
pub record HasLooked (old new : SeatState) : Type 0 where
  pub of : new.of ≡ old.of
  pub raises : new.raises ≡ old.raises
  pub halvings : new.halvings ≡ old.halvings
  pub counted : length new.marks ≡ length old.marks
  pub raised : (timeline : ℕ) → (mark_of new timeline).raised ≡ (mark_of old timeline).raised
  pub seen : (timeline : ℕ) → (mark_of old timeline).seen ≤ (mark_of new timeline).seen
