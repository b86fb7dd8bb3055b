-- What a worker does to its seat for the requests that it serves.
use Rattle.std.specs.Prelude.{◌≡◌, ℕ, ◌<◌, ◌≤◌, List, [], ◌∷◌, ◌++◌, length, map, max, slice_index_or, take}
use Rattle.std.specs.List.{All}
use Rattle.gv_types.specs.declared.request.Point.{Point}
use Rattle.gv_types.specs.declared.request.Request.{Request}
use Rattle.gv_sync.specs.Raises.{raised, values_on}
use Rattle.gv_sync.specs.Seats.{SeatState, mark_of}
use Rattle.gv_sync.specs.Sights.{Sight}
use Rattle.gv_sync.specs.SeatSteps.{HasRaised}
use Rattle.gv_journal.specs.declared.item.ItemKind.{ItemKind}
use Rattle.gv_journal.specs.declared.item.ItemKind.TheVariants.{Bind, Withdrawal}
use Rattle.gv_vm.specs.declared.outcome.Outcome.{Outcome}
use Rattle.gv_vm.specs.declared.outcome.Outcome.TheVariants.{Accepted, Refused, NotReady}

-- a fact of the request that a Bind stands for
abbrev pub IfBind : ItemKind → (Request → Type 0) → Type 0
IfBind (Bind queue number request seen done) fact = fact request
IfBind (Withdrawal of) fact = Unit {0}

-- an accepted request is owed its signals, any other none
abbrev pub owed : Outcome → List Point → List Point
owed (Accepted entry) signals = signals
owed (Refused op fault) signals = []
owed (NotReady point have) signals = []

-- The signals of an accepted request were raised, each by one step, in order. Else the seat is as before.
abbrev pub ArePaid : List Point → SeatState → SeatState → Outcome → Type 0
ArePaid signals old new (Accepted entry) = HasRaised signals old new
ArePaid signals old new (Refused op fault) = new ≡ old
ArePaid signals old new (NotReady point have) = new ≡ old

-- Among any number of loads, the seat raised just these points, in order, each by one step. No seat was split off it.
pub record RaisedJust (points : List Point) (old new : SeatState) : Type 0 where
  pub of : new.of ≡ old.of
  pub halvings : new.halvings ≡ old.halvings
  pub raises : new.raises ≡ old.raises ++ points
  pub raised : (timeline : ℕ) → (mark_of new timeline).raised
      ≡ max (mark_of old timeline).raised (raised (values_on timeline points))

-- the signals of the requests that were accepted, in the order of the requests and of their signals
abbrev pub all_owed : List Outcome → List Request → List Point
all_owed [] requests = []
all_owed (outcome ∷ outcomes) [] = []
all_owed (outcome ∷ outcomes) (request ∷ requests) = owed outcome request.signals.items ++ all_owed outcomes requests

-- these were the waits of the request in order when they were looked at, and the seat has seen each number
pub record AreReached (waits : List Point) (seat : SeatState) (reached : List Sight) : Type 0 where
  pub points : map (λ (s : Sight). s.point) reached ≡ waits
  pub seen : All (λ (s : Sight). s.number ≤ (mark_of seat s.point.timeline).seen) reached

-- each point had been reached when it was looked at
abbrev pub WereReached : List Sight → Type 0
WereReached sights = All (λ (s : Sight). s.point.value ≤ s.number) sights

-- A wait that was not reached when it was looked at, and the first: these are the sights of the waits before it in order, and
-- each of those was reached
pub record IsFirstLacking (waits : List Point) (seat : SeatState) (reached : List Sight) (lacking : Sight) : Type 0 where
  pub index : ℕ
  pub exists : index < length waits
  pub point : (d : Point) → slice_index_or waits index d ≡ lacking.point
  pub short : lacking.number < lacking.point.value
  pub sights : AreReached (take index waits) seat reached
  pub before : WereReached reached
