-- The lists of outcomes with their room. No public clause cites this module.
use Rattle.std.specs.Prelude.{ℕ, ◌+◌, ◌-◌, ◌<◌, ◌≤◌, ◌++◌, List, map, length, drop, replicate, slice_index_or, vec_len, vec_capacity}
use Rattle.std.specs.Global.{Vec}
use Rattle.gv_vm.specs.Outcomes.{forgotten_outcome, lifetime_told}
use Rattle.gv_vm.specs.declared.outcome.Outcome.{Outcome}
use Rattle.gv_vm.specs.declared.told.QueueOutcomes.TheInside.{Inside}

-- what a queue was told, how many of it is forgotten, and room for how many more there is
pub record QueueOutcomesState : Type 0 where
  pub list : List Outcome
  pub forgotten : ℕ
  pub room : ℕ

-- Of the outcomes that stand the first ones are forgotten too, and are to be given back.
abbrev pub told_of : Inside → QueueOutcomesState
told_of t =
    record {
      list = replicate t.first forgotten_outcome ++ drop t.gone t.outcomes.items;
      forgotten = t.first;
      room = vec_capacity t.outcomes - vec_len t.outcomes;
    }

pub record IsSoundTold (t : Inside) : Type 0 where
  pub within : t.gone ≤ length t.outcomes.items
  pub few : t.first + length t.outcomes.items ≤ t.gone + lifetime_told

abbrev pub AllQueueOutcomes : Type 0
AllQueueOutcomes = Vec QueueOutcomesState

-- what the queues were told
abbrev pub lists_of : AllQueueOutcomes → List (List Outcome)
lists_of told = map (λ t. t.list) told.items

-- how many of them are forgotten
abbrev pub forgotten_in : AllQueueOutcomes → List ℕ
forgotten_in told = map (λ t. t.forgotten) told.items

-- there is such a queue
abbrev pub HaveQueue : AllQueueOutcomes → ℕ → Type 0
HaveQueue told queue = queue < length told.items

-- there is room for one outcome more
pub record HasSlot (t : QueueOutcomesState) : Type 0 where
  pub room : 0 < t.room
  pub few : length t.list < lifetime_told

-- there is room for one outcome more of this queue
abbrev pub HasRoomToTell : AllQueueOutcomes → ℕ → Type 0
HasRoomToTell told queue = (d : QueueOutcomesState) → HasSlot (slice_index_or told.items queue d)
