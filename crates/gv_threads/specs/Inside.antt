-- What a `ThreadsScript` keeps of its parts while it is read. No public clause cites this module.
use Rattle.std.specs.Prelude.{ℕ, ◌≤◌, List, length}
use Rattle.gv_types.specs.Limits.{IsFromOneTo}
use Rattle.gv_sync.specs.Seats.{most_timelines}
use Rattle.gv_vm.specs.Outcomes.{queues}
use Rattle.gv_threads.specs.Script.{most_waiting}

-- the declared timelines, the number of queues, and the greatest number of requests on one so far
pub record ReadState : Type 0 where
  pub timelines : List (List ℕ)
  pub queues : ℕ
  pub depth : ℕ

abbrev pub read_state : List (List ℕ) → ℕ → ℕ → ReadState
read_state timelines asked depth = record { timelines = timelines; queues = asked; depth = depth }

pub record IsRead (r : ReadState) : Type 0 where
  pub declared : length r.timelines ≤ most_timelines
  pub queues : IsFromOneTo queues r.queues
  pub depth : IsFromOneTo most_waiting r.depth
