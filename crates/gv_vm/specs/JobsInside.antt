-- What `Jobs` keeps of its parts. No public clause cites this module.
use Rattle.std.specs.Prelude.{◌≡◌, ℕ, ◌<◌, List, length, map, slice_index_or}
use Rattle.std.specs.List.{AllPairs}
use Rattle.gv_vm.specs.Jobs.{JobsState, AreRunning, job_state}
use Rattle.gv_vm.specs.declared.jobs.Job.{Job}
use Rattle.gv_vm.specs.declared.jobs.Jobs.TheInside.{Inside}

abbrev pub running_of : Inside → JobsState
running_of j = record { begun = j.begun; running = map job_state j.running.items }

-- the jobs stand in the order of their numbers
abbrev pub AreAscending : List Job → Type 0
AreAscending js = AllPairs (λ (a b : Job). a.number < b.number) js

-- the job at this position has the number
pub record IsAt (js : List Job) (number position : ℕ) : Type 0 where
  pub in_range : position < length js
  pub has_number : (d : Job) → (slice_index_or js position d).number ≡ number

pub record AreSoundJobs (j : Inside) : Type 0 where
  pub running : AreRunning (running_of j)
  pub ascending : AreAscending j.running.items
