-- The running jobs, what their accesses ask of an address space, and what the calls on them do.
use Rattle.std.specs.Prelude.{◌≡◌, ◌==◌, ℕ, ◌+◌, ◌-◌, ◌^◌, ◌<◌, Bool, ◌&&◌, ◌||◌, if◌then◌else◌, nat_lt, nat_le, IsTrue, List, [], ◌∷◌, ◌++◌, length, map, take, Option, Some, None, ◌⊎◌, IsSomeAnd}
use Rattle.std.specs.Option.{option_map}
use Rattle.std.specs.List.{All, find, list_any}
use Rattle.gv_types.specs.declared.fault.Fault.{Fault}
use Rattle.gv_types.specs.declared.fault.Fault.TheVariants.{Unmapped, WriteToReadOnly, TooManyJobs, TooManyAccesses, NoJob, OutOfMemory}
use Rattle.gv_types.specs.declared.mapping.Mapping.{Mapping}
use Rattle.gv_buffers.specs.declared.usage.Usage.{Usage}
use Rattle.gv_buffers.specs.Users.{is_write}
use Rattle.gv_buffers.specs.Buffers.{BuffersState, buffer, changed, join_fault, joined_by, left_everywhere}
use Rattle.gv_space.specs.Refusal.{first_of}
use Rattle.gv_space.specs.State.{SpaceState}
use Rattle.gv_vm.specs.Places.{place_at}
use Rattle.gv_vm.specs.declared.jobs.Access.{Access}
use Rattle.gv_vm.specs.declared.jobs.Job.{Job}
use Rattle.gv_vm.specs.declared.places.Place.{Place}
use Rattle.gv_vm.specs.declared.places.Target.{Target}
use Rattle.gv_vm.specs.declared.places.Target.TheVariants.{Buffer as BufferByte, Zero}

-- a running job: its number, and the places that its accesses had when it began
pub record JobState : Type 0 where
  pub number : ℕ
  pub places : List Place

-- what contracts see of `Jobs`: how many jobs were ever begun, and those that run, in the order in which they began
pub record JobsState : Type 0 where
  pub begun : ℕ
  pub running : List JobState

-- so many jobs run at most
abbrev pub most_running : ℕ
most_running = 1024

-- a job has no more accesses
abbrev pub most_accesses : ℕ
most_accesses = 256

-- no more jobs are ever begun
abbrev pub most_begun : ℕ
most_begun = 2 ^ 64 - 1

abbrev pub no_jobs : JobsState
no_jobs = record { begun = 0; running = [] }

abbrev pub has_number : ℕ → JobState → Bool
has_number number j = j.number == number

-- a job with this number runs
abbrev pub runs : List JobState → ℕ → Bool
runs js number = list_any (has_number number) js

-- the places of the running job with this number
abbrev pub places_in : List JobState → ℕ → Option (List Place)
places_in js number = option_map (λ j. j.places) (find (has_number number) js)

-- the jobs without the one that has this number
abbrev pub without_job : ℕ → List JobState → List JobState
without_job number [] = []
without_job number (j ∷ js) = if has_number number j then js else j ∷ without_job number js

-- why a job can't hold what stands behind its place: a zero is held by nobody
abbrev pub target_fault : BuffersState → ℕ → Usage → Target → Option Fault
target_fault t job usage (BufferByte id byte) = join_fault t id job usage
target_fault t job usage Zero = None

-- why the access with this number, counted from 0, is refused to a job
abbrev pub place_fault : BuffersState → ℕ → ℕ → Usage → Option Place → Option Fault
place_fault t job n usage None = Some (Unmapped n)
place_fault t job n usage (Some place) =
    if is_write usage && place.flags.read_only then Some (WriteToReadOnly n) else target_fault t job usage place.target

abbrev pub access_fault : List Mapping → ℕ → BuffersState → ℕ → Access → Option Fault
access_fault ms job t n access = place_fault t job n access.usage (place_at ms access.addr)

-- the buffers once a job holds what stands behind its place
abbrev pub with_target_held : ℕ → Usage → Target → BuffersState → BuffersState
with_target_held job usage (BufferByte id byte) t = changed id (joined_by job usage) t
with_target_held job usage Zero t = t

abbrev pub with_place_held : ℕ → Usage → Option Place → BuffersState → BuffersState
with_place_held job usage None t = t
with_place_held job usage (Some place) t = with_target_held job usage place.target t

abbrev pub with_access_held : List Mapping → ℕ → Access → BuffersState → BuffersState
with_access_held ms job access t = with_place_held job access.usage (place_at ms access.addr) t

-- the first fault of a job's accesses, each met with what those before it hold; the first one of these has this number
abbrev pub accesses_fault : List Mapping → ℕ → BuffersState → ℕ → List Access → Option Fault
accesses_fault ms job t n [] = None
accesses_fault ms job t n (access ∷ later) =
    first_of (access_fault ms job t n access) (accesses_fault ms job (with_access_held ms job access t) (n + 1) later)

-- the buffers once a job holds all that its accesses reach
abbrev pub with_all_held : List Mapping → ℕ → List Access → BuffersState → BuffersState
with_all_held ms job [] t = t
with_all_held ms job (access ∷ later) t = with_all_held ms job later (with_access_held ms job access t)

-- why no job of so many accesses can begin
abbrev pub many_fault : JobsState → ℕ → Option Fault
many_fault r count =
    if nat_lt most_accesses count then Some TooManyAccesses
    else if nat_le most_running (length r.running) || nat_le most_begun r.begun then Some TooManyJobs
    else None

-- why a job with these accesses can't begin, where memory suffices
abbrev pub begin_fault : SpaceState → JobsState → List Access → Option Fault
begin_fault s r accesses = first_of (many_fault r (length accesses)) (accesses_fault s.mappings r.begun s.buffers 0 accesses)

-- The accesses are refused in turn so, or for want of memory, which comes after the first one's own fault.
abbrev pub AreRefused : List Mapping → ℕ → BuffersState → List Access → Fault → Type 0
AreRefused ms job t accesses fault =
    (accesses_fault ms job t 0 accesses ≡ Some fault) ⊎ ((fault ≡ OutOfMemory) × (accesses_fault ms job t 0 (take 1 accesses) ≡ None))

-- A job is refused as a whole, or its accesses are.
abbrev pub IsBeginRefused : SpaceState → JobsState → List Access → Fault → Type 0
IsBeginRefused s r accesses fault =
    (many_fault r (length accesses) ≡ Some fault)
    ⊎ ((many_fault r (length accesses) ≡ None) × AreRefused s.mappings r.begun s.buffers accesses fault)

abbrev pub job_state : Job → JobState
job_state job = record { number = job.number; places = job.places.items }

-- A job began: its number is how many were begun before it, its places are where its addresses lead, and it holds the
-- buffers behind them.
pub record IsBegun (old new : SpaceState) (before after : JobsState) (accesses : List Access) (job : Job) : Type 0 where
  pub number : job.number ≡ before.begun
  pub places : map Some job.places.items ≡ map (λ access. place_at old.mappings access.addr) accesses
  pub jobs : after ≡ record { begun = before.begun + 1; running = before.running ++ job_state job ∷ [] }
  pub space : new ≡ record old { buffers = with_all_held old.mappings before.begun accesses old.buffers }

-- why a job can't end
abbrev pub end_fault : JobsState → ℕ → Option Fault
end_fault r number = if runs r.running number then None else Some NoJob

-- a job ended: neither it nor what it held is there
pub record IsEnded (old new : SpaceState) (before after : JobsState) (number : ℕ) : Type 0 where
  pub jobs : after ≡ record before { running = without_job number before.running }
  pub space : new ≡ record old { buffers = left_everywhere number old.buffers }

-- the job is among the users of the buffer behind a place; a zero needs none
abbrev pub IsHeld : BuffersState → ℕ → Target → Type 0
IsHeld t job (BufferByte id byte) = IsSomeAnd (buffer t id) (λ b. IsTrue (list_any (λ u. u.job == job) b.users))
IsHeld t job Zero = Unit {0}

-- Each user of a buffer is a running job, and each running job holds what stands behind its places, so that those buffers
-- live as long as it runs.
pub record AreHeld (t : BuffersState) (js : List JobState) : Type 0 where
  pub users : All (λ b. All (λ u. IsTrue (runs js u.job)) b.users) t.live
  pub places : All (λ j. All (λ p. IsHeld t j.number p.target) j.places) js

-- what always holds of the running jobs: few of them, each with a number of its own below those of later ones
pub record AreRunning (r : JobsState) : Type 0 where
  pub few : length r.running < most_running + 1
  pub below : All (λ j. j.number < r.begun) r.running
  pub made : r.begun < most_begun + 1
