-- One address space with its journal, its running jobs and what its queues were told, and the clauses that always hold of it.
use Rattle.std.specs.Prelude.{◌≡◌, ℕ, ◌+◌, ◌≤◌, List, [], length, min, replicate, slice_get, slice_index_or, Some}
use Rattle.std.specs.List.{All, AllZip}
use Rattle.gv_types.specs.Bounds.{BoundsState}
use Rattle.gv_types.specs.Limits.{LimitsState}
use Rattle.gv_types.specs.declared.request.Point.{Point}
use Rattle.gv_buffers.specs.Users.{HaveNoConflict}
use Rattle.gv_buffers.specs.Buffers.{BuffersState}
use Rattle.gv_space.specs.State.{SpaceState, IsSpace, AreKept, new_space}
use Rattle.gv_journal.specs.Items.{JournalState, NumberedItem, entries}
use Rattle.gv_journal.specs.History.{base, kept_by, Translates, UndoSavesTheView, Rewinds}
use Rattle.gv_journal.specs.declared.item.ItemKind.{ItemKind}
use Rattle.gv_journal.specs.declared.item.ItemKind.TheVariants.{Bind, Withdrawal}
use Rattle.gv_vm.specs.Jobs.{JobsState, AreHeld, no_jobs}
use Rattle.gv_vm.specs.Outcomes.{queues, lifetime_told, told_to}
use Rattle.gv_vm.specs.declared.outcome.Outcome.{Outcome}
use Rattle.gv_vm.specs.declared.outcome.Outcome.TheVariants.{Accepted}

-- what contracts see of a `Vm`: of what a queue was told the first outcomes may be forgotten, and so many are
pub record VmState : Type 0 where
  pub space : SpaceState
  pub journal : JournalState
  pub jobs : JobsState
  pub told : List (List Outcome)
  pub forgotten : List ℕ

-- The room for mappings isn't told: a machine's is told as the limit, which no list passes.
abbrev pub roomless : SpaceState → SpaceState
roomless s = record s { room = s.limits.mappings }

-- a machine of no mapping, no buffer, no item and no job, of which no queue was told anything
abbrev pub new_vm : BoundsState → LimitsState → VmState
new_vm area limits =
    record {
      space = roomless (new_space area limits);
      journal = record { limit = limits.items; first = 0; items = [] };
      jobs = no_jobs;
      told = replicate queues [];
      forgotten = replicate queues 0;
    }

-- how many outcomes of a queue are forgotten
abbrev pub forgotten_of : VmState → ℕ → ℕ
forgotten_of v queue = slice_index_or v.forgotten queue 0

-- how many outcomes a queue may be told: as many as the limit says beside those that are forgotten
abbrev pub told_limit : VmState → ℕ → ℕ
told_limit v queue = min lifetime_told (forgotten_of v queue + v.space.limits.told)

-- `uses` counts the list, `kept` what undo values keep, and every buffer that one of these or a running job's place names
-- is alive; each mapping lies inside its buffer, inside the bounds and off the reserved region
pub record BuffersCounted (v : VmState) : Type 0 where
  pub used : IsSpace v.space
  pub kept : AreKept v.space (kept_by v.journal.items)
  pub held : AreHeld v.space.buffers v.jobs.running

-- the queue of a Bind was told, at its number, that it is this entry
abbrev pub WasTold : ItemKind → ℕ → List (List Outcome) → Type 0
WasTold (Bind queue number request seen done) entry told = slice_get (told_to told queue) number ≡ Some (Accepted entry)
WasTold (Withdrawal of) entry told = Unit {0}

abbrev pub ToldMatchesJournal : List NumberedItem → List (List Outcome) → Type 0
ToldMatchesJournal xs told = All (λ x. WasTold x.item.kind x.number told) xs

-- what each wait of a Bind saw is at least the point's value
abbrev pub SawItsWaits : ItemKind → Type 0
SawItsWaits (Bind queue number request seen done) = AllZip (λ (p : Point) n. p.value ≤ n) request.waits.items seen.items
SawItsWaits (Withdrawal of) = Unit {0}

abbrev pub WaitsWereReached : List NumberedItem → Type 0
WaitsWereReached xs = All (λ x. SawItsWaits x.item.kind) xs

-- no two running jobs use one buffer where either writes it
abbrev pub NoConflictingJobs : BuffersState → Type 0
NoConflictingJobs t = All (λ b. HaveNoConflict b.users) t.live

-- What always holds of a machine. Its page table isn't seen here: that it is the list's is said where the table is given.
pub record IsVm (v : VmState) : Type 0 where
  pub translates : Translates v.space.mappings (entries v.journal) (base v.space.mappings v.journal.items)
  pub buffers_counted : BuffersCounted v
  pub rewinds : Rewinds v.space.limits.mappings v.space.room v.journal.first v.space.mappings v.journal.items (base v.space.mappings v.journal.items)
  pub undo_saves_the_view : UndoSavesTheView (entries v.journal) (base v.space.mappings v.journal.items)
  pub told_matches_journal : ToldMatchesJournal (entries v.journal) v.told
  pub waits_were_reached : WaitsWereReached (entries v.journal)
  pub no_conflicting_jobs : NoConflictingJobs v.space.buffers
  pub forgotten : length v.forgotten ≡ queues
  pub queues : length v.told ≡ queues

-- only the buffers are others
abbrev pub HasOtherBuffers : VmState → VmState → Type 0
HasOtherBuffers old new = new ≡ record old { space = record old.space { buffers = new.space.buffers } }

-- only the jobs are others, and what they hold
abbrev pub HasOtherJobs : VmState → VmState → Type 0
HasOtherJobs old new = new ≡ record old { space = record old.space { buffers = new.space.buffers }; jobs = new.jobs }
