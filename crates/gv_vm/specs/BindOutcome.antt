-- The outcome of a request that was carried out: an entry of the journal, or a refusal that changed nothing.
use Rattle.std.specs.Prelude.{◌≡◌, ℕ, ◌+◌, List, map, Vec, None}
use Rattle.std.specs.Global.{Global}
use Rattle.gv_types.specs.declared.fault.Fault.{Fault}
use Rattle.gv_types.specs.declared.request.Request.{Request}
use Rattle.gv_sync.specs.Sights.{Sight}
use Rattle.gv_space.specs.State.{SpaceState}
use Rattle.gv_journal.specs.Items.{JournalState, next}
use Rattle.gv_journal.specs.History.{back}
use Rattle.gv_journal.specs.Verdict.{verdict, IsRefused, refusal}
use Rattle.gv_journal.specs.Binding.{IsBound, IsApplied}
use Rattle.gv_vm.specs.State.{VmState}
use Rattle.gv_vm.specs.Outcomes.{with_outcome}
use Rattle.gv_vm.specs.declared.outcome.Outcome.{Outcome}
use Rattle.gv_vm.specs.declared.outcome.Outcome.TheVariants.{Accepted, Refused, NotReady}

-- The request has no fault and becomes this entry of the journal. The list is edited by all its operations in order. Undoing
-- the entry gives the list from before.
pub record IsAccepted (s t : SpaceState) (old new : JournalState) (queue number : ℕ) (request : Request) (seen : List ℕ) (entry : ℕ) : Type 0 where
  pub allowed : verdict s old request.ops.items ≡ None
  pub entry_is : entry ≡ next old
  pub saw : Vec ℕ Global
  pub saw_is : saw.items ≡ seen
  pub item : IsBound s old new queue number request saw
  pub space : IsApplied s t request
  pub room : t.room ≡ s.room
  pub rewinds : (n : ℕ) → back t.mappings new.items (n + 1) ≡ back s.mappings old.items n

-- The request is refused by its verdict or is out of memory, and nothing changed.
pub record IsRefusedWhole (s t : SpaceState) (old new : JournalState) (request : Request) (op : ℕ) (fault : Fault) : Type 0 where
  pub refused : IsRefused s old request.ops.items (refusal op fault)
  pub space : t ≡ s
  pub journal : new ≡ old

-- the outcome of a request that was carried out; one that is not ready is given up instead
abbrev pub CameTo : SpaceState → SpaceState → JournalState → JournalState → ℕ → ℕ → Request → List ℕ → Outcome → Type 0
CameTo s t old new queue number request seen (Accepted entry) = IsAccepted s t old new queue number request seen entry
CameTo s t old new queue number request seen (Refused op fault) = IsRefusedWhole s t old new request op fault
CameTo s t old new queue number request seen (NotReady point have) = ⊥

-- A request was carried out, and its queue has the outcome at the next number. No job begins or ends.
pub record IsBoundAndTold (old new : VmState) (queue number : ℕ) (request : Request) (seen : List ℕ) (outcome : Outcome) : Type 0 where
  pub came : CameTo old.space new.space old.journal new.journal queue number request seen outcome
  pub jobs : new.jobs ≡ old.jobs
  pub told : new.told ≡ with_outcome old.told queue outcome
  pub forgotten : new.forgotten ≡ old.forgotten

-- the numbers that the looks found
abbrev pub seen_by : List Sight → List ℕ
seen_by sights = map (λ s. s.number) sights
