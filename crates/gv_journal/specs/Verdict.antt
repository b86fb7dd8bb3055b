-- Whether a request is accepted: the operation that it is refused at, and why.
use Rattle.std.specs.Prelude.{◌≡◌, ℕ, ◌+◌, ◌^◌, ◌<◌, ◌||◌, nat_lt, nat_le, if◌then◌else◌, List, [], ◌∷◌, length, reverse, slice_get, Option, Some, None}
use Rattle.std.specs.Prelude.{◌⊎◌}
use Rattle.gv_types.specs.Operation.{range_of}
use Rattle.gv_types.specs.declared.fault.Fault.{Fault}
use Rattle.gv_types.specs.declared.fault.Fault.TheVariants.{TooManyOps, JournalFull, TooManyMappings, OutOfMemory}
use Rattle.gv_types.specs.declared.mapping.BufferId.{BufferId}
use Rattle.gv_types.specs.declared.operation.Op.{Op}
use Rattle.gv_types.specs.declared.operation.Op.TheVariants.{UnmapBuffer}
use Rattle.gv_types.specs.declared.operation.PageOp.{PageOp}
use Rattle.gv_ranges.specs.Edit.{edited}
use Rattle.gv_space.specs.State.{SpaceState}
use Rattle.gv_space.specs.Refusal.{first_of, operation_fault, limit_fault}
use Rattle.gv_journal.specs.Items.{JournalState, next}
use Rattle.gv_journal.specs.Applying.{after_op, after_all, does}
use Rattle.gv_journal.specs.declared.refusal.Refusal.{Refusal}

-- a request has no more operations
abbrev pub most_ops : ℕ
most_ops = 256

-- items have numbers below this
abbrev pub numbers : ℕ
numbers = 2 ^ 63

-- no more items are held, or no number is left
abbrev pub full_fault : JournalState → Option Fault
full_fault j = if nat_le j.limit (length j.items) || nat_le numbers (next j) then Some JournalFull else None

-- the first limit that operations pass in turn, the first operation first
abbrev pub limits_fault : SpaceState → List PageOp → Option Fault
limits_fault s [] = None
limits_fault s (op ∷ ops) = first_of (limit_fault s (range_of op) (edited s.mappings op)) (limits_fault (after_op s op) ops)

-- the first fault of an operation of a request: its own, then the limits at what it does
abbrev pub request_op_fault : SpaceState → Op → Option Fault
request_op_fault s op = first_of (operation_fault s op) (limits_fault s (does s.mappings op))

abbrev pub refusal : ℕ → Fault → Refusal
refusal op fault = record { op = op; fault = fault }

abbrev pub refused_or : ℕ → Option Fault → Option Refusal → Option Refusal
refused_or op (Some fault) later = Some (refusal op fault)
refused_or op None later = later

-- the first operation with a fault, counted from `from`, each met with the space after those before it
abbrev pub verdict_from : ℕ → SpaceState → List Op → Option Refusal
verdict_from from s [] = None
verdict_from from s (op ∷ ops) =
    refused_or from (request_op_fault s op) (verdict_from (from + 1) (after_all (reverse (does s.mappings op)) s) ops)

-- why a request is refused before its operations
abbrev pub request_fault : JournalState → List Op → Option Fault
request_fault j ops = if nat_lt most_ops (length ops) then Some TooManyOps else full_fault j

-- the verdict on a request, where memory suffices
abbrev pub verdict : SpaceState → JournalState → List Op → Option Refusal
verdict s j ops = refused_or 0 (request_fault j ops) (verdict_from 0 s ops)

-- the operation at an index is an unmap of a whole buffer
pub record IsUnmapAllAt (ops : List Op) (op : ℕ) : Type 0 where
  pub buffer : BufferId
  pub is : slice_get ops op ≡ Some (UnmapBuffer buffer)

-- Want of memory at an operation comes before a later operation's fault; at the first one also before its own, and inside
-- an unmap of a whole buffer before its limits.
abbrev pub ComesBefore : ℕ → List Op → Option Refusal → Type 0
ComesBefore op ops None = Unit {0}
ComesBefore op ops (Some later) = (op < later.op) ⊎ ((op ≡ 0) ⊎ (IsUnmapAllAt ops op × (later ≡ refusal op TooManyMappings)))

-- want of memory at an operation, or at the first one for the item's own room: never before what refuses the whole request
pub record IsWantOfMemory (s : SpaceState) (j : JournalState) (ops : List Op) (refused : Refusal) : Type 0 where
  pub fault : refused.fault ≡ OutOfMemory
  pub whole : request_fault j ops ≡ None
  pub there : (refused.op ≡ 0) ⊎ (refused.op < length ops)
  pub before : ComesBefore refused.op ops (verdict_from 0 s ops)

-- a request is refused by its verdict, or for want of memory
abbrev pub IsRefused : SpaceState → JournalState → List Op → Refusal → Type 0
IsRefused s j ops refused = (verdict s j ops ≡ Some refused) ⊎ IsWantOfMemory s j ops refused
