-- What a request has done so far. No public clause cites this module.
use Rattle.std.specs.Prelude.{◌≡◌, ℕ, ◌+◌, ◌<◌, ◌≤◌, List, reverse, length, vec_len, vec_capacity, Some, None, ◌⊎◌}
use Rattle.gv_types.specs.declared.fault.Fault.{Fault}
use Rattle.gv_types.specs.declared.fault.Fault.TheVariants.{TooManyMappings, OutOfMemory}
use Rattle.gv_types.specs.declared.mapping.BufferId.{BufferId}
use Rattle.gv_types.specs.declared.operation.Op.{Op}
use Rattle.gv_types.specs.declared.operation.Op.TheVariants.{UnmapBuffer}
use Rattle.gv_space.specs.State.{SpaceState}
use Rattle.gv_journal.specs.Applying.{AreApplied}
use Rattle.gv_journal.specs.Verdict.{request_op_fault, verdict_from, ComesBefore}
use Rattle.gv_journal.specs.declared.applying.Work.{Work}
use Rattle.gv_journal.specs.declared.refusal.Refusal.{Refusal}

-- there is room for so many operations more
pub record HasRoom (more : ℕ) (w : Work) : Type 0 where
  pub ops : vec_len w.ops + more ≤ vec_capacity w.ops
  pub undos : vec_len w.undos + more ≤ vec_capacity w.undos

-- what was applied since any earlier state, and what came now, is applied since then
abbrev pub Continues : SpaceState → SpaceState → Work → Work → Type 0
Continues old new before after =
    (origin : SpaceState) → AreApplied origin old (reverse before.ops.items) (reverse before.undos.items)
    → AreApplied origin new (reverse after.ops.items) (reverse after.undos.items)

-- an unmap of a whole buffer
pub record IsUnmapAll (op : Op) : Type 0 where
  pub buffer : BufferId
  pub is : op ≡ UnmapBuffer buffer

-- An operation is refused by its fault, or for want of memory, which comes before the limits in an unmap of a whole buffer.
abbrev pub IsOpRefused : SpaceState → Op → Fault → Type 0
IsOpRefused s op fault =
    (request_op_fault s op ≡ Some fault)
    ⊎ ((fault ≡ OutOfMemory) × ((request_op_fault s op ≡ None) ⊎ (IsUnmapAll op × (request_op_fault s op ≡ Some TooManyMappings))))

-- a request of which the first operation has this number is refused by its verdict, or for want of memory at an operation
abbrev pub IsRefusedInTurn : SpaceState → List Op → Refusal → Type 0
IsRefusedInTurn s ops refused =
    (verdict_from 0 s ops ≡ Some refused)
    ⊎ ((refused.fault ≡ OutOfMemory)
    × (((refused.op ≡ 0) ⊎ (refused.op < length ops)) × ComesBefore refused.op ops (verdict_from 0 s ops)))
