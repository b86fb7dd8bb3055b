-- Lists that are written over what the caller has room for.
use Rattle.std.specs.Prelude.{◌≡◌, ℕ, ◌+◌, ◌<◌, ◌⊎◌, ◌&&◌, nat_lt, max, min, List, [], ◌∷◌, map, drop, length, Option, Some, None}
use Rattle.gv_types.specs.Operation.{in_pages}
use Rattle.gv_types.specs.declared.fault.Fault.{Fault}
use Rattle.gv_types.specs.declared.operation.Op.{Op}
use Rattle.gv_types.specs.Fault.{number_of}
use Rattle.gv_split.specs.Steps.{steps}
use Rattle.gv_space.specs.Refusal.{operation_fault}
use Rattle.gv_vm.specs.Outcomes.{told_to, queues}
use Rattle.gv_vm.specs.State.{forgotten_of}
use Rattle.gv_vm.specs.QueueTurns.{either}
use Rattle.gv_split.specs.declared.step.Step.{Step}
use Rattle.gv_space.specs.State.{SpaceState}
use Rattle.gv_vm.specs.declared.outcome.Outcome.{Outcome}
use Rattle.gv_c.specs.Statuses.{ok, out_of_memory, bad_argument, no_vm}
use Rattle.gv_c.specs.Values.{c_outcome, c_mapping, c_step, op_of}
use Rattle.gv_c.specs.declared.space_values.ListedMapping.{ListedMapping}
use Rattle.gv_c.specs.declared.space_values.SplitStep.{SplitStep}
use Rattle.gv_c.specs.declared.held.Held.{Held}
use Rattle.gv_c.specs.declared.outcome.RequestOutcome.{RequestOutcome}
use Rattle.gv_c.specs.declared.values.Operation.{Operation}

-- a list with others written over it, as many as it has room for
abbrev pub written_over : {X : Type 0} → List X → List X → List X
written_over [] new = []
written_over old [] = old
written_over (o ∷ old) (n ∷ new) = n ∷ written_over old new

-- what a call writes of a list of so many things from one on: as many as there is room for, how many those are, and how many there are
pub record IsWritten {X : Type 0} (all : List X) (from : ℕ) (old new : List X) (count total : ℕ) : Type 0 where
  pub list : new ≡ written_over old (drop from all)
  pub written : count ≡ min (length old) (length (drop from all))
  pub in_all : total ≡ length all

-- or nothing
pub record IsNotWritten {X : Type 0} (old new : List X) (count total : ℕ) : Type 0 where
  pub list : new ≡ old
  pub written : count ≡ 0
  pub in_all : total ≡ 0

-- outcomes with their numbers
abbrev pub numbered : ℕ → List Outcome → List RequestOutcome
numbered number [] = []
numbered number (outcome ∷ outcomes) = c_outcome number outcome ∷ numbered (number + 1) outcomes

-- what a queue was told, from a number on, but for what is forgotten; no world has more queues than there may be
abbrev pub IsTold : Option Held → ℕ → ℕ → List RequestOutcome → ℕ → List RequestOutcome → ℕ → ℕ → Type 0
IsTold None queue from old status new count total = (status ≡ no_vm) × IsNotWritten old new count total
IsTold (Some held) queue from old status new count total =
    either (nat_lt queue (length held.world.queues) && nat_lt queue queues)
    ((status ≡ ok) × IsWritten (numbered 0 (told_to held.world.vm.told queue)) (max (forgotten_of held.world.vm queue) from) old new count total)
    ((status ≡ bad_argument) × IsNotWritten old new count total)

-- the list of mappings
abbrev pub AreListed : Option Held → ℕ → List ListedMapping → ℕ → List ListedMapping → ℕ → ℕ → Type 0
AreListed None from old status new count total = (status ≡ no_vm) × IsNotWritten old new count total
AreListed (Some held) from old status new count total =
    (status ≡ ok) × IsWritten (map c_mapping held.world.vm.space.mappings) from old new count total

-- the steps of an operation are written, or memory was refused for them
abbrev pub AreSteps : List Step → List SplitStep → ℕ → List SplitStep → ℕ → ℕ → Type 0
AreSteps steps old status new count total =
    ((status ≡ ok) × IsWritten (map c_step steps) 0 old new count total)
    ⊎ ((status ≡ out_of_memory) × (0 < length steps) × IsNotWritten old new count total)

-- or the operation has a fault, where memory suffices
abbrev pub ArePlanned : SpaceState → Op → Option Fault → List SplitStep → ℕ → List SplitStep → ℕ → ℕ → Type 0
ArePlanned s op None old status new count total = AreSteps (steps s.mappings (in_pages op)) old status new count total
ArePlanned s op (Some fault) old status new count total = (status ≡ number_of fault) × IsNotWritten old new count total

abbrev pub IsPlannedIn : SpaceState → Option Op → List SplitStep → ℕ → List SplitStep → ℕ → ℕ → Type 0
IsPlannedIn s None old status new count total = (status ≡ bad_argument) × IsNotWritten old new count total
IsPlannedIn s (Some op) old status new count total = ArePlanned s op (operation_fault s op) old status new count total

abbrev pub IsPlanned : Option Held → Operation → List SplitStep → ℕ → List SplitStep → ℕ → ℕ → Type 0
IsPlanned None operation old status new count total = (status ≡ no_vm) × IsNotWritten old new count total
IsPlanned (Some held) operation old status new count total =
    IsPlannedIn held.world.vm.space (op_of operation) old status new count total
