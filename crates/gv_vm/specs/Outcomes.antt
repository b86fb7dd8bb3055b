-- What the queues were told.
use Rattle.std.specs.Prelude.{ℕ, ◌^◌, ◌==◌, if◌then◌else◌, nat_le, List, [], ◌∷◌, ◌++◌, length, slice_index_or, slice_set, Option, Some, None}
use Rattle.gv_types.specs.declared.fault.Fault.{Fault}
use Rattle.gv_types.specs.declared.fault.Fault.TheVariants.{OutOfMemory, OutOfTurn, QueueSpent}
use Rattle.gv_vm.specs.declared.outcome.Outcome.{Outcome}
use Rattle.gv_vm.specs.declared.outcome.Outcome.TheVariants.{Refused}

-- so many queues there are
abbrev pub queues : ℕ
queues = 16

-- an outcome that was forgotten is seen as this one
abbrev pub forgotten_outcome : Outcome
forgotten_outcome = Refused 0 OutOfMemory

-- so many outcomes a queue is told in its life
abbrev pub lifetime_told : ℕ
lifetime_told = 2 ^ 63

-- what a queue was told, the first outcome first: an outcome's number is its place
abbrev pub told_to : List (List Outcome) → ℕ → List Outcome
told_to told queue = slice_index_or told queue []

-- what the queues were told, with one outcome more for one of them
abbrev pub with_outcome : List (List Outcome) → ℕ → Outcome → List (List Outcome)
with_outcome told queue outcome = slice_set told queue (told_to told queue ++ outcome ∷ [])

-- why a queue isn't told an outcome with this number, where it may be told so many
abbrev pub tell_fault : ℕ → List (List Outcome) → ℕ → ℕ → Option Fault
tell_fault limit told queue number =
    if nat_le limit (length (told_to told queue)) then Some QueueSpent
    else if number == length (told_to told queue) then None
    else Some (OutOfTurn (length (told_to told queue)))
