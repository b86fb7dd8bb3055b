-- The statuses that calls answer.
use Rattle.std.specs.Prelude.{ℕ, Option, Some, None, Result, Ok, Err}
use Rattle.gv_types.specs.Fault.{number_of}
use Rattle.gv_types.specs.declared.fault.OutOfMemory.{OutOfMemory as WantOfMemory}
use Rattle.gv_vm.specs.declared.event.Reply.{Reply}
use Rattle.gv_vm.specs.declared.event.Reply.TheVariants.{Idle, NotPut, Refused}
use Rattle.gv_vm.specs.declared.outcome.Outcome.{Outcome}
use Rattle.gv_vm.specs.declared.outcome.Outcome.TheVariants.{Accepted, NotReady, Refused as RefusedAt}
use Rattle.gv_vm.specs.declared.world.turn.TurnResult.{TurnResult}
use Rattle.gv_vm.specs.declared.world.turn.TurnResult.TheVariants.{Told, Waits, Idle as NothingToDo}

-- those that are no fault's number
abbrev pub ok : ℕ
ok = 0

abbrev pub out_of_memory : ℕ
out_of_memory = 33

abbrev pub bad_argument : ℕ
bad_argument = 64

abbrev pub no_vm : ℕ
no_vm = 65

abbrev pub not_null : ℕ
not_null = 66

abbrev pub idle : ℕ
idle = 67

abbrev pub not_ready : ℕ
not_ready = 68

-- the answer to an event, if there is a world
abbrev pub Answer : Type 0
Answer = Option (Result Reply WantOfMemory)

abbrev pub reply_status : Reply → ℕ
reply_status Idle = bad_argument
reply_status (NotPut fault request) = number_of fault
reply_status (Refused fault) = number_of fault
reply_status reply = ok

abbrev pub status_of : Answer → ℕ
status_of None = no_vm
status_of (Some (Err want)) = out_of_memory
status_of (Some (Ok reply)) = reply_status reply

abbrev pub outcome_status : Outcome → ℕ
outcome_status (Accepted entry) = ok
outcome_status (RefusedAt op fault) = number_of fault
outcome_status (NotReady point have) = not_ready

abbrev pub turn_status : Result TurnResult WantOfMemory → ℕ
turn_status (Ok (Told number outcome)) = outcome_status outcome
turn_status (Ok (Waits point have)) = not_ready
turn_status (Ok NothingToDo) = idle
turn_status (Err want) = out_of_memory
