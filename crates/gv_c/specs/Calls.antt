-- What calls on a handle do to the world that is there, and what they answer.
use Rattle.std.specs.Prelude.{◌≡◌, ℕ, Option, Some, None, unwrap_or, Result, Ok, Err}
use Rattle.gv_types.specs.Fault.{carried_by}
use Rattle.gv_types.specs.declared.fault.OutOfMemory.{OutOfMemory as WantOfMemory}
use Rattle.gv_vm.specs.Step.{IsStep}
use Rattle.gv_vm.specs.declared.event.Event.{Event}
use Rattle.gv_vm.specs.declared.event.Reply.{Reply}
use Rattle.gv_vm.specs.declared.event.Reply.TheVariants.{Created, Put, Rewound, Withdrawn, Settled, Forgot, Raised, Begun, Refused}
use Rattle.gv_vm.specs.declared.world.turn.TurnResult.{TurnResult}
use Rattle.gv_vm.specs.declared.world.turn.TurnResult.TheVariants.{Told, Waits, Idle}
use Rattle.gv_c.specs.Statuses.{Answer}
use Rattle.gv_c.specs.Values.{c_buffer, no_buffer, c_outcome, no_outcome, pending, c_point}
use Rattle.gv_c.specs.declared.held.Held.{Held}
use Rattle.gv_c.specs.declared.outcome.RequestOutcome.{RequestOutcome}
use Rattle.gv_c.specs.declared.values.Buffer.{Buffer}

-- the handle was empty and is, or its world took one step by the event with that reply
abbrev pub Steps : Option Held → Event → Answer → Option Held → Type 0
Steps None event None new = new ≡ None
Steps (Some old) event (Some reply) (Some new) = IsStep old.world event reply new.world
Steps _ event _ _ = ⊥

-- it took one step by the event, and of the reply holds what is said
abbrev pub Answers : Option Held → Event → Option Held → (Answer → Type 0) → Type 0
Answers old event new says = (reply : Answer) × Steps old event reply new × says reply

-- the buffer that was made, or none
abbrev pub made_in : Answer → Buffer
made_in (Some (Ok (Created id))) = c_buffer id
made_in reply = no_buffer

-- the number that a reply carries, or that of its fault, and else 0
abbrev pub number_said : Reply → ℕ
number_said (Rewound item) = item
number_said (Withdrawn item) = item
number_said (Settled count) = count
number_said (Forgot count) = count
number_said (Raised point now) = now
number_said (Begun job places) = job
number_said (Put number) = number
number_said (Refused fault) = unwrap_or (carried_by fault) 0
number_said reply = 0

abbrev pub number_in : Answer → ℕ
number_in (Some (Ok reply)) = number_said reply
number_in answer = 0

-- what a turn came to, where the request that it is asked for has this number
abbrev pub turned : ℕ → Result TurnResult WantOfMemory → RequestOutcome
turned number (Ok (Told told outcome)) = c_outcome told outcome
turned number (Ok (Waits point have)) = record (pending number) { point = c_point point; have = have }
turned number (Ok Idle) = no_outcome
turned number (Err want) = pending number
