-- What the replies of the world say in a script.
use Rattle.std.specs.Prelude.{ℕ, Bool, true, false, codes, List, [], ◌∷◌, drop, Option, Some, None}
use Rattle.std.specs.Option.{option_zip}
use Rattle.gv_types.specs.Operation.{in_pages}
use Rattle.gv_types.specs.declared.fault.Fault.{Fault}
use Rattle.gv_types.specs.declared.fault.Fault.TheVariants.{NoBuffer, OutOfMemory}
use Rattle.gv_types.specs.declared.operation.Op.{Op}
use Rattle.gv_buffers.specs.Buffers.{BuffersState, uses, kept}
use Rattle.gv_types.specs.declared.mapping.BufferId.{BufferId}
use Rattle.gv_split.specs.Steps.{steps}
use Rattle.gv_space.specs.State.{SpaceState}
use Rattle.gv_space.specs.Refusal.{operation_fault}
use Rattle.gv_vm.specs.Outcomes.{told_to}
use Rattle.gv_vm.specs.State.{VmState, forgotten_of}
use Rattle.gv_vm.specs.declared.event.Reply.{Reply}
use Rattle.gv_vm.specs.declared.event.Reply.TheVariants.{NotPut, Told, Raised, Created, Destroyed, Rewound, Withdrawn, Settled, Forgot, Trimmed, Begun, Ended, Refused}
use Rattle.gv_vm.specs.declared.outcome.Outcome.{Outcome}
use Rattle.gv_vm.specs.declared.outcome.Outcome.TheVariants.{Refused as RefusedAt}
use Rattle.gv_session.specs.Texts.{reply as reply_line, ok_reply, trimmed_reply, refused_reply, outcome_text, number_reply, counted_reply, withdrawn_reply, begun_reply, told_reply, uses_reply, lines_reply, step_text}

-- what is written for the reply to a call
abbrev pub said : List (List ℕ) → List (List ℕ) → Reply → List ℕ
said names timelines (Raised point now) = number_reply timelines point.timeline now
said names timelines (Created id) = ok_reply
said names timelines Destroyed = ok_reply
said names timelines (Rewound item) = counted_reply (codes "rewound ") item
said names timelines (Settled count) = counted_reply (codes "settled ") count
said names timelines (Forgot count) = counted_reply (codes "forgot ") count
said names timelines Trimmed = trimmed_reply
said names timelines (Begun job places) = begun_reply names job places.items
said names timelines (Ended job) = counted_reply (codes "ended ") job
said names timelines (Refused fault) = refused_reply fault
said names timelines reply = []

-- what is written for the reply to a withdrawal of an entry
abbrev pub said_of_withdrawal : ℕ → Reply → List ℕ
said_of_withdrawal entry (Withdrawn item) = withdrawn_reply entry item
said_of_withdrawal entry (Refused fault) = refused_reply fault
said_of_withdrawal entry reply = []

-- of a request only what it is told is written, or why it is not put
abbrev pub told : List (List ℕ) → Reply → List ℕ
told timelines (NotPut fault back) = refused_reply fault
told timelines (Told number outcome) = reply_line (outcome_text timelines outcome ∷ [])
told timelines reply = []

abbrev pub is_out_of_memory : Fault → Bool
is_out_of_memory OutOfMemory = true
is_out_of_memory fault = false

-- an outcome is out of memory
abbrev pub outcome_out_of_memory : Outcome → Bool
outcome_out_of_memory (RefusedAt op fault) = is_out_of_memory fault
outcome_out_of_memory outcome = false

-- a reply says that memory was refused to a request
abbrev pub reply_out_of_memory : Reply → Bool
reply_out_of_memory (Told number outcome) = outcome_out_of_memory outcome
reply_out_of_memory reply = false

-- the outcomes of a queue that aren't forgotten, with their numbers
abbrev pub told_said : List (List ℕ) → VmState → ℕ → List ℕ
told_said timelines v queue = told_reply timelines (forgotten_of v queue) (drop (forgotten_of v queue) (told_to v.told queue))

abbrev pub counts_reply : Option (ℕ × ℕ) → List ℕ
counts_reply None = refused_reply NoBuffer
counts_reply (Some counts) = uses_reply counts.0 counts.1

-- how many mappings of a buffer there are, unless it is destroyed
abbrev pub uses_said : BuffersState → BufferId → List ℕ
uses_said t id = counts_reply (option_zip (uses t id) (kept t id))

abbrev pub plan_reply : List (List ℕ) → SpaceState → Op → Option Fault → List ℕ
plan_reply names s op (Some fault) = refused_reply fault
plan_reply names s op None = lines_reply (step_text names) (steps s.mappings (in_pages op))

-- the split steps of an operation, or why it would be refused
abbrev pub plan_said : List (List ℕ) → SpaceState → Op → List ℕ
plan_said names s op = plan_reply names s op (operation_fault s op)
