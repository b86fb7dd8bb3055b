-- Requests and jobs that C asks for.
use Rattle.std.specs.Prelude.{◌≡◌, ℕ, ◌+◌, ◌<◌, ◌⊎◌, ◌==◌, ◌&&◌, nat_lt, nat_le, if◌then◌else◌, List, map, length, Option, Some, None, Result, Ok, Err, Vec}
use Rattle.std.specs.Option.{option_map}
use Rattle.std.specs.declared.alloc.Global.{Global}
use Rattle.gv_types.specs.Fault.{number_of}
use Rattle.gv_types.specs.declared.fault.OutOfMemory.{OutOfMemory as WantOfMemory}
use Rattle.gv_types.specs.declared.request.Request.{Request}
use Rattle.gv_buffers.specs.declared.usage.Usage.{Usage}
use Rattle.gv_buffers.specs.declared.usage.Usage.TheVariants.{Read, Write}
use Rattle.gv_vm.specs.QueueTurns.{IsTurn, IsServedUpTo, either}
use Rattle.gv_vm.specs.Step.{IsStep}
use Rattle.gv_vm.specs.World.{WorldState, next_number}
use Rattle.gv_vm.specs.declared.event.Event.TheVariants.{Put as ToPut, JobBegin}
use Rattle.gv_vm.specs.declared.event.Reply.{Reply}
use Rattle.gv_vm.specs.declared.event.Reply.TheVariants.{Put as IsPut, NotPut}
use Rattle.gv_vm.specs.declared.jobs.Access.{Access}
use Rattle.gv_vm.specs.declared.world.turn.TurnResult.{TurnResult}
use Rattle.gv_c.specs.Calls.{Answers, number_in, turned}
use Rattle.gv_c.specs.Statuses.{ok, out_of_memory, bad_argument, no_vm, status_of, turn_status}
use Rattle.gv_c.specs.Values.{no_outcome, all_of, ops_of, point_of}
use Rattle.gv_c.specs.declared.held.Held.{Held}
use Rattle.gv_c.specs.declared.outcome.RequestOutcome.{RequestOutcome}
use Rattle.gv_c.specs.declared.values.BindRequest.{BindRequest}
use Rattle.gv_c.specs.declared.values.JobAccess.{JobAccess}

-- the request that a structure asks for
pub record IsRequestOf (c : BindRequest) (request : Request) : Type 0 where
  pub ops : ops_of c.ops.now ≡ Some request.ops.items
  pub waits : request.waits.items ≡ map point_of c.waits.now
  pub signals : request.signals.items ≡ map point_of c.signals.now

-- it is read, or an operation of it is none, or memory was refused for what there is to read
abbrev pub IsRead : BindRequest → Result Request ℕ → Type 0
IsRead c (Ok request) = IsRequestOf c request
IsRead c (Err status) =
    ((status ≡ bad_argument) × (ops_of c.ops.now ≡ None))
    ⊎ ((status ≡ out_of_memory) × (0 < length c.ops.now + length c.waits.now + length c.signals.now))

-- why a request is not put; a queue or a timeline that there is not is an argument that is none
abbrev pub put_status : Reply → ℕ
put_status (NotPut fault request) = number_of fault
put_status reply = bad_argument

abbrev pub put_result : Result Reply WantOfMemory → Result ℕ ℕ
put_result (Ok (IsPut number)) = Ok number
put_result (Ok reply) = Err (put_status reply)
put_result (Err want) = Err out_of_memory

abbrev pub IsPutBy : ℕ → Result Request ℕ → WorldState → Result ℕ ℕ → WorldState → Type 0
IsPutBy queue (Err status) old result new = (result ≡ Err status) × (new ≡ old)
IsPutBy queue (Ok request) old result new =
    (answer : Result Reply WantOfMemory) × IsStep old (ToPut queue request) answer new × (result ≡ put_result answer)

-- a request is put on its queue: its number there, or the status of why it isn't
abbrev pub IsPutOf : BindRequest → WorldState → Result ℕ ℕ → WorldState → Type 0
IsPutOf c old result new = (read : Result Request ℕ) × IsRead c read × IsPutBy c.queue read old result new

abbrev pub status_put : Result ℕ ℕ → ℕ
status_put (Ok number) = ok
status_put (Err status) = status

abbrev pub number_put : Result ℕ ℕ → ℕ
number_put (Ok number) = number
number_put (Err status) = 0

abbrev pub IsSubmitted : BindRequest → Option Held → ℕ → ℕ → Option Held → Type 0
IsSubmitted c None status number new = (status ≡ no_vm) × (number ≡ 0) × (new ≡ None)
IsSubmitted c (Some old) status number None = ⊥
IsSubmitted c (Some old) status number (Some new) =
    (put : Result ℕ ℕ) × IsPutOf c old.world put new.world × (status ≡ status_put put) × (number ≡ number_put put)

-- the queue is served up to a request that was put
abbrev pub IsServedAfter : ℕ → Result ℕ ℕ → WorldState → ℕ → RequestOutcome → WorldState → Type 0
IsServedAfter queue (Err why) old status outcome new = (status ≡ why) × (outcome ≡ no_outcome) × (new ≡ old)
IsServedAfter queue (Ok number) old status outcome new =
    (turn : Result TurnResult WantOfMemory) × IsServedUpTo queue number old turn new × (status ≡ turn_status turn) × (outcome ≡ turned number turn)

abbrev pub IsBound : BindRequest → Option Held → ℕ → RequestOutcome → Option Held → Type 0
IsBound c None status outcome new = (status ≡ no_vm) × (outcome ≡ no_outcome) × (new ≡ None)
IsBound c (Some old) status outcome None = ⊥
IsBound c (Some old) status outcome (Some new) =
    (put : Result ℕ ℕ) × (mid : WorldState) × IsPutOf c old.world put mid × IsServedAfter c.queue put mid status outcome new.world

-- one turn of a queue; flag 1 gives up
abbrev pub IsServed : ℕ → ℕ → Option Held → ℕ → RequestOutcome → Option Held → Type 0
IsServed queue flags None status outcome new = (status ≡ no_vm) × (outcome ≡ no_outcome) × (new ≡ None)
IsServed queue flags (Some old) status outcome None = ⊥
IsServed queue flags (Some old) status outcome (Some new) =
    either (nat_lt queue (length old.world.queues) && nat_le flags 1)
    ((turn : Result TurnResult WantOfMemory) × IsTurn (flags == 1) queue old.world turn new.world
    × (status ≡ turn_status turn) × (outcome ≡ turned (next_number old.world queue) turn))
    ((status ≡ bad_argument) × (outcome ≡ no_outcome) × (new ≡ old))

-- Jobs.

abbrev pub usage_of : ℕ → Option Usage
usage_of usage = if usage == 0 then Some Read else if usage == 1 then Some Write else None

abbrev pub access_of : JobAccess → Option Access
access_of a = option_map (λ usage. record { addr = a.address; usage = usage }) (usage_of a.usage)

-- each is an access
abbrev pub accesses_of : List JobAccess → Option (List Access)
accesses_of accesses = all_of access_of accesses

-- the accesses are read, or one of them is none, or memory was refused for what there is to read
abbrev pub AreRead : List JobAccess → Result (Vec Access Global) ℕ → Type 0
AreRead given (Ok list) = accesses_of given ≡ Some list.items
AreRead given (Err status) =
    ((status ≡ bad_argument) × (accesses_of given ≡ None)) ⊎ ((status ≡ out_of_memory) × (0 < length given))

abbrev pub IsJobOf : Result (Vec Access Global) ℕ → Option Held → ℕ → ℕ → Option Held → Type 0
IsJobOf (Err why) old status number new = (status ≡ why) × (number ≡ 0) × (new ≡ old)
IsJobOf (Ok list) old status number new =
    Answers old (JobBegin list) new (λ reply. (status ≡ status_of reply) × (number ≡ number_in reply))

abbrev pub IsJobBegun : List JobAccess → Option Held → ℕ → ℕ → Option Held → Type 0
IsJobBegun given None status number new = (status ≡ no_vm) × (number ≡ 0) × (new ≡ None)
IsJobBegun given (Some old) status number new =
    (read : Result (Vec Access Global) ℕ) × AreRead given read × IsJobOf read (Some old) status number new
