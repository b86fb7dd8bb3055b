-- A turn of a queue: its signals are paid, and then the request in hand, or else the first that waits, is carried out as far as
-- its waits allow.
use Rattle.std.specs.Prelude.{◌≡◌, ℕ, zero, suc, Bool, true, false, ◌-◌, ◌==◌, nat_lt, if◌then◌else◌, List, [], ◌∷◌, length, drop, Option, Some, None, Result, Ok, Err}
use Rattle.gv_types.specs.declared.fault.OutOfMemory.{OutOfMemory as WantOfMemory}
use Rattle.gv_types.specs.declared.request.Request.{Request}
use Rattle.gv_vm.specs.Plans.{Plan, nothing, paying, looks, taking, IsCarriedOut, IsStopped}
use Rattle.gv_vm.specs.World.{WorldState, HandState, QueueState, queue_at, next_number}
use Rattle.gv_vm.specs.declared.event.Reply.{Reply}
use Rattle.gv_vm.specs.declared.event.Reply.TheVariants.{Told, Lacking}
use Rattle.gv_vm.specs.declared.world.turn.TurnResult.{TurnResult}
use Rattle.gv_vm.specs.declared.world.turn.TurnResult.TheVariants.{Told as IsTold, Waits, Idle}

-- a queue has nothing before it: no request waits or is in hand, and no signal is owed
pub record IsQuiet (w : WorldState) (queue : ℕ) : Type 0 where
  pub waiting : (queue_at w queue).waiting ≡ []
  pub hand : (queue_at w queue).hand ≡ None
  pub owed : (queue_at w queue).owed ≡ []

-- the request in hand looks at the waits that are left; where none is in hand, the first that waits is taken
abbrev pub going_on : Bool → ℕ → Option HandState → List Request → Plan
going_on gives_up queue (Some h) waiting = looks gives_up queue (drop (length h.reached) h.request.waits.items) h.request.signals.items
going_on gives_up queue None (request ∷ later) = taking gives_up queue request
going_on gives_up queue None [] = nothing

-- what a queue in this state asks of its world in a turn
abbrev pub turning : Bool → ℕ → QueueState → Plan
turning gives_up queue q = paying queue q.owed (going_on gives_up queue q.hand q.waiting)

-- what a turn came to: what was told, else the last wait if that lacks
abbrev pub turn_of : List Reply → TurnResult
turn_of [] = Idle
turn_of (Told number outcome ∷ replies) = IsTold number outcome
turn_of (Lacking point have ∷ []) = Waits point have
turn_of (reply ∷ replies) = turn_of replies

-- the queue took its turn, and it came to this
pub record TookTurn (gives_up : Bool) (queue : ℕ) (old : WorldState) (turn : TurnResult) (new : WorldState) : Type 0 where
  pub replies : List Reply
  pub carried_out : IsCarriedOut (turning gives_up queue (queue_at old queue)) old replies new
  pub came : turn ≡ turn_of replies

-- want of memory stopped it
pub record StoppedInTurn (gives_up : Bool) (queue : ℕ) (old new : WorldState) : Type 0 where
  pub replies : List Reply
  pub stopped : IsStopped (turning gives_up queue (queue_at old queue)) old replies new

-- a turn, or want of memory in it
abbrev pub IsTurn : Bool → ℕ → WorldState → Result TurnResult WantOfMemory → WorldState → Type 0
IsTurn gives_up queue old (Ok turn) new = TookTurn gives_up queue old turn new
IsTurn gives_up queue old (Err want) new = StoppedInTurn gives_up queue old new

-- an outcome of an earlier request was told
abbrev pub is_earlier : ℕ → Result TurnResult WantOfMemory → Bool
is_earlier number (Ok (IsTold told outcome)) = if told == number then false else true
is_earlier number result = false

-- the one where it is so, else the other
abbrev pub either : Bool → Type 0 → Type 0 → Type 0
either true this that = this
either false this that = that

-- a turn, and before it so many at most, each of which told an earlier request
abbrev pub AreTurns : ℕ → ℕ → ℕ → WorldState → Result TurnResult WantOfMemory → WorldState → Type 0
AreTurns zero queue number old result new = IsTurn false queue old result new
AreTurns (suc more) queue number old result new =
    (turn : Result TurnResult WantOfMemory) × (mid : WorldState) × IsTurn false queue old turn mid
    × either (is_earlier number turn) (AreTurns more queue number mid result new) ((result ≡ turn) × (new ≡ mid))

-- a queue was served up to the request with this number: a turn for each that was not told before
abbrev pub IsServedUpTo : ℕ → ℕ → WorldState → Result TurnResult WantOfMemory → WorldState → Type 0
IsServedUpTo queue number old result new =
    either (nat_lt number (next_number old queue)) ((result ≡ Ok Idle) × (new ≡ old))
    (AreTurns (number - next_number old queue) queue number old result new)
