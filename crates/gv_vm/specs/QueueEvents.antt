-- What the events of one queue do to it. No public clause cites this module.
use Rattle.std.specs.Prelude.{◌≡◌, ℕ, ◌<◌, List, [], ◌∷◌, ◌++◌, length, Option, Some, None, Result, Ok, Err, IsErr, ◌⊎◌, ◌≢◌}
use Rattle.gv_types.specs.declared.fault.Fault.TheVariants.{OutOfMemory}
use Rattle.gv_types.specs.declared.fault.OutOfMemory.{OutOfMemory as WantOfMemory}
use Rattle.gv_types.specs.declared.request.Point.{Point}
use Rattle.gv_types.specs.declared.request.Request.{Request}
use Rattle.gv_sync.specs.Sights.{Sight}
use Rattle.gv_vm.specs.Outcomes.{with_outcome}
use Rattle.gv_vm.specs.State.{VmState}
use Rattle.gv_vm.specs.World.{HandState, QueueState, taken, next_wait}
use Rattle.gv_vm.specs.declared.event.Reply.{Reply}
use Rattle.gv_vm.specs.declared.event.Reply.TheVariants.{Put as IsPut, NotPut}
use Rattle.gv_vm.specs.declared.outcome.NotTold.{NotTold}
use Rattle.gv_vm.specs.declared.outcome.Outcome.{Outcome}
use Rattle.gv_vm.specs.declared.outcome.Outcome.TheVariants.{NotReady}

-- a request waits, nothing is in hand and nothing is owed
pub record MayTake (q : QueueState) : Type 0 where
  pub waits : 0 < length q.waiting
  pub free : q.hand ≡ None
  pub paid : q.owed ≡ []

-- the front came in hand
pub record TookFront (old new : QueueState) : Type 0 where
  pub may : MayTake old
  pub request : Request
  pub later : List Request
  pub front : old.waiting ≡ request ∷ later
  pub state : new ≡ record old { waiting = later; hand = Some (taken request) }

abbrev pub wait_in : Option HandState → Option Point
wait_in None = None
wait_in (Some h) = next_wait h

-- the first wait, of the request in hand, that is not reached yet
abbrev pub wait_of : QueueState → Option Point
wait_of q = wait_in q.hand

-- one wait more was reached
abbrev pub hand_reached : Sight → Option HandState → Option HandState
hand_reached s None = None
hand_reached s (Some h) = Some (record h { reached = h.reached ++ s ∷ []; lacked = None })

abbrev pub with_reached : Sight → QueueState → QueueState
with_reached s q = record q { hand = hand_reached s q.hand }

-- the last look lacked
abbrev pub hand_lacked : Sight → Option HandState → Option HandState
hand_lacked s None = None
hand_lacked s (Some h) = Some (record h { lacked = Some s })

abbrev pub with_lacked : Sight → QueueState → QueueState
with_lacked s q = record q { hand = hand_lacked s q.hand }

-- a request is in hand, and each of its waits is reached
pub record IsReadyToBind (q : QueueState) : Type 0 where
  pub hand : HandState
  pub is : q.hand ≡ Some hand
  pub reached : next_wait hand ≡ None

-- a request is in hand, and its last look lacked
pub record IsLacking (q : QueueState) : Type 0 where
  pub hand : HandState
  pub is : q.hand ≡ Some hand
  pub saw : Sight
  pub lacked : hand.lacked ≡ Some saw

-- nothing is in hand any more
abbrev pub without_hand : QueueState → QueueState
without_hand q = record q { hand = None }

-- the first signal owed is paid
pub record PaidFirst (old : QueueState) (point : Point) (new : QueueState) : Type 0 where
  pub owed : old.owed ≡ point ∷ new.owed
  pub state : new ≡ record old { owed = new.owed }

-- A request in hand was given up: its queue was told what its last look saw.
pub record IsToldLacking (old new : VmState) (queue : ℕ) (hand : HandState) (outcome : Outcome) : Type 0 where
  pub saw : Sight
  pub lacked : hand.lacked ≡ Some saw
  pub outcome_is : outcome ≡ NotReady saw.point saw.number
  pub state : new ≡ record old { told = with_outcome old.told queue outcome }

-- a put is answered by its number, or by why it was not, or by want of memory
abbrev pub IsPutReply : Result ℕ NotTold → Result Reply WantOfMemory → Type 0
IsPutReply (Ok number) r = r ≡ Ok (IsPut number)
IsPutReply (Err n) r = (IsErr r × (n.fault ≡ OutOfMemory)) ⊎ ((r ≡ Ok (NotPut n.fault n.request)) × (n.fault ≢ OutOfMemory))
