-- The world: one machine, the numbers of its timelines, and its queues of requests.
use Rattle.std.specs.Prelude.{ℕ, if◌then◌else◌, nat_le, List, [], length, replicate, slice_get, slice_index, slice_index_or, slice_set, Option, Some, None}
use Rattle.gv_types.specs.Bounds.{BoundsState}
use Rattle.gv_types.specs.Limits.{LimitsState}
use Rattle.gv_types.specs.declared.fault.Fault.{Fault}
use Rattle.gv_types.specs.declared.fault.Fault.TheVariants.{QueueSpent, QueueFull}
use Rattle.gv_types.specs.declared.request.Point.{Point}
use Rattle.gv_types.specs.declared.request.Request.{Request}
use Rattle.gv_sync.specs.Sights.{Sight, sight}
use Rattle.gv_vm.specs.State.{VmState, new_vm}
use Rattle.gv_vm.specs.Outcomes.{told_to}

-- a request that was taken: its waits that were reached, in order, and its last look, if it lacked
pub record HandState : Type 0 where
  pub request : Request
  pub reached : List Sight
  pub lacked : Option Sight

-- a queue: how many requests were put, those that wait, the first one first, the one in hand, and the signals owed
pub record QueueState : Type 0 where
  pub put : ℕ
  pub waiting : List Request
  pub hand : Option HandState
  pub owed : List Point

-- The machine holds the buffers, the list of mappings, the items with the list before each of them, the running jobs and
-- what the queues were told. Each queue has so many places at most for requests that wait.
pub record WorldState : Type 0 where
  pub vm : VmState
  pub numbers : List ℕ
  pub depth : ℕ
  pub queues : List QueueState

abbrev pub new_queue : QueueState
new_queue = record { put = 0; waiting = []; hand = None; owed = [] }

abbrev pub new_world : BoundsState → LimitsState → ℕ → ℕ → ℕ → WorldState
new_world area limits queues depth timelines =
    record { vm = new_vm area limits; numbers = replicate timelines 0; depth = depth; queues = replicate queues new_queue }

-- why a request isn't put: the limit's requests were put, or so many wait as there are places
abbrev pub put_fault_of : ℕ → ℕ → QueueState → Option Fault
put_fault_of limit depth q =
    if nat_le limit q.put then Some QueueSpent
    else if nat_le depth (length q.waiting) then Some QueueFull
    else None

-- the queue with this number
abbrev pub queue_at : WorldState → ℕ → QueueState
queue_at w queue = slice_index_or w.queues queue new_queue

abbrev pub with_queue : WorldState → ℕ → QueueState → WorldState
with_queue w queue q = record w { queues = slice_set w.queues queue q }

abbrev pub taken : Request → HandState
taken request = record { request = request; reached = []; lacked = None }

-- the number that the next outcome of a queue has, which is that of its request in hand, or else of the first that waits
abbrev pub next_number : WorldState → ℕ → ℕ
next_number w queue = length (told_to w.vm.told queue)

-- the first wait that is not reached yet
abbrev pub next_wait : HandState → Option Point
next_wait h = slice_get h.request.waits.items (length h.reached)

-- what a look at a point sees
abbrev pub seen_at : WorldState → Point → Sight
seen_at w p = sight p (slice_index w.numbers p.timeline)
