-- The ends of queues.
use Rattle.std.specs.Prelude.{◌≡◌, ℕ, ◌+◌, ◌<◌, List, [], drop, length, slice_index_or}
use Rattle.gv_types.specs.declared.request.Request.{Request}
use Rattle.gv_vm.specs.State.{VmState, forgotten_of}
use Rattle.gv_vm.specs.Outcomes.{told_to}
use Rattle.gv_queues.specs.Submitting.{ChannelId, PutEndState, SubmitterState, no_channel, submitter_at}
use Rattle.gv_queues.specs.Working.{WorkerEndState, WorkerState, end_at, worker_at}
use Rattle.gv_queues.specs.declared.finishing.QueueEnd.{QueueEnd}
use Rattle.gv_queues.specs.declared.finishing.QueuesFault.{QueuesFault}
use Rattle.gv_queues.specs.declared.finishing.QueuesFault.TheVariants.{NotMade, NotStarted, Disagree}

-- these stand in the order of their queues, from 0
abbrev pub AreInOrder : {X : Type 0} → (X → ℕ) → List X → Type 0
AreInOrder {X} queue xs = (k : ℕ) (d : X) → k < length xs → queue (slice_index_or xs k d) ≡ k

-- the worker of a queue took as many requests as were put, and gave as many outcomes as the address space was told, those that it
-- still tells among them
pub record Agrees (vm : VmState) (put : PutEndState) (worker : WorkerEndState) : Type 0 where
  pub took_all : length worker.taken ≡ length put.put
  pub count : length worker.gave ≡ length (told_to vm.told worker.queue)
  pub told : drop (forgotten_of vm worker.queue) worker.gave ≡ drop (forgotten_of vm worker.queue) (told_to vm.told worker.queue)

abbrev pub no_put : PutEndState
no_put = record { queue = 0; channel = no_channel; put = [] }

abbrev pub put_at : List PutEndState → ℕ → PutEndState
put_at puts queue = slice_index_or puts queue no_put

-- Of each of so many queues, what puts and what takes is of one channel. No two queues share a channel.
pub record HaveOwnChannels (count : ℕ) (puts takes : ℕ → ChannelId) : Type 0 where
  pub one : (queue : ℕ) → queue < count → puts queue ≡ takes queue
  pub apart : (queue other : ℕ) → queue < count → other < count → puts queue ≡ puts other → queue ≡ other

-- the submitters and the workers
abbrev pub AreOnOwnChannels : List SubmitterState → List WorkerState → Type 0
AreOnOwnChannels submitters workers =
    HaveOwnChannels (length submitters) (λ queue. (submitter_at submitters queue).channel) (λ queue. (worker_at workers queue).channel)

-- what is left of them
abbrev pub EndOnOwnChannels : List PutEndState → List WorkerEndState → Type 0
EndOnOwnChannels puts workers =
    HaveOwnChannels (length puts) (λ queue. (put_at puts queue).channel) (λ queue. (end_at workers queue).channel)

-- at each place is the channel of the submitter that stood there
abbrev pub AreClosed : List SubmitterState → List PutEndState → Type 0
AreClosed submitters puts =
    (queue : ℕ) → queue < length puts → (put_at puts queue).channel ≡ (submitter_at submitters queue).channel

-- the ends of this queue agree
abbrev pub AgreesAt : VmState → List PutEndState → List WorkerEndState → ℕ → Type 0
AgreesAt vm puts workers queue = Agrees vm (put_at puts queue) (end_at workers queue)

-- the queue at which the ends don't agree, and at each before they do
pub record IsFirstOther (vm : VmState) (puts : List PutEndState) (workers : List WorkerEndState) (queue : ℕ) : Type 0 where
  pub exists : queue < length puts
  pub disagrees : ¬ AgreesAt vm puts workers queue
  pub before : (other : ℕ) → other < queue → AgreesAt vm puts workers other

-- what a queue comes to: how many its submitter put, how many outcomes the address space tells, and what its worker left.
-- As many requests were put as were told and are left
pub record IsEndOf (vm : VmState) (submitted : PutEndState) (worker : WorkerEndState) (end : QueueEnd) : Type 0 where
  pub put : end.put ≡ length submitted.put
  pub told : end.told ≡ length (told_to vm.told worker.queue)
  pub left : end.left.items ≡ worker.left
  pub each : end.put ≡ end.told + length end.left.items

-- each queue's end
abbrev pub AreEndsOf : VmState → List PutEndState → List WorkerEndState → List QueueEnd → Type 0
AreEndsOf vm puts workers ends =
    (queue : ℕ) (d : QueueEnd) → queue < length ends
    → IsEndOf vm (put_at puts queue) (end_at workers queue) (slice_index_or ends queue d)

-- Of each queue, as many requests were put as were told and are left. So many did the driver count, such as it may put; and so
-- many outcomes the address space tells.
pub record IsCounted (vm : VmState) (count : ℕ → ℕ) (may_put : ℕ → List Request → Type 0) (queue : ℕ) (end : QueueEnd) : Type 0 where
  pub each : end.put ≡ end.told + length end.left.items
  pub driven : end.put ≡ count queue
  pub put : List Request
  pub allowed : may_put queue put
  pub many : end.put ≡ length put
  pub told : end.told ≡ length (told_to vm.told queue)

abbrev pub AreCountedEnds : VmState → (ℕ → ℕ) → (ℕ → List Request → Type 0) → List QueueEnd → Type 0
AreCountedEnds vm count may_put ends =
    (queue : ℕ) (d : QueueEnd) → queue < length ends → IsCounted vm count may_put queue (slice_index_or ends queue d)

-- the closed submitters stand in the order of their queues, and put such requests as the driver may put, as many as it counted
pub record ArePuts (count : ℕ → ℕ) (may_put : ℕ → List Request → Type 0) (puts : List PutEndState) : Type 0 where
  pub order : AreInOrder (λ (p : PutEndState). p.queue) puts
  pub counted : (queue : ℕ) → queue < length puts → count queue ≡ length (put_at puts queue).put
  pub allowed : (queue : ℕ) → queue < length puts → may_put queue (put_at puts queue).put

-- no queue was told an outcome yet
abbrev pub IsUntold : VmState → Type 0
IsUntold vm = (queue : ℕ) → told_to vm.told queue ≡ []

-- the queue that a fault names is one of so many
abbrev pub IsOfQueueBelow : ℕ → QueuesFault → Type 0
IsOfQueueBelow count NotMade = Unit {0}
IsOfQueueBelow count (NotStarted queue) = queue < count
IsOfQueueBelow count (Disagree queue) = queue < count

-- the fault came before the driver ran, so nothing was put
abbrev pub HasNotRun : QueuesFault → Type 0
HasNotRun NotMade = Unit {0}
HasNotRun (NotStarted queue) = Unit {0}
HasNotRun (Disagree queue) = ⊥
