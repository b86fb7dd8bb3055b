-- What each event does to a world, and which reply it gets. An event that is not enabled is answered by `Idle` and changes
-- nothing; `Idle` is the answer to no other.
use Rattle.std.specs.Prelude.{◌≡◌, ℕ, ◌+◌, ◌<◌, ◌≤◌, List, [], ◌∷◌, ◌++◌, length, slice_index, Option, Some, None, Result, Ok, Err}
use Rattle.gv_types.specs.Request.{Fits}
use Rattle.gv_types.specs.declared.fault.Fault.{Fault}
use Rattle.gv_types.specs.declared.fault.Fault.TheVariants.{NoEntry, OutOfMemory}
use Rattle.gv_types.specs.declared.fault.OutOfMemory.{OutOfMemory as WantOfMemory}
use Rattle.gv_types.specs.declared.mapping.BufferId.{BufferId}
use Rattle.gv_types.specs.declared.request.Point.{Point}
use Rattle.gv_types.specs.declared.request.Request.{Request}
use Rattle.gv_buffers.specs.Buffers.{create_fault, destroy_fault, without, IsCreated}
use Rattle.gv_sync.specs.Raises.{IsReached, with_raise}
use Rattle.gv_sync.specs.Sights.{Sight, sight}
use Rattle.gv_journal.specs.Items.{next}
use Rattle.gv_journal.specs.History.{back}
use Rattle.gv_journal.specs.Binding.{IsRewound}
use Rattle.gv_journal.specs.declared.item.Item.{Item}
use Rattle.gv_journal.specs.Settling.{settle_fault, IsSettled}
use Rattle.gv_journal.specs.Withdrawing.{entry_fault, withdraw_fault, IsWithdrawn}
use Rattle.gv_vm.specs.Places.{place_at}
use Rattle.gv_vm.specs.Jobs.{begin_fault, end_fault, IsBegun, IsEnded, IsBeginRefused}
use Rattle.gv_vm.specs.Outcomes.{with_outcome}
use Rattle.gv_vm.specs.Forgetting.{forget_fault, with_forgotten}
use Rattle.gv_vm.specs.Trimming.{trim_fault}
use Rattle.gv_vm.specs.BindOutcome.{IsBoundAndTold, seen_by}
use Rattle.gv_vm.specs.State.{VmState, forgotten_of, told_limit, HasOtherBuffers, HasOtherJobs}
use Rattle.gv_vm.specs.World.{WorldState, HandState, put_fault_of, queue_at, with_queue, taken, next_number, next_wait, seen_at}
use Rattle.gv_vm.specs.declared.event.Event.{Event}
use Rattle.gv_vm.specs.declared.event.Event.TheVariants.{Put, Take, Look, Bind, GiveUp, Pay, Raise, Create, Destroy, Rewind, Withdraw, Settle, Forget, Trim, JobBegin, JobEnd, Translate}
use Rattle.gv_vm.specs.declared.event.Reply.{Reply}
use Rattle.gv_vm.specs.declared.event.Reply.TheVariants.{Idle, Put as IsPut, NotPut, Taken, Reached, Lacking, Told, Raised, Created, Destroyed, Rewound, Withdrawn, Settled, Forgot, Trimmed, Begun, Ended, Found, Refused}
use Rattle.gv_vm.specs.declared.jobs.Access.{Access}
use Rattle.gv_vm.specs.declared.jobs.Job.{Job}
use Rattle.gv_vm.specs.declared.outcome.Outcome.{Outcome}
use Rattle.gv_vm.specs.declared.outcome.Outcome.TheVariants.{Accepted, NotReady, Refused as RefusedAt}

-- Which events are enabled.

-- such a queue there is
abbrev pub IsQueue : WorldState → ℕ → Type 0
IsQueue w queue = queue < length w.queues

-- a request is in hand
pub record HasHand (w : WorldState) (queue : ℕ) : Type 0 where
  pub there : IsQueue w queue
  pub hand : HandState
  pub is : (queue_at w queue).hand ≡ Some hand

-- a request waits, nothing is in hand and nothing is owed
pub record CanTake (w : WorldState) (queue : ℕ) : Type 0 where
  pub there : IsQueue w queue
  pub waits : 0 < length (queue_at w queue).waiting
  pub free : (queue_at w queue).hand ≡ None
  pub paid : (queue_at w queue).owed ≡ []

-- a wait of the request in hand is not reached
pub record CanLook (w : WorldState) (queue : ℕ) : Type 0 where
  pub has : HasHand w queue
  pub point : Point
  pub wait : next_wait has.hand ≡ Some point

-- and now it is, so that a look at it is kept
pub record CanReach (w : WorldState) (queue : ℕ) : Type 0 where
  pub look : CanLook w queue
  pub now : IsReached w.numbers look.point

-- each of them is
pub record CanBind (w : WorldState) (queue : ℕ) : Type 0 where
  pub has : HasHand w queue
  pub reached : next_wait has.hand ≡ None

-- the last look lacked
pub record CanGiveUp (w : WorldState) (queue : ℕ) : Type 0 where
  pub has : HasHand w queue
  pub saw : Sight
  pub lacked : has.hand.lacked ≡ Some saw

-- signals are owed
pub record CanPay (w : WorldState) (queue : ℕ) : Type 0 where
  pub there : IsQueue w queue
  pub point : Point
  pub later : List Point
  pub owed : (queue_at w queue).owed ≡ point ∷ later

abbrev pub IsEnabled : WorldState → Event → Type 0
IsEnabled w (Put queue request) = IsQueue w queue × Fits (length w.numbers) request
IsEnabled w (Take queue) = CanTake w queue
IsEnabled w (Look queue) = CanLook w queue
IsEnabled w (Bind queue) = CanBind w queue
IsEnabled w (GiveUp queue) = CanGiveUp w queue
IsEnabled w (Pay queue) = CanPay w queue
IsEnabled w (Raise point) = point.timeline < length w.numbers
IsEnabled w (Create pages) = Unit {0}
IsEnabled w (Destroy id) = Unit {0}
IsEnabled w Rewind = Unit {0}
IsEnabled w (Withdraw entry) = Unit {0}
IsEnabled w (Settle to) = Unit {0}
IsEnabled w (Forget queue to) = Unit {0}
IsEnabled w Trim = Unit {0}
IsEnabled w (JobBegin accesses) = Unit {0}
IsEnabled w (JobEnd job) = Unit {0}
IsEnabled w (Translate addr) = Unit {0}

-- What they do.

abbrev pub put_fault : WorldState → ℕ → Option Fault
put_fault w queue = put_fault_of (told_limit w.vm queue) w.depth (queue_at w queue)

-- a request is at the back
pub record IsPutAs (old : WorldState) (queue : ℕ) (request : Request) (number : ℕ) (new : WorldState) : Type 0 where
  pub enabled : IsEnabled old (Put queue request)
  pub allowed : put_fault old queue ≡ None
  pub number_is : number ≡ (queue_at old queue).put
  pub state : new ≡ with_queue old queue (record (queue_at old queue) { put = number + 1; waiting = (queue_at old queue).waiting ++ request ∷ [] })

pub record IsNotPut (old : WorldState) (queue : ℕ) (request : Request) (fault : Fault) (back : Request) (new : WorldState) : Type 0 where
  pub enabled : IsEnabled old (Put queue request)
  pub refused : put_fault old queue ≡ Some fault
  pub returned : back ≡ request
  pub state : new ≡ old

-- the front is in hand
pub record IsTaken (old : WorldState) (queue number : ℕ) (new : WorldState) : Type 0 where
  pub enabled : CanTake old queue
  pub request : Request
  pub later : List Request
  pub front : (queue_at old queue).waiting ≡ request ∷ later
  pub number_is : number ≡ next_number old queue
  pub state : new ≡ with_queue old queue (record (queue_at old queue) { waiting = later; hand = Some (taken request) })

-- one wait more is reached
pub record IsReachedNow (old : WorldState) (queue : ℕ) (point : Point) (seen : ℕ) (new : WorldState) : Type 0 where
  pub enabled : CanLook old queue
  pub point_is : point ≡ enabled.point
  pub seen_is : sight point seen ≡ seen_at old point
  pub reached : IsReached old.numbers point
  pub state : new ≡ with_queue old queue (record (queue_at old queue) {
    hand =
        Some (record enabled.has.hand { reached = enabled.has.hand.reached ++ sight point seen ∷ []; lacked = None });
  })

-- it lacks
pub record IsLackingNow (old : WorldState) (queue : ℕ) (point : Point) (have : ℕ) (new : WorldState) : Type 0 where
  pub enabled : CanLook old queue
  pub point_is : point ≡ enabled.point
  pub have_is : sight point have ≡ seen_at old point
  pub lacking : have < point.value
  pub state : new ≡ with_queue old queue (record (queue_at old queue) {
    hand =
        Some (record enabled.has.hand { lacked = Some (sight point have) });
  })

-- which of these signals are owed for a request that came to this
abbrev pub owed_in : Outcome → List Point → List Point
owed_in (Accepted entry) signals = signals
owed_in (RefusedAt op fault) signals = []
owed_in (NotReady point have) signals = []

-- what a queue owes for a request that came to this
abbrev pub owed_for : Request → Outcome → List Point
owed_for request outcome = owed_in outcome request.signals.items

-- the request in hand was carried out
pub record IsBoundNow (old : WorldState) (queue number : ℕ) (outcome : Outcome) (new : WorldState) : Type 0 where
  pub enabled : CanBind old queue
  pub number_is : number ≡ next_number old queue
  pub vm : IsBoundAndTold old.vm new.vm queue number enabled.has.hand.request (seen_by enabled.has.hand.reached) outcome
  pub state : new ≡ with_queue (record old { vm = new.vm }) queue
      (record (queue_at old queue) { hand = None; owed = owed_for enabled.has.hand.request outcome })

-- it was given up
pub record IsGivenUp (old : WorldState) (queue number : ℕ) (outcome : Outcome) (new : WorldState) : Type 0 where
  pub enabled : CanGiveUp old queue
  pub number_is : number ≡ next_number old queue
  pub outcome_is : outcome ≡ NotReady enabled.saw.point enabled.saw.number
  pub state : new ≡ with_queue (record old { vm = record old.vm { told = with_outcome old.vm.told queue outcome } }) queue
      (record (queue_at old queue) { hand = None })

-- the first signal owed was raised
pub record IsPaidNow (old : WorldState) (queue : ℕ) (point : Point) (now : ℕ) (new : WorldState) : Type 0 where
  pub enabled : CanPay old queue
  pub point_is : point ≡ enabled.point
  pub now_is : now ≡ slice_index new.numbers point.timeline
  pub state : new ≡ with_queue (record old { numbers = with_raise old.numbers point }) queue (record (queue_at old queue) { owed = enabled.later })

pub record IsRaisedNow (old : WorldState) (asked point : Point) (now : ℕ) (new : WorldState) : Type 0 where
  pub enabled : IsEnabled old (Raise asked)
  pub point_is : point ≡ asked
  pub now_is : now ≡ slice_index new.numbers point.timeline
  pub state : new ≡ record old { numbers = with_raise old.numbers point }

pub record IsCreatedNow (old : WorldState) (pages : ℕ) (id : BufferId) (new : WorldState) : Type 0 where
  pub allowed : create_fault old.vm.space.buffers pages ≡ None
  pub made : IsCreated old.vm.space.buffers new.vm.space.buffers id pages
  pub vm : HasOtherBuffers old.vm new.vm
  pub state : new ≡ record old { vm = new.vm }

pub record IsDestroyedNow (old : WorldState) (id : BufferId) (new : WorldState) : Type 0 where
  pub allowed : destroy_fault old.vm.space.buffers id ≡ None
  pub gone : new.vm.space.buffers ≡ without id old.vm.space.buffers
  pub vm : HasOtherBuffers old.vm new.vm
  pub state : new ≡ record old { vm = new.vm }

-- only the space and the journal of the machine are others
abbrev pub HasOtherEntries : WorldState → WorldState → Type 0
HasOtherEntries old new = new ≡ record old { vm = record old.vm { space = new.vm.space; journal = new.vm.journal } }

pub record IsRewoundNow (old : WorldState) (item : ℕ) (new : WorldState) : Type 0 where
  pub number_is : item ≡ next new.vm.journal
  pub rewound : IsRewound old.vm.space new.vm.space old.vm.journal new.vm.journal
  pub state : HasOtherEntries old new

pub record IsWithdrawnNow (old : WorldState) (entry item : ℕ) (new : WorldState) : Type 0 where
  pub allowed : withdraw_fault old.vm.space old.vm.journal entry ≡ None
  pub number_is : item ≡ next old.vm.journal
  pub withdrawn : IsWithdrawn old.vm.space new.vm.space old.vm.journal new.vm.journal entry
  pub room : new.vm.space.room ≡ old.vm.space.room
  pub rewinds : (n : ℕ) → back new.vm.space.mappings new.vm.journal.items (n + 1) ≡ back old.vm.space.mappings old.vm.journal.items n
  pub state : HasOtherEntries old new

pub record IsSettledNow (old : WorldState) (to count : ℕ) (new : WorldState) : Type 0 where
  pub allowed : settle_fault old.vm.journal to ≡ None
  pub count_is : old.vm.journal.first + count ≡ to
  pub settled : IsSettled old.vm.space new.vm.space old.vm.journal new.vm.journal to
  pub state : HasOtherEntries old new

-- the outcomes of a queue below a number are forgotten
pub record IsForgottenNow (old : WorldState) (queue to count : ℕ) (new : WorldState) : Type 0 where
  pub allowed : forget_fault old.vm queue to ≡ None
  pub count_is : forgotten_of old.vm queue + count ≡ to
  pub state : new ≡ record old { vm = with_forgotten old.vm queue to }

-- room is given back, and nothing is seen of it
pub record IsTrimmedNow (old new : WorldState) : Type 0 where
  pub allowed : trim_fault old.vm.journal ≡ None
  pub state : new ≡ old

pub record IsBegunNow (old : WorldState) (accesses : List Access) (job : Job) (new : WorldState) : Type 0 where
  pub allowed : begin_fault old.vm.space old.vm.jobs accesses ≡ None
  pub begun : IsBegun old.vm.space new.vm.space old.vm.jobs new.vm.jobs accesses job
  pub vm : HasOtherJobs old.vm new.vm
  pub state : new ≡ record old { vm = new.vm }

pub record IsEndedNow (old : WorldState) (asked job : ℕ) (new : WorldState) : Type 0 where
  pub allowed : end_fault old.vm.jobs asked ≡ None
  pub job_is : job ≡ asked
  pub ended : IsEnded old.vm.space new.vm.space old.vm.jobs new.vm.jobs job
  pub vm : HasOtherJobs old.vm new.vm
  pub state : new ≡ record old { vm = new.vm }

-- where no item is held none is taken back
abbrev pub rewind_fault : List Item → Option Fault
rewind_fault [] = Some NoEntry
rewind_fault (item ∷ older) = None

-- why an event that is always enabled is refused, where memory suffices
abbrev pub event_fault : VmState → Event → Option Fault
event_fault v (Create pages) = create_fault v.space.buffers pages
event_fault v (Destroy id) = destroy_fault v.space.buffers id
event_fault v Rewind = rewind_fault v.journal.items
event_fault v (Withdraw entry) = withdraw_fault v.space v.journal entry
event_fault v (Settle to) = settle_fault v.journal to
event_fault v (Forget queue to) = forget_fault v queue to
event_fault v Trim = trim_fault v.journal
event_fault v (JobBegin accesses) = begin_fault v.space v.jobs accesses.items
event_fault v (JobEnd job) = end_fault v.jobs job
event_fault v _ = None

-- From `old` the world may give this reply to the event and go on to `new`.
abbrev pub step : WorldState → Event → Reply → WorldState → Type 0
step old event Idle new = (¬ IsEnabled old event) × (new ≡ old)
step old event (Refused fault) new = (event_fault old.vm event ≡ Some fault) × (new ≡ old)
step old (Put queue request) (IsPut number) new = IsPutAs old queue request number new
step old (Put queue request) (NotPut fault back) new = IsNotPut old queue request fault back new
step old (Take queue) (Taken number) new = IsTaken old queue number new
step old (Look queue) (Reached point seen) new = IsReachedNow old queue point seen new
step old (Look queue) (Lacking point have) new = IsLackingNow old queue point have new
step old (Bind queue) (Told number outcome) new = IsBoundNow old queue number outcome new
step old (GiveUp queue) (Told number outcome) new = IsGivenUp old queue number outcome new
step old (Pay queue) (Raised point now) new = IsPaidNow old queue point now new
step old (Raise asked) (Raised point now) new = IsRaisedNow old asked point now new
step old (Create pages) (Created id) new = IsCreatedNow old pages id new
step old (Destroy id) Destroyed new = IsDestroyedNow old id new
step old Rewind (Rewound item) new = IsRewoundNow old item new
step old (Withdraw entry) (Withdrawn item) new = IsWithdrawnNow old entry item new
step old (Settle to) (Settled count) new = IsSettledNow old to count new
step old (Forget queue to) (Forgot count) new = IsForgottenNow old queue to count new
step old Trim Trimmed new = IsTrimmedNow old new
step old (JobBegin accesses) (Begun number places) new = IsBegunNow old accesses.items (record { number = number; places = places }) new
step old (JobEnd asked) (Ended job) new = IsEndedNow old asked job new
step old (Translate addr) (Found place) new = (place ≡ place_at old.vm.space.mappings addr) × (new ≡ old)
step old event _ new = ⊥

-- no timeline is lower
abbrev pub NoneFalls : WorldState → WorldState → Type 0
NoneFalls old new = (timeline : ℕ) → slice_index old.numbers timeline ≤ slice_index new.numbers timeline

-- Which events may want memory: those that are enabled, are not refused before, and keep something more.
abbrev pub MayGrow : WorldState → Event → Type 0
MayGrow w (Put queue request) = IsEnabled w (Put queue request) × (put_fault w queue ≡ None)
MayGrow w (Look queue) = CanReach w queue
MayGrow w (Bind queue) = CanBind w queue
MayGrow w (GiveUp queue) = CanGiveUp w queue
MayGrow w (Create pages) = create_fault w.vm.space.buffers pages ≡ None
MayGrow w (Withdraw entry) = entry_fault w.vm.journal entry ≡ None
MayGrow w (JobBegin accesses) = IsBeginRefused w.vm.space w.vm.jobs accesses.items OutOfMemory
MayGrow w _ = ⊥

-- What a world answers to an event: a reply of a step; or want of memory, at an event that may grow, and all is as it was.
abbrev pub IsStep : WorldState → Event → Result Reply WantOfMemory → WorldState → Type 0
IsStep old event (Ok reply) new = step old event reply new
IsStep old event (Err _) new = MayGrow old event × (new ≡ old)
