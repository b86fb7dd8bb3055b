-- What events did on one queue, as their replies tell it, and what a world has to do with it.
use Rattle.std.specs.Prelude.{◌≡◌, ◌==◌, ℕ, ◌≤◌, Bool, false, if◌then◌else◌, List, [], ◌∷◌, ◌++◌, length, map, take, drop, slice_get, slice_index_or, Option, Some, None}
use Rattle.std.specs.List.{All}
use Rattle.gv_types.specs.declared.request.Point.{Point}
use Rattle.gv_types.specs.declared.request.Request.{Request}
use Rattle.gv_sync.specs.Sights.{Sight, sight}
use Rattle.gv_journal.specs.declared.item.Item.{Item}
use Rattle.gv_journal.specs.declared.item.ItemKind.{ItemKind}
use Rattle.gv_journal.specs.declared.item.ItemKind.TheVariants.{Bind as BindItem, Withdrawal}
use Rattle.gv_vm.specs.World.{WorldState, HandState, QueueState, new_queue}
use Rattle.gv_vm.specs.Outcomes.{told_to}
use Rattle.gv_vm.specs.declared.event.Event.{Event}
use Rattle.gv_vm.specs.declared.event.Event.TheVariants.{Put, Take, Look, Bind, GiveUp, Pay}
use Rattle.gv_vm.specs.declared.event.Reply.{Reply}
use Rattle.gv_vm.specs.declared.event.Reply.TheVariants.{Put as IsPut, Taken, Reached, Told, Raised}
use Rattle.gv_vm.specs.declared.outcome.Outcome.{Outcome}
use Rattle.gv_vm.specs.declared.outcome.Outcome.TheVariants.{Accepted, Refused, NotReady}

-- Of one queue: the requests that were put, the first one first; what looks reached since the last take; the signals of the
-- requests that were accepted, in order; and those that were raised.
pub record QueueHistory : Type 0 where
  pub puts : List Request
  pub looked : List Sight
  pub due : List Point
  pub paid : List Point

abbrev pub no_history : QueueHistory
no_history = record { puts = []; looked = []; due = []; paid = [] }

abbrev pub signals_asked : Option Request → List Point
signals_asked None = []
signals_asked (Some request) = request.signals.items

-- what the request with a number came to be owed
abbrev pub due_for : List Request → ℕ → Outcome → List Point
due_for puts number (Accepted entry) = signals_asked (slice_get puts number)
due_for puts number (Refused op fault) = []
due_for puts number (NotReady point have) = []

-- an event of the queue with its reply
abbrev pub after_event : Event → Reply → QueueHistory → QueueHistory
after_event (Put queue request) (IsPut number) p = record p { puts = p.puts ++ request ∷ [] }
after_event (Take queue) (Taken number) p = record p { looked = [] }
after_event (Look queue) (Reached point seen) p = record p { looked = p.looked ++ sight point seen ∷ [] }
after_event (Bind queue) (Told number outcome) p = record p { due = p.due ++ due_for p.puts number outcome }
after_event (Pay queue) (Raised point now) p = record p { paid = p.paid ++ point ∷ [] }
after_event event reply p = p

-- the event is one of this queue
abbrev pub is_of_queue : ℕ → Event → Bool
is_of_queue queue (Put n request) = n == queue
is_of_queue queue (Take n) = n == queue
is_of_queue queue (Look n) = n == queue
is_of_queue queue (Bind n) = n == queue
is_of_queue queue (GiveUp n) = n == queue
is_of_queue queue (Pay n) = n == queue
is_of_queue queue event = false

abbrev pub one_more : ℕ → Event → Reply → QueueHistory → QueueHistory
one_more queue event reply p = if is_of_queue queue event then after_event event reply p else p

-- what events with their replies did on a queue, after what was before
abbrev pub history_from : ℕ → QueueHistory → List Event → List Reply → QueueHistory
history_from queue p [] replies = p
history_from queue p (event ∷ events) [] = p
history_from queue p (event ∷ events) (reply ∷ replies) = history_from queue (one_more queue event reply p) events replies

-- the requests that are in hand or wait, in order
abbrev pub held_in : Option HandState → List Request → List Request
held_in None waiting = waiting
held_in (Some h) waiting = h.request ∷ waiting

abbrev pub pending_in : QueueState → List Request
pending_in q = held_in q.hand q.waiting

-- the request in hand had just these waits reached
abbrev pub HasReached : Option HandState → List Sight → Type 0
HasReached None looked = Unit {0}
HasReached (Some h) looked = h.reached ≡ looked

-- an item of the queue holds the request that was put with its number
abbrev pub HoldsPut : ℕ → List Request → ItemKind → Type 0
HoldsPut queue puts (BindItem n number request seen done) = n ≡ queue → slice_get puts number ≡ Some request
HoldsPut queue puts (Withdrawal of) = Unit {0}

-- those are its first waits, in order
abbrev pub IsInTurn : Option HandState → Type 0
IsInTurn None = Unit {0}
IsInTurn (Some h) = map (λ s. s.point) h.reached ≡ take (length h.reached) h.request.waits.items

-- nothing is owed while a request is in hand
abbrev pub HasNoDebt : Option HandState → List Point → Type 0
HasNoDebt None owed = Unit {0}
HasNoDebt (Some h) owed = owed ≡ []

-- Of the requests that were put on a queue the first ones are told, so many, and the others are those in hand and waiting, in
-- order; the one in hand had those waits reached that were looked at; and what was paid and is owed are the signals of those
-- that were accepted.
pub record IsQueueAfter (p : QueueHistory) (told : ℕ) (q : QueueState) : Type 0 where
  pub few : told ≤ length p.puts
  pub rest : drop told p.puts ≡ pending_in q
  pub put : q.put ≡ length p.puts
  pub looked : HasReached q.hand p.looked
  pub in_turn : IsInTurn q.hand
  pub reached : All (λ s. s.point.value ≤ s.number) p.looked
  pub free : HasNoDebt q.hand q.owed
  pub signals : p.paid ++ q.owed ≡ p.due

abbrev pub AreHeldAsPut : ℕ → List Request → List Item → Type 0
AreHeldAsPut queue puts items = All (λ x. HoldsPut queue puts x.kind) items

-- that holds of the queue with this number, and each item of the queue holds the request that was put with its number
pub record AreAfter (queue : ℕ) (p : QueueHistory) (told : List (List Outcome)) (queues : List QueueState) (items : List Item) : Type 0 where
  pub there : length queues ≤ length told
  pub queue_is : IsQueueAfter p (length (told_to told queue)) (slice_index_or queues queue new_queue)
  pub items_are : AreHeldAsPut queue p.puts items

abbrev pub IsAfterHistory : ℕ → QueueHistory → WorldState → Type 0
IsAfterHistory queue p w = AreAfter queue p w.vm.told w.queues w.vm.journal.items

-- looks reached all waits of a request, in order
pub record HasReachedAll (p : QueueHistory) (request : Request) : Type 0 where
  pub points : map (λ s. s.point) p.looked ≡ request.waits.items
  pub reached : All (λ s. s.point.value ≤ s.number) p.looked

-- the points that were raised
abbrev pub raised_by : List Reply → List Point
raised_by [] = []
raised_by (Raised point now ∷ replies) = point ∷ raised_by replies
raised_by (reply ∷ replies) = raised_by replies
