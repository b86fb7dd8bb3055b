-- Laws of steps, and of runs from a new world.
use Rattle.std.specs.Prelude.{◌≡◌, ◌≢◌, ℕ, ◌<◌, ◌≤◌, List, slice_get, slice_index, Some, Result}
use Rattle.std.specs.List.{All}
use Rattle.gv_types.specs.Bounds.{BoundsState}
use Rattle.gv_types.specs.Limits.{LimitsState}
use Rattle.gv_types.specs.declared.fault.OutOfMemory.{OutOfMemory as WantOfMemory}
use Rattle.gv_sync.specs.Raises.{IsAfter}
use Rattle.gv_vm.specs.Jobs.{places_in}
use Rattle.gv_vm.specs.Outcomes.{queues as most_queues}
use Rattle.gv_vm.specs.World.{WorldState, HandState, queue_at, next_number, new_world}
use Rattle.gv_vm.specs.Step.{CanBind, step}
use Rattle.gv_vm.specs.Run.{IsRunOf, GoesOnWith, replied_to, replies_in}
use Rattle.gv_vm.specs.Headline.{Says, Headline}
use Rattle.gv_vm.specs.Alike.{AreAlikeWorlds, AreAlikeEvents, IsAmpleReply, StaysAlike}
use Rattle.gv_vm.specs.QueueHistory.{no_history, history_from, raised_by, HasReachedAll, IsAfterHistory}
use Rattle.gv_vm.specs.declared.event.Event.{Event}
use Rattle.gv_vm.specs.declared.event.Event.TheVariants.{JobEnd}
use Rattle.gv_vm.specs.declared.event.Reply.{Reply}

-- A step is a function: the same event in the same world gets the same reply and leads to the same world, but for the memory of
-- vectors and of undo values, and for want of memory.
abbrev pub StepIsAFunction : Type 0
StepIsAFunction =
    (w w' x x' : WorldState) (event event' : Event) (reply reply' : Reply) → AreAlikeWorlds w w' → AreAlikeEvents event event'
    → IsAmpleReply reply → IsAmpleReply reply' → step w event reply x → step w' event' reply' x' → StaysAlike reply reply' x x'

-- A world that goes on after want of memory comes to what it comes to by the other events alone: so each law of runs holds of it,
abbrev pub WantOfMemoryIsNoStep : Type 0
WantOfMemoryIsNoStep =
    (old new : WorldState) (events : List Event) (answers : List (Result Reply WantOfMemory))
    → GoesOnWith (λ before event reply after. Unit {0}) old events answers new → IsRunOf old (replied_to events answers) (replies_in answers) new

-- and the headline
abbrev pub HeadlineGoesOn : Type 0
HeadlineGoesOn =
    (old new : WorldState) (events : List Event) (answers : List (Result Reply WantOfMemory))
    → GoesOnWith Says old events answers new → Headline old (replied_to events answers) (replies_in answers) new

-- Of the requests that were put on a queue the first ones are told, each once, in order, and the others are the one in hand and
-- those that wait. What is paid and owed are the signals of the accepted ones, each once, in order. The one in hand had those
-- waits reached that were looked at. Each item holds the request that was put with its number.
abbrev pub RequestsStayInOrder : Type 0
RequestsStayInOrder =
    (area : BoundsState) (limits : LimitsState) (queues depth timelines queue : ℕ) (events : List Event) (replies : List Reply) (w : WorldState)
    → queues ≤ most_queues → IsRunOf (new_world area limits queues depth timelines) events replies w → IsAfterHistory queue (history_from queue no_history events replies) w

-- so what is told next is of the request that was put with that number
abbrev pub WhatIsToldWasPut : Type 0
WhatIsToldWasPut =
    (area : BoundsState) (limits : LimitsState) (queues depth timelines queue : ℕ) (events : List Event) (replies : List Reply) (w : WorldState) (hand : HandState)
    → queues ≤ most_queues → IsRunOf (new_world area limits queues depth timelines) events replies w → (queue_at w queue).hand ≡ Some hand
    → slice_get (history_from queue no_history events replies).puts (next_number w queue) ≡ Some hand.request

-- a request is carried out only where looks at all its waits reached them, since it was taken
abbrev pub WaitsAreReachedFirst : Type 0
WaitsAreReachedFirst =
    (area : BoundsState) (limits : LimitsState) (queues depth timelines queue : ℕ) (events : List Event) (replies : List Reply) (w : WorldState) (can : CanBind w queue)
    → queues ≤ most_queues → IsRunOf (new_world area limits queues depth timelines) events replies w
    → HasReachedAll (history_from queue no_history events replies) can.has.hand.request

-- no timeline falls, whatever is taken back
abbrev pub NoTimelineFalls : Type 0
NoTimelineFalls =
    (old new : WorldState) (events : List Event) (replies : List Reply) (timeline : ℕ)
    → IsRunOf old events replies new → slice_index old.numbers timeline ≤ slice_index new.numbers timeline

-- and each is the greatest of its raises
abbrev pub TimelinesFollowRaises : Type 0
TimelinesFollowRaises =
    (area : BoundsState) (limits : LimitsState) (queues depth timelines : ℕ) (events : List Event) (replies : List Reply) (w : WorldState)
    → IsRunOf (new_world area limits queues depth timelines) events replies w → IsAfter (raised_by replies) w.numbers

-- a job keeps its places until it ends, whatever is unmapped or taken back meanwhile, and no other job gets its number
abbrev pub JobsKeepTheirPlaces : Type 0
JobsKeepTheirPlaces =
    (old new : WorldState) (events : List Event) (replies : List Reply) (number : ℕ) → IsRunOf old events replies new → number < old.vm.jobs.begun
    → All (λ event. event ≢ JobEnd number) events → places_in new.vm.jobs.running number ≡ places_in old.vm.jobs.running number
