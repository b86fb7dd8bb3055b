-- Plans of events (not the split steps of an operation): events that are asked of a world one after another, each the next one by the replies to those before it.
use Rattle.std.specs.Prelude.{◌≡◌, ℕ, Bool, true, false, if◌then◌else◌, List, [], ◌∷◌, ◌++◌, Option, Some, None}
use Rattle.gv_types.specs.declared.request.Point.{Point}
use Rattle.gv_types.specs.declared.request.Request.{Request}
use Rattle.gv_vm.specs.Run.{RunsWith}
use Rattle.gv_vm.specs.Headline.{IsSoundStep}
use Rattle.gv_vm.specs.Step.{step, MayGrow}
use Rattle.gv_vm.specs.World.{WorldState}
use Rattle.gv_vm.specs.declared.event.Event.{Event}
use Rattle.gv_vm.specs.declared.event.Event.TheVariants.{Put, Take, Look, Bind, GiveUp, Pay}
use Rattle.gv_vm.specs.declared.event.Reply.{Reply}
use Rattle.gv_vm.specs.declared.event.Reply.TheVariants.{Put as IsPut, Taken, Reached, Lacking, Told, Raised}
use Rattle.gv_vm.specs.declared.event.LookResult.{LookResult}
use Rattle.gv_vm.specs.declared.event.LookResult.TheVariants.{NoneLacked, Lacked, Other}
use Rattle.gv_vm.specs.declared.outcome.Outcome.TheVariants.{Accepted}

-- the next event by the replies so far, the first reply first; none where all was asked
abbrev pub Plan : Type 0
Plan = List Reply → Option Event

-- no events
abbrev pub nothing : Plan
nothing replies = None

-- one event, and no other
abbrev pub once : Event → Plan
once event [] = Some event
once event (reply ∷ replies) = None

-- a payment for each signal that is owed, and then what comes next
abbrev pub paying : ℕ → List Point → Plan → Plan
paying queue [] next replies = next replies
paying queue (signal ∷ signals) next [] = Some (Pay queue)
paying queue (signal ∷ signals) next (Raised point now ∷ replies) = paying queue signals next replies
paying queue (signal ∷ signals) next (reply ∷ replies) = None

-- a payment for each signal, and no more
abbrev pub payments : ℕ → List Point → Plan
payments queue signals = paying queue signals nothing

-- all waits are reached: the request is carried out, and if it is accepted its signals are paid
abbrev pub carrying_out : ℕ → List Point → Plan
carrying_out queue signals [] = Some (Bind queue)
carrying_out queue signals (Told number (Accepted entry) ∷ replies) = payments queue signals replies
carrying_out queue signals (reply ∷ replies) = None

-- a wait lacks: the request is given up, or stays in hand
abbrev pub lacking : Bool → ℕ → Plan
lacking gives_up queue = if gives_up then once (GiveUp queue) else nothing

-- a look for each wait, until one lacks
abbrev pub looks : Bool → ℕ → List Point → List Point → Plan
looks gives_up queue [] signals replies = carrying_out queue signals replies
looks gives_up queue (wait ∷ waits) signals [] = Some (Look queue)
looks gives_up queue (wait ∷ waits) signals (Reached point seen ∷ replies) = looks gives_up queue waits signals replies
looks gives_up queue (wait ∷ waits) signals (Lacking point have ∷ replies) = lacking gives_up queue replies
looks gives_up queue (wait ∷ waits) signals (reply ∷ replies) = None

-- the request at the front is taken, and goes on with its looks
abbrev pub taking : Bool → ℕ → Request → Plan
taking gives_up queue request [] = Some (Take queue)
taking gives_up queue request (Taken number ∷ replies) = looks gives_up queue request.waits.items request.signals.items replies
taking gives_up queue request (reply ∷ replies) = None

-- a request is put on a queue, and if that is not refused it is served, and given up where a wait lacks
abbrev pub serving : ℕ → Request → Plan
serving queue request [] = Some (Put queue request)
serving queue request (IsPut number ∷ replies) = taking true queue request replies
serving queue request (reply ∷ replies) = None

-- these events are asked, each the next one by the replies before it
abbrev pub AreAsked : Plan → List Event → List Reply → Type 0
AreAsked plan [] [] = Unit {0}
AreAsked plan (event ∷ events) (reply ∷ replies) =
    (plan [] ≡ Some event) × AreAsked (λ later. plan (reply ∷ later)) events replies
AreAsked plan [] (reply ∷ replies) = ⊥
AreAsked plan (event ∷ events) [] = ⊥

-- a step that leads to a machine as it has to be, of which the headline says what it says of every step
abbrev pub Steps : WorldState → Event → Reply → WorldState → Type 0
Steps old event reply new = step old event reply new × IsSoundStep old event reply new

-- so far a plan was carried out: the world gave these replies, and so came from the one to the other
pub record IsUnderWay (plan : Plan) (old : WorldState) (replies : List Reply) (new : WorldState) : Type 0 where
  pub events : List Event
  pub asked : AreAsked plan events replies
  pub ran : RunsWith IsSoundStep old events replies new

-- a plan was carried out to its end
pub record IsCarriedOut (plan : Plan) (old : WorldState) (replies : List Reply) (new : WorldState) : Type 0 where
  pub under_way : IsUnderWay plan old replies new
  pub done : plan replies ≡ None

-- want of memory stopped a plan, at an event that may grow
pub record IsStopped (plan : Plan) (old : WorldState) (replies : List Reply) (new : WorldState) : Type 0 where
  pub under_way : IsUnderWay plan old replies new
  pub event : Event
  pub next : plan replies ≡ Some event
  pub wanted : MayGrow new event

-- with these replies a plan goes on as another
abbrev pub GoesOn : Plan → List Reply → Plan → Type 0
GoesOn plan replies next = (later : List Reply) → plan (replies ++ later) ≡ next later

-- the world has come from the one to the other by a plan, which goes on as another
pub record Goes (plan : Plan) (old : WorldState) (replies : List Reply) (new : WorldState) (next : Plan) : Type 0 where
  pub under_way : IsUnderWay plan old replies new
  pub goes_on : GoesOn plan replies next

-- What replies tell a plan.

abbrev pub is_put : Reply → Bool
is_put (IsPut number) = true
is_put reply = false

abbrev pub is_taken : Reply → Bool
is_taken (Taken number) = true
is_taken reply = false

abbrev pub is_accepted : Reply → Bool
is_accepted (Told number (Accepted entry)) = true
is_accepted reply = false

abbrev pub is_raised : Reply → Bool
is_raised (Raised point now) = true
is_raised reply = false

-- what a look came to
abbrev pub looked_of : Reply → LookResult
looked_of (Reached point seen) = NoneLacked
looked_of (Lacking point have) = Lacked
looked_of reply = Other

-- how a request goes on after its looks
abbrev pub after_looks : Bool → ℕ → List Point → LookResult → Plan
after_looks gives_up queue signals NoneLacked = carrying_out queue signals
after_looks gives_up queue signals Lacked = lacking gives_up queue
after_looks gives_up queue signals Other = nothing
