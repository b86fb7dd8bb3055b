-- Two worlds that are the same, bare of memory: undo values may own other tables, and vectors may lie elsewhere.
use Rattle.std.specs.Prelude.{◌≡◌, ◌≢◌, ℕ, List, map, Option}
use Rattle.std.specs.Option.{option_map}
use Rattle.gv_types.specs.declared.fault.Fault.TheVariants.{OutOfMemory}
use Rattle.gv_types.specs.declared.request.Point.{Point}
use Rattle.gv_sync.specs.Sights.{Sight}
use Rattle.gv_journal.specs.Bare.{BareRequest, bare_request, bare_journal}
use Rattle.gv_vm.specs.State.{VmState}
use Rattle.gv_vm.specs.World.{WorldState, QueueState, HandState}
use Rattle.gv_vm.specs.declared.event.Event.{Event}
use Rattle.gv_vm.specs.declared.event.Event.TheVariants.{Put, JobBegin}
use Rattle.gv_vm.specs.declared.event.Reply.{Reply}
use Rattle.gv_vm.specs.declared.event.Reply.TheVariants.{NotPut, Told, Begun}
use Rattle.gv_vm.specs.declared.outcome.Outcome.{Outcome}
use Rattle.gv_vm.specs.declared.outcome.Outcome.TheVariants.{Refused as RefusedAt}

pub record BareHand : Type 0 where
  pub request : BareRequest
  pub reached : List Sight
  pub lacked : Option Sight

abbrev pub bare_hand : HandState → BareHand
bare_hand hand = record { request = bare_request hand.request; reached = hand.reached; lacked = hand.lacked }

pub record BareQueue : Type 0 where
  pub put : ℕ
  pub waiting : List BareRequest
  pub hand : Option BareHand
  pub owed : List Point

abbrev pub bare_queue : QueueState → BareQueue
bare_queue q = record { put = q.put; waiting = map bare_request q.waiting; hand = option_map bare_hand q.hand; owed = q.owed }

pub record AreAlikeVms (v v' : VmState) : Type 0 where
  pub space : v.space ≡ v'.space
  pub journal : bare_journal v.journal ≡ bare_journal v'.journal
  pub jobs : v.jobs ≡ v'.jobs
  pub told : v.told ≡ v'.told
  pub forgotten : v.forgotten ≡ v'.forgotten

pub record AreAlikeWorlds (w w' : WorldState) : Type 0 where
  pub vm : AreAlikeVms w.vm w'.vm
  pub numbers : w.numbers ≡ w'.numbers
  pub depth : w.depth ≡ w'.depth
  pub queues : map bare_queue w.queues ≡ map bare_queue w'.queues

-- an outcome that isn't want of memory
abbrev pub IsAmple : Outcome → Type 0
IsAmple (RefusedAt op fault) = fault ≢ OutOfMemory
IsAmple _ = Unit {0}

-- an outcome of a reply, if it tells one, isn't want of memory
abbrev pub IsAmpleReply : Reply → Type 0
IsAmpleReply (Told number outcome) = IsAmple outcome
IsAmpleReply _ = Unit {0}

-- the same event, but for the memory of what it brings
abbrev pub AreAlikeEvents : Event → Event → Type 0
AreAlikeEvents (Put queue request) (Put queue' request') = (queue ≡ queue') × (bare_request request ≡ bare_request request')
AreAlikeEvents (JobBegin accesses) (JobBegin accesses') = accesses.items ≡ accesses'.items
AreAlikeEvents event event' = event ≡ event'

-- the same reply, but for the memory of what it gives back
abbrev pub AreAlikeReplies : Reply → Reply → Type 0
AreAlikeReplies (NotPut fault request) (NotPut fault' request') = (fault ≡ fault') × (bare_request request ≡ bare_request request')
AreAlikeReplies (Begun job places) (Begun job' places') = (job ≡ job') × (places.items ≡ places'.items)
AreAlikeReplies reply reply' = reply ≡ reply'

-- Steps in two worlds gave the same reply, and led to worlds that are the same.
pub record StaysAlike (reply reply' : Reply) (w w' : WorldState) : Type 0 where
  pub replies : AreAlikeReplies reply reply'
  pub worlds : AreAlikeWorlds w w'
