-- What the parts of a turn come to. No public clause cites this module.
use Rattle.std.specs.Prelude.{◌≡◌, true, false, List, [], ◌∷◌, ◌++◌, length, drop, Option, Some, None}
use Rattle.gv_types.specs.declared.request.Point.{Point}
use Rattle.gv_types.specs.declared.request.Request.{Request}
use Rattle.gv_vm.specs.QueueTurns.{turn_of}
use Rattle.gv_vm.specs.World.{HandState}
use Rattle.gv_vm.specs.declared.event.LookResult.{LookResult}
use Rattle.gv_vm.specs.declared.event.LookResult.TheVariants.{NoneLacked as LookedAll, Lacked, Other as LookedOther}
use Rattle.gv_vm.specs.declared.event.Reply.{Reply}
use Rattle.gv_vm.specs.declared.event.Reply.TheVariants.{Reached, Lacking}
use Rattle.gv_vm.specs.declared.next_turn.Remaining.{Remaining}
use Rattle.gv_vm.specs.declared.world.turn.Seen.{Seen}
use Rattle.gv_vm.specs.declared.world.turn.Seen.TheVariants.{NoneLacked, Lacks, Other}

-- so many waits and signals has a request
abbrev pub AreRemaining : List Point → List Point → Remaining → Type 0
AreRemaining waits signals remaining = (length waits ≡ remaining.waits) × (length signals ≡ remaining.signals)

-- what a queue has remaining of the request in hand, or else of the first that waits
abbrev pub IsRemainingIn : Option HandState → List Request → Option Remaining → Type 0
IsRemainingIn (Some h) waiting (Some remaining) = (remaining.in_hand ≡ true) × AreRemaining (drop (length h.reached) h.request.waits.items) h.request.signals.items remaining
IsRemainingIn None (request ∷ later) (Some remaining) = (remaining.in_hand ≡ false) × AreRemaining request.waits.items request.signals.items remaining
IsRemainingIn None [] None = Unit {0}
IsRemainingIn hand waiting remaining = ⊥

-- these replies tell nothing of what a turn came to
abbrev pub AreQuiet : List Reply → Type 0
AreQuiet replies = (later : List Reply) → turn_of (replies ++ later) ≡ turn_of later

-- what was seen, without the point
abbrev pub seen_as : Seen → LookResult
seen_as NoneLacked = LookedAll
seen_as (Lacks point have) = Lacked
seen_as Other = LookedOther

-- what one look came to
abbrev pub seen_of : Reply → Seen
seen_of (Reached point seen) = NoneLacked
seen_of (Lacking point have) = Lacks point have
seen_of reply = Other

-- the replies to all looks
abbrev pub AreLooks : Seen → List Reply → Type 0
AreLooks (Lacks point have) replies = (front : List Reply) × AreQuiet front × (replies ≡ front ++ Lacking point have ∷ [])
AreLooks seen replies = AreQuiet replies
