-- How the events of a turn follow one another, and turns.
use Rattle.std.proofs.Common.{◌≡◌, ◌≢◌, ℕ, zero, suc, ◌-◌, ◌<◌, ◌≤◌, List, [], ◌∷◌, ◌++◌, length, drop, Some, None, Option, refl, sym, ap, ◌∙◌, subst, append_assoc, append-nil, arith, Bool, true, false, nat_lt}
use Rattle.std.specs.Prelude.{if◌then◌else◌, Result, Ok, Err, IsErr, IfOk, OnErr, IsTrue, ◌↔◌, ◌&&◌, ◌==◌, is_none}
use Rattle.std.proofs.lemmas.Bool.{lt-ltb, le-ltb, and_parts, and_from, eq-eqb, eqb-true}
use Rattle.gv_types.specs.declared.fault.OutOfMemory.{OutOfMemory as WantOfMemory}
use Rattle.gv_types.specs.declared.request.Point.{Point}
use Rattle.gv_types.specs.declared.request.Request.{Request}
use Rattle.gv_vm.specs.Step.{step}
use Rattle.gv_vm.specs.World.{WorldState, HandState, queue_at, next_number}
use Rattle.gv_vm.specs.declared.event.Event.TheVariants.{Take, Look, Pay, GiveUp}
use Rattle.gv_vm.specs.declared.event.LookResult.TheVariants.{Lacked}
use Rattle.gv_vm.specs.declared.event.Reply.{Reply}
use Rattle.gv_vm.specs.declared.event.Reply.TheVariants.{Reached, Lacking, Told}
use Rattle.gv_vm.specs.declared.outcome.Outcome.TheVariants.{Accepted, Refused, NotReady}
use Rattle.gv_vm.specs.declared.next_turn.Remaining.{Remaining}
use Rattle.gv_vm.specs.declared.world.turn.Seen.TheVariants.{Lacks}
use Rattle.gv_vm.specs.declared.world.turn.TurnResult.{TurnResult}
use Rattle.gv_vm.specs.declared.world.turn.TurnResult.TheVariants.{Idle}
use Rattle.gv_vm.specs.Plans.{Plan, Goes, paying, nothing, once, lacking, looks, taking, IsCarriedOut, IsStopped, is_accepted, looked_of}
use Rattle.gv_vm.specs.QueueTurns.{turn_of, going_on, turning, is_earlier, IsTurn, AreTurns, IsServedUpTo, IsQuiet}
use Rattle.gv_vm.specs.TurnParts.{AreQuiet, AreRemaining, IsRemainingIn, seen_of, seen_as}
use Rattle.gv_vm.proofs.PlanLemmas.{goes_nil, goes_as, carried_out_behind, stopped_behind}

-- Replies that tell nothing of a turn.

pub quiet_nil : AreQuiet []
quiet_nil later = refl

pub quiet-append : (first rest : List Reply) → AreQuiet first → AreQuiet rest → AreQuiet (first ++ rest)
quiet-append first rest quiet more later =
    ap turn_of (append_assoc first rest later) ∙ quiet (rest ++ later) ∙ more later

pub pay_quiet : (queue : ℕ) (reply : Reply) (w v : WorldState) → step w (Pay queue) reply v → AreQuiet (reply ∷ [])
pay_quiet queue (Told number outcome) w v is later = absurd is
pay_quiet queue (Lacking point have) w v is later = absurd is
pay_quiet queue reply w v is later = refl

pub take_quiet : (queue : ℕ) (reply : Reply) (w v : WorldState) → step w (Take queue) reply v → AreQuiet (reply ∷ [])
take_quiet queue (Told number outcome) w v is later = absurd is
take_quiet queue (Lacking point have) w v is later = absurd is
take_quiet queue reply w v is later = refl

-- a look that did not lack
pub look_quiet : (queue : ℕ) (reply : Reply) (w v : WorldState) → step w (Look queue) reply v → looked_of reply ≢ Lacked → AreQuiet (reply ∷ [])
look_quiet queue (Told number outcome) w v is apart later = absurd is
look_quiet queue (Lacking point have) w v is apart later = absurd (apart refl)
look_quiet queue reply w v is apart later = refl

-- the same look, with its point or without
pub seen_looked : (reply : Reply) → looked_of reply ≡ seen_as (seen_of reply)
seen_looked (Reached point seen) = refl
seen_looked (Lacking point have) = refl
seen_looked reply = refl

pub lacks_is : (reply : Reply) (point : Point) (have : ℕ) → seen_of reply ≡ Lacks point have → reply ≡ Lacking point have
lacks_is (Lacking at now) point have is = let p : at ≡ point = cc in let n : now ≡ have = cc in rw (p, n) refl
lacks_is reply point have is = cc

-- an accepted request is what the turn came to
pub accepted_turn : (reply : Reply) (later : List Reply) → is_accepted reply ≡ true → turn_of (reply ∷ later) ≡ turn_of (reply ∷ [])
accepted_turn (Told number (Accepted entry)) later is = refl
accepted_turn (Told number (Refused op fault)) later is = refl
accepted_turn (Told number (NotReady point have)) later is = refl
accepted_turn reply later is = cc

-- whatever goes on as nothing asks nothing
pub ends : (all : Bool) → (if all then nothing else nothing) [] ≡ None
ends true = refl
ends false = refl

-- an answer that is refused has what is asked of a refusal
pub on_err : {T E : Type 0} (r : Result T E) (A : Type 0) → IsErr r → A → OnErr r A
on_err (Err e) A is so = so
on_err (Ok x) A is so = cc

-- what an answer says, said otherwise
pub then_if_ok : {T E : Type 0} (r : Result T E) (P Q : T → Type 0) → ((x : T) → P x → Q x) → IfOk r P → IfOk r Q
then_if_ok (Ok x) P Q so holds = so x holds
then_if_ok (Err e) P Q so holds = holds

pub then_on_err : {T E : Type 0} (r : Result T E) (A B : Type 0) → (A → B) → OnErr r A → OnErr r B
then_on_err (Ok x) A B so holds = holds
then_on_err (Err e) A B so holds = so holds

-- a request that waits stays, or is given up
pub stays : (gives_up : Bool) (queue : ℕ) → gives_up ≡ false → lacking gives_up queue [] ≡ None
stays gives_up queue is = rw is refl

pub goes_away : (gives_up : Bool) (queue : ℕ) → gives_up ≡ true → (later : List Reply) → lacking gives_up queue later ≡ once (GiveUp queue) later
goes_away gives_up queue is later = rw is refl

-- a wait lacked, and the last reply is what the turn came to
pub given_up : (replies front : List Reply) (point : Point) (have : ℕ) (reply : Reply) → replies ≡ front ++ Lacking point have ∷ [] → AreQuiet front →
    turn_of (replies ++ reply ∷ []) ≡ turn_of (reply ∷ [])
given_up replies front point have reply is quiet =
    ap (λ (rs : List Reply). turn_of (rs ++ reply ∷ [])) is ∙ ap turn_of (append_assoc front (Lacking point have ∷ []) (reply ∷ []))
    ∙ quiet (Lacking point have ∷ reply ∷ [])

-- nothing was told
pub quiet_idle : (replies : List Reply) → AreQuiet replies → turn_of replies ≡ Idle
quiet_idle replies quiet = ap turn_of (sym (append-nil replies)) ∙ quiet []

-- one reply more before those that tell of a turn
pub behind_quiet : (first rest : List Reply) (turn : TurnResult) → AreQuiet first → turn ≡ turn_of rest → turn ≡ turn_of (first ++ rest)
behind_quiet first rest turn quiet is = is ∙ sym (quiet rest)

-- what is in hand, or taken, is gone on with

pub in_hand_goes : (gives_up : Bool) (queue : ℕ) (hand : Option HandState) (waiting : List Request) (remaining : Remaining) → remaining.in_hand ≡ true → IsRemainingIn hand waiting (Some remaining) →
    (waits : List Point) × (signals : List Point) × AreRemaining waits signals remaining × ((later : List Reply) → going_on gives_up queue hand waiting later ≡ looks gives_up queue waits signals later)
in_hand_goes gives_up queue (Some h) waiting remaining here is = (drop (length h.reached) h.request.waits.items, h.request.signals.items, is.1, λ later. refl)
in_hand_goes gives_up queue None (request ∷ later) remaining here is = let e = sym here ∙ is.0 in cc
in_hand_goes gives_up queue None [] remaining here is = absurd is

pub taken_is : (gives_up : Bool) (queue : ℕ) (hand : Option HandState) (waiting : List Request) (remaining : Remaining) → remaining.in_hand ≡ false → IsRemainingIn hand waiting (Some remaining) →
    (request : Request) × AreRemaining request.waits.items request.signals.items remaining × ((later : List Reply) → going_on gives_up queue hand waiting later ≡ taking gives_up queue request later)
taken_is gives_up queue (Some h) waiting remaining here is = let e = sym here ∙ is.0 in cc
taken_is gives_up queue None (request ∷ later) remaining here is = (request, is.1, λ more. refl)
taken_is gives_up queue None [] remaining here is = absurd is

-- nothing remains
pub nothing_left : (gives_up : Bool) (queue : ℕ) (hand : Option HandState) (waiting : List Request) → IsRemainingIn hand waiting None → going_on gives_up queue hand waiting [] ≡ None
nothing_left gives_up queue (Some h) waiting is = absurd is
nothing_left gives_up queue None (request ∷ later) is = absurd is
nothing_left gives_up queue None [] is = refl

-- a plan that says the same
pub out_as : (p q : Plan) (w v : WorldState) (replies : List Reply) → ((later : List Reply) → p later ≡ q later) → IsCarriedOut q w replies v → IsCarriedOut p w replies v
out_as p q w v replies same out = carried_out_behind p q w w v [] replies (goes_as p p q w w [] same (goes_nil p w)) out

pub stopped_as : (p q : Plan) (w v : WorldState) (replies : List Reply) → ((later : List Reply) → p later ≡ q later) → IsStopped q w replies v → IsStopped p w replies v
stopped_as p q w v replies same out = stopped_behind p q w w v [] replies (goes_as p p q w w [] same (goes_nil p w)) out

-- the signals are paid, and the queue went on
pub paid_on : (gives_up : Bool) (queue : ℕ) (w v x : WorldState) (remaining : Remaining) (paid : List Reply) → AreQuiet paid →
    Goes (paying queue (queue_at w queue).owed (going_on gives_up queue (queue_at w queue).hand (queue_at w queue).waiting)) w paid v (going_on gives_up queue (queue_at w queue).hand (queue_at w queue).waiting) →
    (result : Result TurnResult WantOfMemory) → IsRemainingIn (queue_at w queue).hand (queue_at w queue).waiting (Some remaining) →
    IfOk result (λ turn. (replies : List Reply) × (turn ≡ turn_of replies)
    × ((hand : Option HandState) (waiting : List Request) → IsRemainingIn hand waiting (Some remaining) → IsCarriedOut (going_on gives_up queue hand waiting) v replies x)) →
    OnErr result ((replies : List Reply)
    × ((hand : Option HandState) (waiting : List Request) → IsRemainingIn hand waiting (Some remaining) → IsStopped (going_on gives_up queue hand waiting) v replies x)) →
    IsTurn gives_up queue w result x
paid_on gives_up queue w v x remaining paid quiet goes (Ok turn) is went stopped =
    let q = queue_at w queue in
    record {
      replies = paid ++ went.0;
      carried_out = carried_out_behind (turning gives_up queue q) (going_on gives_up queue q.hand q.waiting) w v x paid went.0 goes (went.2 q.hand q.waiting is);
      came = behind_quiet paid went.0 turn quiet went.1;
    }
paid_on gives_up queue w v x remaining paid quiet goes (Err want) is went stopped =
    let q = queue_at w queue in
    record {
      replies = paid ++ stopped.0;
      stopped = stopped_behind (turning gives_up queue q) (going_on gives_up queue q.hand q.waiting) w v x paid stopped.0 goes (stopped.1 q.hand q.waiting is);
    }

-- Turns up to a request.

pub turned_last : (remaining queue number : ℕ) (w v : WorldState) (turn : Result TurnResult WantOfMemory) → 0 < remaining → IsTurn false queue w turn v → is_earlier number turn ≡ false →
    AreTurns remaining queue number w turn v
turned_last zero queue number w v turn some took last = absurd (omega (arith, some))
turned_last (suc more) queue number w v turn some took last = (turn, v, took, (rw last (refl, refl)))

pub turned_on : (remaining queue number : ℕ) (w v x : WorldState) (turn result : Result TurnResult WantOfMemory) → 0 < remaining → IsTurn false queue w turn v → is_earlier number turn ≡ true →
    AreTurns (remaining - 1) queue number v result x → AreTurns remaining queue number w result x
turned_on zero queue number w v x turn result some took earlier rest = absurd (omega (arith, some))
turned_on (suc more) queue number w v x turn result some took earlier rest =
    let one : suc more - 1 ≡ more = omega arith in (turn, v, took, (rw earlier (subst (λ (n : ℕ). AreTurns n queue number v result x) one rest)))

pub served_before : (queue number told : ℕ) (w : WorldState) → told ≡ next_number w queue → number < told → IsServedUpTo queue number w (Ok Idle) w
served_before queue number told w is below = let less : nat_lt number (next_number w queue) ≡ true = lt-ltb _ _ (omega (arith, is, below)) in rw less (refl, refl)

pub served_now : (queue number told : ℕ) (w v : WorldState) (result : Result TurnResult WantOfMemory) → told ≡ next_number w queue → told ≤ number →
    AreTurns (number - told) queue number w result v → IsServedUpTo queue number w result v
served_now queue number told w v result is below turns = let not : nat_lt number (next_number w queue) ≡ false = le-ltb _ _ (omega (arith, is, below)) in rw (not, ← is) turns

none_left : (hand : Option HandState) (waiting : List Request) (remaining : Option Remaining) → IsRemainingIn hand waiting remaining → is_none remaining ≡ true → (waiting ≡ []) × (hand ≡ None)
none_left hand waiting (Some l) is none = absurd (cc)
none_left (Some h) waiting None is none = absurd is
none_left None (request ∷ later) None is none = absurd is
none_left None [] None is none = (refl, refl)

left_none : (remaining : Option Remaining) → IsRemainingIn None [] remaining → is_none remaining ≡ true
left_none (Some l) is = absurd is
left_none None is = refl

nothing_owed : (points : List Point) → length points ≡ 0 → points ≡ []
nothing_owed [] none = refl
nothing_owed (p ∷ points) none = absurd (omega (arith, none))

-- a queue has nothing before it exactly where nothing is owed and nothing remains
pub quiet_iff : (w : WorldState) (queue owed : ℕ) (remaining : Option Remaining) → length (queue_at w queue).owed ≡ owed → IsRemainingIn (queue_at w queue).hand (queue_at w queue).waiting remaining →
    IsTrue ((owed == 0) && is_none remaining) ↔ IsQuiet w queue
quiet_iff w queue owed remaining counted is = (
  λ so.
      let both = and_parts (owed == 0) (is_none remaining) so in
      let none = none_left (queue_at w queue).hand (queue_at w queue).waiting remaining is both.1 in
      record { waiting = none.0; hand = none.1; owed = nothing_owed (queue_at w queue).owed (omega (arith, counted, eqb-true owed 0 both.0)) },
  λ quiet.
      and_from (owed == 0) (is_none remaining) (eq-eqb owed 0 (omega (arith, counted, ap length quiet.owed))) (left_none remaining (rw (quiet.hand, quiet.waiting) at is)),
)
