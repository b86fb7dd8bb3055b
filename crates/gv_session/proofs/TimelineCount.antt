-- No event makes or takes away a timeline.
use Rattle.std.proofs.Common.{◌≡◌, ℕ, Bool, List, [], ◌∷◌, length, ap, ◌∙◌, Result, Ok, Err}
use Rattle.std.proofs.lemmas.List.{length-set}
use Rattle.gv_types.specs.declared.fault.OutOfMemory.{OutOfMemory}
use Rattle.gv_vm.specs.World.{WorldState}
use Rattle.gv_vm.specs.Headline.{IsSoundStep}
use Rattle.gv_vm.specs.QueueTurns.{IsTurn}
use Rattle.gv_vm.specs.Run.{RunsWith}
use Rattle.gv_vm.specs.Step.{step, IsStep}
use Rattle.gv_vm.specs.declared.world.turn.TurnResult.{TurnResult}
use Rattle.gv_vm.specs.declared.event.Event.{Event}
use Rattle.gv_vm.specs.declared.event.Event.TheVariants.{Put, Take, Look, Bind, GiveUp, Pay, Raise, Create, Destroy, Rewind, Withdraw, Settle, Forget, Trim, JobBegin, JobEnd, Translate}
use Rattle.gv_vm.specs.declared.event.Reply.{Reply}
use Rattle.gv_vm.specs.declared.event.Reply.TheVariants.{Idle, Put as IsPut, NotPut, Taken, Reached, Lacking, Told, Raised, Created, Destroyed, Rewound, Withdrawn, Settled, Forgot, Trimmed, Begun, Ended, Found, Refused}

pub numbers_stay : (old : WorldState) (event : Event) (reply : Reply) (new : WorldState) → step old event reply new → length new.numbers ≡ length old.numbers
numbers_stay old event Idle new is = ap (λ (w : WorldState). length w.numbers) is.1
numbers_stay old event (Refused fault) new is = ap (λ (w : WorldState). length w.numbers) is.1
numbers_stay old (Put queue request) (IsPut number) new is = ap (λ (w : WorldState). length w.numbers) is.state
numbers_stay old (Put queue request) (NotPut fault back) new is = ap (λ (w : WorldState). length w.numbers) is.state
numbers_stay old (Take queue) (Taken number) new is = ap (λ (w : WorldState). length w.numbers) is.state
numbers_stay old (Look queue) (Reached point seen) new is = ap (λ (w : WorldState). length w.numbers) is.state
numbers_stay old (Look queue) (Lacking point have) new is = ap (λ (w : WorldState). length w.numbers) is.state
numbers_stay old (Bind queue) (Told number outcome) new is = ap (λ (w : WorldState). length w.numbers) is.state
numbers_stay old (GiveUp queue) (Told number outcome) new is = ap (λ (w : WorldState). length w.numbers) is.state
numbers_stay old (Pay queue) (Raised point now) new is = ap (λ (w : WorldState). length w.numbers) is.state ∙ length-set old.numbers point.timeline _
numbers_stay old (Raise asked) (Raised point now) new is = ap (λ (w : WorldState). length w.numbers) is.state ∙ length-set old.numbers point.timeline _
numbers_stay old (Create pages) (Created id) new is = ap (λ (w : WorldState). length w.numbers) is.state
numbers_stay old (Destroy id) Destroyed new is = ap (λ (w : WorldState). length w.numbers) is.state
numbers_stay old Rewind (Rewound item) new is = ap (λ (w : WorldState). length w.numbers) is.state
numbers_stay old (Withdraw entry) (Withdrawn item) new is = ap (λ (w : WorldState). length w.numbers) is.state
numbers_stay old (Settle to) (Settled settled) new is = ap (λ (w : WorldState). length w.numbers) is.state
numbers_stay old (Forget queue to) (Forgot count) new is = ap (λ (w : WorldState). length w.numbers) is.state
numbers_stay old Trim Trimmed new is = ap (λ (w : WorldState). length w.numbers) is.state
numbers_stay old (JobBegin accesses) (Begun job places) new is = ap (λ (w : WorldState). length w.numbers) is.state
numbers_stay old (JobEnd asked) (Ended job) new is = ap (λ (w : WorldState). length w.numbers) is.state
numbers_stay old (Translate addr) (Found place) new is = ap (λ (w : WorldState). length w.numbers) is.1
numbers_stay old event reply new is = absurd is

-- nor does want of memory
pub numbers_after : (old : WorldState) (event : Event) (r : Result Reply OutOfMemory) (new : WorldState) → IsStep old event r new → length new.numbers ≡ length old.numbers
numbers_after old event (Ok reply) new is = numbers_stay old event reply new is
numbers_after old event (Err why) new is = ap (λ (w : WorldState). length w.numbers) is.1

numbers_ran : (old new : WorldState) (events : List Event) (replies : List Reply) → RunsWith IsSoundStep old events replies new → length new.numbers ≡ length old.numbers
numbers_ran old new [] [] ran = ap (λ (w : WorldState). length w.numbers) ran
numbers_ran old new (event ∷ events) (reply ∷ replies) ran = numbers_ran ran.0 new events replies ran.3 ∙ numbers_stay old event reply ran.0 ran.1
numbers_ran old new [] (reply ∷ replies) ran = absurd ran
numbers_ran old new (event ∷ events) [] ran = absurd ran

-- nor does a turn
pub numbers_turned : (gives_up : Bool) (queue : ℕ) (old : WorldState) (r : Result TurnResult OutOfMemory) (new : WorldState) → IsTurn gives_up queue old r new → length new.numbers ≡ length old.numbers
numbers_turned gives_up queue old (Ok turn) new took = numbers_ran old new took.carried_out.under_way.events took.replies took.carried_out.under_way.ran
numbers_turned gives_up queue old (Err why) new stopped = numbers_ran old new stopped.stopped.under_way.events stopped.replies stopped.stopped.under_way.ran
