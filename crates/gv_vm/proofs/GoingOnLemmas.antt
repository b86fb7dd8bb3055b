-- For callers: a world that goes on after want of memory, by one answer more, and as a run of the events that got a reply.
use Rattle.std.proofs.Common.{List, [], ◌∷◌, ◌++◌, Result, Ok, Err, refl, subst}
use Rattle.std.specs.Prelude.{IfOk}
use Rattle.gv_types.specs.declared.fault.OutOfMemory.{OutOfMemory as WantOfMemory}
use Rattle.gv_vm.specs.World.{WorldState}
use Rattle.gv_vm.specs.Step.{IsStep}
use Rattle.gv_vm.specs.Run.{RunsWith, GoesOnWith, replied_to, replies_in}
use Rattle.gv_vm.specs.declared.event.Event.{Event}
use Rattle.gv_vm.specs.declared.event.Reply.{Reply}

pub as_run : (Asked : WorldState → Event → Reply → WorldState → Type 0) (old new : WorldState) (events : List Event) (answers : List (Result Reply WantOfMemory)) →
    GoesOnWith Asked old events answers new → RunsWith Asked old (replied_to events answers) (replies_in answers) new
as_run Asked old new [] [] goes = goes
as_run Asked old new (event ∷ events) (Ok reply ∷ answers) goes = (goes.0, goes.1, goes.2, as_run Asked goes.0 new events answers goes.3)
as_run Asked old new (event ∷ events) (Err want ∷ answers) goes = as_run Asked old new events answers goes.1
as_run Asked old new [] (answer ∷ answers) goes = absurd goes
as_run Asked old new (event ∷ events) [] goes = absurd goes

last : (Asked : WorldState → Event → Reply → WorldState → Type 0) (mid new : WorldState) (event : Event) (answer : Result Reply WantOfMemory) → IsStep mid event answer new →
    IfOk answer (λ reply. Asked mid event reply new) → GoesOnWith Asked mid (event ∷ []) (answer ∷ []) new
last Asked mid new event (Ok reply) st asked = (new, st, asked, refl)
last Asked mid new event (Err want) st asked = (st.0, st.1)

pub one_answer_more : (Asked : WorldState → Event → Reply → WorldState → Type 0) (old mid new : WorldState) (events : List Event) (answers : List (Result Reply WantOfMemory)) (event : Event) (answer : Result Reply WantOfMemory) →
    GoesOnWith Asked old events answers mid → IsStep mid event answer new → IfOk answer (λ reply. Asked mid event reply new) →
    GoesOnWith Asked old (events ++ event ∷ []) (answers ++ answer ∷ []) new
one_answer_more Asked old mid new [] [] event answer goes st asked =
    subst (λ (w : WorldState). GoesOnWith Asked w (event ∷ []) (answer ∷ []) new) goes (last Asked mid new event answer st asked)
one_answer_more Asked old mid new (e ∷ events) (Ok reply ∷ answers) event answer goes st asked =
    (goes.0, goes.1, goes.2, one_answer_more Asked goes.0 mid new events answers event answer goes.3 st asked)
one_answer_more Asked old mid new (e ∷ events) (Err want ∷ answers) event answer goes st asked =
    (goes.0, one_answer_more Asked old mid new events answers event answer goes.1 st asked)
one_answer_more Asked old mid new [] (a ∷ answers) event answer goes st asked = absurd goes
one_answer_more Asked old mid new (e ∷ events) [] event answer goes st asked = absurd goes
