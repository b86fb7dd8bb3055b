-- Events run one after another.
use Rattle.std.proofs.Common.{List, [], ◌∷◌, ◌++◌, refl, subst}
use Rattle.gv_vm.specs.World.{WorldState}
use Rattle.gv_vm.specs.Step.{step}
use Rattle.gv_vm.specs.Run.{RunsWith}
use Rattle.gv_vm.specs.declared.event.Event.{Event}
use Rattle.gv_vm.specs.declared.event.Reply.{Reply}

-- one event more
pub RunsWith-more : (Asked : WorldState → Event → Reply → WorldState → Type 0) (old mid new : WorldState) (events : List Event) (replies : List Reply) (event : Event) (reply : Reply) →
    RunsWith Asked old events replies mid → step mid event reply new → Asked mid event reply new → RunsWith Asked old (events ++ event ∷ []) (replies ++ reply ∷ []) new
RunsWith-more Asked old mid new [] [] event reply ran st asked =
    (new, subst (λ (w : WorldState). step w event reply new) ran st, subst (λ (w : WorldState). Asked w event reply new) ran asked, refl)
RunsWith-more Asked old mid new (e ∷ events) (r ∷ replies) event reply ran st asked =
    (ran.0, ran.1, ran.2, RunsWith-more Asked ran.0 mid new events replies event reply ran.3 st asked)
RunsWith-more Asked old mid new [] (r ∷ replies) event reply ran st asked = absurd ran
RunsWith-more Asked old mid new (e ∷ events) [] event reply ran st asked = absurd ran
