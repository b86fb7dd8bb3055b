-- Replies of which none is want of memory, and the event of a plan of one.
use Rattle.std.proofs.Common.{◌≡◌, ◌≢◌, ℕ, Bool, true, false, ◌||◌, List, [], ◌∷◌, None, refl, sym, subst}
use Rattle.std.specs.List.{list_any}
use Rattle.std.proofs.lemmas.Option.{none-some, same_Some}
use Rattle.gv_types.specs.declared.fault.Fault.{Fault}
use Rattle.gv_types.specs.declared.fault.Fault.TheVariants.{OutOfMemory}
use Rattle.gv_vm.specs.Alike.{IsAmple, IsAmpleReply}
use Rattle.gv_vm.specs.Headline.{IsSoundStep}
use Rattle.gv_vm.specs.Run.{RunsWith}
use Rattle.gv_vm.specs.Step.{step}
use Rattle.gv_vm.specs.World.{WorldState}
use Rattle.gv_vm.specs.declared.event.Event.{Event}
use Rattle.gv_vm.specs.declared.event.Event.TheVariants.{Create}
use Rattle.gv_vm.specs.declared.event.Reply.{Reply}
use Rattle.gv_vm.specs.declared.event.Reply.TheVariants.{Told}
use Rattle.gv_vm.specs.declared.outcome.Outcome.{Outcome}
use Rattle.gv_vm.specs.declared.outcome.Outcome.TheVariants.{Refused as RefusedAt}
use Rattle.gv_text.specs.AlikePlans.{AreAmple}
use Rattle.gv_vm.specs.Plans.{once, AreAsked}
use Rattle.gv_session.specs.ReplyTexts.{is_out_of_memory, outcome_out_of_memory, reply_out_of_memory}

-- No reply is want of memory where none is told so.

neither : (a b : Bool) → a || b ≡ false → (a ≡ false) × (b ≡ false)
neither true b ample = absurd cc
neither false b ample = (refl, ample)

other_fault : (fault : Fault) → is_out_of_memory fault ≡ false → fault ≢ OutOfMemory
other_fault fault ample = λ is. let memory : is_out_of_memory OutOfMemory ≡ false = subst (λ (f : Fault). is_out_of_memory f ≡ false) is ample in absurd cc

ample_outcome : (outcome : Outcome) → outcome_out_of_memory outcome ≡ false → IsAmple outcome
ample_outcome (RefusedAt op fault) ample = other_fault fault ample
ample_outcome outcome ample = tt

ample_reply : (r : Reply) → reply_out_of_memory r ≡ false → IsAmpleReply r
ample_reply (Told number outcome) ample = ample_outcome outcome ample
ample_reply r ample = tt

pub are_ample : (rs : List Reply) → list_any reply_out_of_memory rs ≡ false → AreAmple rs
are_ample [] ample = tt
are_ample (r ∷ rs) ample =
    let each = neither (reply_out_of_memory r) (list_any reply_out_of_memory rs) ample in
    (ample_reply r each.0, are_ample rs each.1)

-- making a buffer is not told as an outcome
pub ample_made : (w x : WorldState) (pages : ℕ) (r : Reply) → step w (Create pages) r x → IsAmpleReply r
ample_made w x pages (Told number outcome) is = absurd is
ample_made w x pages r is = tt

-- the first event of a plan of one
pub first_step : (e : Event) (events : List Event) (r : Reply) (rs : List Reply) (w x : WorldState) → AreAsked (once e) events (r ∷ rs) → RunsWith IsSoundStep w events (r ∷ rs) x →
    (mid : WorldState) × step w e r mid
first_step e [] r rs w x asked ran = absurd asked
first_step e (f ∷ fs) r rs w x asked ran = (ran.0, subst (λ (k : Event). step w k r ran.0) (sym (same_Some e f asked.0)) ran.1)

-- it is the only one
pub once_only : (e : Event) (events : List Event) (rs : List Reply) (w x : WorldState) → AreAsked (once e) events rs → RunsWith IsSoundStep w events rs x → once e rs ≡ None →
    (r : Reply) × (rs ≡ r ∷ []) × step w e r x
once_only e [] [] w x asked ran done = absurd cc
once_only e [] (r ∷ rs) w x asked ran done = absurd asked
once_only e (f ∷ fs) [] w x asked ran done = absurd asked
once_only e (f ∷ []) (r ∷ []) w x asked ran done =
    (r, refl, subst (λ (y : WorldState). step w e r y) (sym ran.3) (subst (λ (k : Event). step w k r ran.0) (sym (same_Some e f asked.0)) ran.1))
once_only e (f ∷ []) (r ∷ (q ∷ qs)) w x asked ran done = absurd asked.1
once_only e (f ∷ (g ∷ gs)) (r ∷ []) w x asked ran done = absurd asked.1
once_only e (f ∷ (g ∷ gs)) (r ∷ (q ∷ qs)) w x asked ran done = absurd (none-some g asked.1.0)
