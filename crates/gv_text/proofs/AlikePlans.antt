-- Plans that ask the same of worlds that are the same, bare of memory: where no reply is want of memory, the replies are the same.
use Rattle.std.proofs.Common.{◌≡◌, ◌≢◌, ℕ, List, [], ◌∷◌, Option, Some, None, true, false, refl, sym, ap, ◌∙◌, subst}
use Rattle.gv_types.specs.declared.request.Point.{Point}
use Rattle.gv_types.specs.declared.request.Request.{Request}
use Rattle.gv_journal.specs.Bare.{BareRequest, bare_request}
use Rattle.gv_vm.specs.Alike.{AreAlikeWorlds, AreAlikeEvents, AreAlikeReplies}
use Rattle.gv_vm.specs.Headline.{IsSoundStep}
use Rattle.gv_vm.specs.Run.{RunsWith}
use Rattle.gv_vm.specs.World.{WorldState}
use Rattle.gv_vm.specs.declared.event.Event.{Event}
use Rattle.gv_vm.specs.declared.event.Event.TheVariants.{GiveUp}
use Rattle.gv_vm.specs.declared.event.Reply.{Reply}
use Rattle.gv_vm.specs.declared.event.Reply.TheVariants.{NotPut, Begun}
use Rattle.gv_vm.proofs.AlikeStepLemmas.{step_alike}
use Rattle.gv_text.specs.AlikePlans.{AreAskedAlike, AskAlike, AreAmple, StayAlike}
use Rattle.gv_vm.specs.Plans.{Plan, once, serving, taking, looks, carrying_out, payments, AreAsked, IsCarriedOut, nothing, is_put, is_taken, is_accepted, is_raised, looked_of, after_looks}
use Rattle.gv_vm.specs.declared.event.LookResult.{LookResult}
use Rattle.gv_vm.specs.declared.event.LookResult.TheVariants.{NoneLacked, Lacked, Other}
use Rattle.gv_vm.proofs.PlanLemmas.{put_goes, not_put, taken_goes, not_taken, reached_goes, look_ends, raised_goes, not_raised, accepted_goes, not_accepted}

-- What a served request goes on by is the same of the same replies.

same_of : {X : Type 0} (f : Reply → X) (x : X) (r r' : Reply) → ((fault : _) (request : Request) → f (NotPut fault request) ≡ x) →
    ((job : ℕ) (places : _) → f (Begun job places) ≡ x) → AreAlikeReplies r r' → f r ≡ f r'
same_of f x (NotPut fault request) (NotPut fault' request') not begun same = not fault request ∙ sym (not fault' request')
same_of f x (Begun job places) (Begun job' places') not begun same = begun job places ∙ sym (begun job' places')
same_of f x r r' not begun same = ap f same

put_alike : (r r' : Reply) → AreAlikeReplies r r' → is_put r ≡ is_put r'
put_alike r r' same = same_of is_put false r r' (λ fault request. refl) (λ job places. refl) same

taken_alike : (r r' : Reply) → AreAlikeReplies r r' → is_taken r ≡ is_taken r'
taken_alike r r' same = same_of is_taken false r r' (λ fault request. refl) (λ job places. refl) same

accepted_alike : (r r' : Reply) → AreAlikeReplies r r' → is_accepted r ≡ is_accepted r'
accepted_alike r r' same = same_of is_accepted false r r' (λ fault request. refl) (λ job places. refl) same

raised_alike : (r r' : Reply) → AreAlikeReplies r r' → is_raised r ≡ is_raised r'
raised_alike r r' same = same_of is_raised false r r' (λ fault request. refl) (λ job places. refl) same

looked_alike : (r r' : Reply) → AreAlikeReplies r r' → looked_of r ≡ looked_of r'
looked_alike r r' same = same_of looked_of Other r r' (λ fault request. refl) (λ job places. refl) same

-- One event.

pub once_alike : (e e' : Event) → AreAlikeEvents e e' → AskAlike (once e) (once e')
once_alike e e' same [] [] all = same
once_alike e e' same (r ∷ rs) (r' ∷ rs') all = tt
once_alike e e' same [] (r' ∷ rs') all = absurd all
once_alike e e' same (r ∷ rs) [] all = absurd all

-- The events of a request that is served.

-- so with other plans, as far as these replies
asked_as : (o o' p p' : Option Event) → o ≡ p → o' ≡ p' → AreAskedAlike p p' → AreAskedAlike o o'
asked_as o o' p p' is is' asked = rw (is, is') asked

payments_alike : (queue : ℕ) (signals : List Point) → AskAlike (payments queue signals) (payments queue signals)
payments_alike queue [] rs rs' all = tt
payments_alike queue (signal ∷ signals) [] [] all = refl
payments_alike queue (signal ∷ signals) (r ∷ rs) (r' ∷ rs') all =
    let plan = payments queue (signal ∷ signals) in
    (elim (is_raised r) as (λ b. is_raised r ≡ b → AreAskedAlike (plan (r ∷ rs)) (plan (r' ∷ rs'))) [
      | true ↦ λ is. asked_as (plan (r ∷ rs)) (plan (r' ∷ rs')) (payments queue signals rs) (payments queue signals rs')
          (raised_goes queue signal signals nothing r is rs) (raised_goes queue signal signals nothing r' (sym (raised_alike r r' all.0) ∙ is) rs')
          (payments_alike queue signals rs rs' all.1)
      | false ↦ λ is. asked_as (plan (r ∷ rs)) (plan (r' ∷ rs')) None None
          (not_raised queue signal signals nothing r is rs) (not_raised queue signal signals nothing r' (sym (raised_alike r r' all.0) ∙ is) rs') tt
    ]) refl
payments_alike queue (signal ∷ signals) [] (r' ∷ rs') all = absurd all
payments_alike queue (signal ∷ signals) (r ∷ rs) [] all = absurd all

carrying_alike : (queue : ℕ) (signals : List Point) → AskAlike (carrying_out queue signals) (carrying_out queue signals)
carrying_alike queue signals [] [] all = refl
carrying_alike queue signals (r ∷ rs) (r' ∷ rs') all =
    let plan = carrying_out queue signals in
    (elim (is_accepted r) as (λ b. is_accepted r ≡ b → AreAskedAlike (plan (r ∷ rs)) (plan (r' ∷ rs'))) [
      | true ↦ λ is. asked_as (plan (r ∷ rs)) (plan (r' ∷ rs')) (payments queue signals rs) (payments queue signals rs')
          (accepted_goes queue signals r is rs) (accepted_goes queue signals r' (sym (accepted_alike r r' all.0) ∙ is) rs')
          (payments_alike queue signals rs rs' all.1)
      | false ↦ λ is. asked_as (plan (r ∷ rs)) (plan (r' ∷ rs')) None None
          (not_accepted queue signals r is rs) (not_accepted queue signals r' (sym (accepted_alike r r' all.0) ∙ is) rs') tt
    ]) refl
carrying_alike queue signals [] (r' ∷ rs') all = absurd all
carrying_alike queue signals (r ∷ rs) [] all = absurd all

stopped_alike : (queue : ℕ) (signals : List Point) (came : LookResult) → AskAlike (after_looks true queue signals came) (after_looks true queue signals came)
stopped_alike queue signals NoneLacked rs rs' all = carrying_alike queue signals rs rs' all
stopped_alike queue signals Lacked rs rs' all = once_alike (GiveUp queue) (GiveUp queue) refl rs rs' all
stopped_alike queue signals Other rs rs' all = tt

looks_alike : (queue : ℕ) (waits signals : List Point) → AskAlike (looks true queue waits signals) (looks true queue waits signals)
looks_alike queue [] signals rs rs' all = carrying_alike queue signals rs rs' all
looks_alike queue (wait ∷ waits) signals [] [] all = refl
looks_alike queue (wait ∷ waits) signals (r ∷ rs) (r' ∷ rs') all =
    let plan = looks true queue (wait ∷ waits) signals in
    let same = looked_alike r r' all.0 in
    let stops = λ (came : LookResult) (is : looked_of r ≡ came) (ends : came ≢ NoneLacked).
    asked_as (plan (r ∷ rs)) (plan (r' ∷ rs')) (after_looks true queue signals came rs) (after_looks true queue signals came rs')
    (look_ends true queue wait waits signals r (λ e. ends (sym is ∙ e)) rs ∙ ap (λ (c : LookResult). after_looks true queue signals c rs) is)
    (look_ends true queue wait waits signals r' (λ e. ends (sym is ∙ same ∙ e)) rs' ∙ ap (λ (c : LookResult). after_looks true queue signals c rs') (sym same ∙ is))
    (stopped_alike queue signals came rs rs' all.1) in
    (elim (looked_of r) as (λ came. looked_of r ≡ came → AreAskedAlike (plan (r ∷ rs)) (plan (r' ∷ rs'))) [
      | NoneLacked ↦ λ is. asked_as (plan (r ∷ rs)) (plan (r' ∷ rs')) (looks true queue waits signals rs) (looks true queue waits signals rs')
          (reached_goes true queue wait waits signals r is rs) (reached_goes true queue wait waits signals r' (sym same ∙ is) rs')
          (looks_alike queue waits signals rs rs' all.1)
      | Lacked ↦ λ is. stops Lacked is (λ e. cc)
      | Other ↦ λ is. stops Other is (λ e. cc)
    ]) refl
looks_alike queue (wait ∷ waits) signals [] (r' ∷ rs') all = absurd all
looks_alike queue (wait ∷ waits) signals (r ∷ rs) [] all = absurd all

-- the same requests have the same waits and signals
looks_of_alike : (queue : ℕ) (request request' : Request) → bare_request request ≡ bare_request request' →
    AskAlike (looks true queue request.waits.items request.signals.items) (looks true queue request'.waits.items request'.signals.items)
looks_of_alike queue request request' seen =
    let waits : request.waits.items ≡ request'.waits.items = ap (λ (s : BareRequest). s.waits) seen in
    let signals : request.signals.items ≡ request'.signals.items = ap (λ (s : BareRequest). s.signals) seen in
    rw (waits, signals) (looks_alike queue request'.waits.items request'.signals.items)

taking_alike : (queue : ℕ) (request request' : Request) → bare_request request ≡ bare_request request' →
    AskAlike (taking true queue request) (taking true queue request')
taking_alike queue request request' seen [] [] all = refl
taking_alike queue request request' seen (r ∷ rs) (r' ∷ rs') all =
    let plan = taking true queue request in
    let plan' = taking true queue request' in
    (elim (is_taken r) as (λ b. is_taken r ≡ b → AreAskedAlike (plan (r ∷ rs)) (plan' (r' ∷ rs'))) [
      | true ↦ λ is. asked_as (plan (r ∷ rs)) (plan' (r' ∷ rs')) (looks true queue request.waits.items request.signals.items rs) (looks true queue request'.waits.items request'.signals.items rs')
          (taken_goes true queue request r is rs) (taken_goes true queue request' r' (sym (taken_alike r r' all.0) ∙ is) rs')
          (looks_of_alike queue request request' seen rs rs' all.1)
      | false ↦ λ is. asked_as (plan (r ∷ rs)) (plan' (r' ∷ rs')) None None
          (not_taken true queue request r is rs) (not_taken true queue request' r' (sym (taken_alike r r' all.0) ∙ is) rs') tt
    ]) refl
taking_alike queue request request' seen [] (r' ∷ rs') all = absurd all
taking_alike queue request request' seen (r ∷ rs) [] all = absurd all

-- the same request
pub serving_alike : (queue : ℕ) (request request' : Request) → bare_request request ≡ bare_request request' → AskAlike (serving queue request) (serving queue request')
serving_alike queue request request' seen [] [] all = (refl, seen)
serving_alike queue request request' seen (r ∷ rs) (r' ∷ rs') all =
    let plan = serving queue request in
    let plan' = serving queue request' in
    (elim (is_put r) as (λ b. is_put r ≡ b → AreAskedAlike (plan (r ∷ rs)) (plan' (r' ∷ rs'))) [
      | true ↦ λ is. asked_as (plan (r ∷ rs)) (plan' (r' ∷ rs')) (taking true queue request rs) (taking true queue request' rs')
          (put_goes queue request r is rs) (put_goes queue request' r' (sym (put_alike r r' all.0) ∙ is) rs')
          (taking_alike queue request request' seen rs rs' all.1)
      | false ↦ λ is. asked_as (plan (r ∷ rs)) (plan' (r' ∷ rs')) None None
          (not_put queue request r is rs) (not_put queue request' r' (sym (put_alike r r' all.0) ∙ is) rs') tt
    ]) refl
serving_alike queue request request' seen [] (r' ∷ rs') all = absurd all
serving_alike queue request request' seen (r ∷ rs) [] all = absurd all

-- Plans carried out to their end.

runs_alike : (plan plan' : Plan) (events events' : List Event) (rs rs' : List Reply) (w w' x x' : WorldState) →
    AreAlikeWorlds w w' → AskAlike plan plan' →
    AreAsked plan events rs → AreAsked plan' events' rs' → RunsWith IsSoundStep w events rs x → RunsWith IsSoundStep w' events' rs' x' →
    plan rs ≡ None → plan' rs' ≡ None → AreAmple rs → AreAmple rs' → StayAlike rs rs' x x'
runs_alike plan plan' [] [] [] [] w w' x x' alike ask asked asked' ran ran' done done' ample ample' = record {
  replies_are = tt;
  worlds = rw (ran, ran') alike;
}
runs_alike plan plan' [] (e' ∷ es') [] (r' ∷ rs') w w' x x' alike ask asked asked' ran ran' done done' ample ample' =
    absurd (subst (λ (o : Option Event). AreAskedAlike None o) asked'.0 (subst (λ (o : Option Event). AreAskedAlike o (plan' [])) done (ask [] [] tt)))
runs_alike plan plan' (e ∷ es) [] (r ∷ rs) [] w w' x x' alike ask asked asked' ran ran' done done' ample ample' =
    absurd (subst (λ (o : Option Event). AreAskedAlike (Some e) o) done' (subst (λ (o : Option Event). AreAskedAlike o (plan' [])) asked.0 (ask [] [] tt)))
runs_alike plan plan' (e ∷ es) (e' ∷ es') (r ∷ rs) (r' ∷ rs') w w' x x' alike ask asked asked' ran ran' done done' ample ample' =
    let events : AreAlikeEvents e e' =
    subst (λ (o : Option Event). AreAskedAlike (Some e) o) asked'.0 (subst (λ (o : Option Event). AreAskedAlike o (plan' [])) asked.0 (ask [] [] tt)) in
    let here = step_alike w w' alike e e' r r' ran.0 ran'.0 events ample.0 ample'.0 ran.1 ran'.1 in
    let rest = runs_alike (λ later. plan (r ∷ later)) (λ later. plan' (r' ∷ later)) es es' rs rs' ran.0 ran'.0 x x'
    here.worlds (λ later later' same. ask (r ∷ later) (r' ∷ later') (here.replies, same))
    asked.1 asked'.1 ran.3 ran'.3 done done' ample.1 ample'.1 in
    record {
      replies_are = (here.replies, rest.replies_are);
      worlds = rest.worlds;
    }
runs_alike plan plan' [] events' (r ∷ rs) rs' w w' x x' alike ask asked asked' ran ran' done done' ample ample' = absurd asked
runs_alike plan plan' (e ∷ es) events' [] rs' w w' x x' alike ask asked asked' ran ran' done done' ample ample' = absurd asked
runs_alike plan plan' events [] rs (r' ∷ rs') w w' x x' alike ask asked asked' ran ran' done done' ample ample' = absurd asked'
runs_alike plan plan' events (e' ∷ es') rs [] w w' x x' alike ask asked asked' ran ran' done done' ample ample' = absurd asked'

-- where no reply is want of memory, plans that ask the same are told the same
pub carried_alike : (plan plan' : Plan) (rs rs' : List Reply) (w w' x x' : WorldState) →
    AreAlikeWorlds w w' → AskAlike plan plan' →
    IsCarriedOut plan w rs x → IsCarriedOut plan' w' rs' x' → AreAmple rs → AreAmple rs' → StayAlike rs rs' x x'
carried_alike plan plan' rs rs' w w' x x' alike ask out out' ample ample' =
    runs_alike plan plan' out.under_way.events out'.under_way.events rs rs' w w' x x' alike ask out.under_way.asked out'.under_way.asked
    out.under_way.ran out'.under_way.ran out.done out'.done ample ample'
