-- For callers: the same event in worlds that are the same, bare of memory, where no reply is want of memory: the replies are the same,
-- and the worlds go on to be so.
use Rattle.std.proofs.Common.{◌≡◌, ℕ, Vec, Global, inl, inr, refl, sym, ap, ◌∙◌, subst}
use Rattle.std.specs.Prelude.{List, ◌⊎◌}
use Rattle.gv_vm.specs.Jobs.{begin_fault, IsBegun, IsEnded}
use Rattle.gv_vm.specs.World.{WorldState}
use Rattle.gv_vm.specs.Step.{IsBegunNow, IsEndedNow, step}
use Rattle.gv_vm.specs.Alike.{AreAlikeEvents, AreAlikeWorlds, IsAmpleReply, StaysAlike}
use Rattle.gv_vm.specs.declared.event.Event.{Event}
use Rattle.gv_vm.specs.declared.event.Event.TheVariants.{Put, Take, Look, Bind, GiveUp, Pay, Raise, Create, Destroy, Rewind, Withdraw, Settle, Forget, Trim, JobBegin, JobEnd, Translate}
use Rattle.gv_vm.specs.declared.event.Reply.{Reply}
use Rattle.gv_vm.specs.declared.event.Reply.TheVariants.{Idle, Begun, Ended, Refused}
use Rattle.gv_vm.specs.declared.jobs.Access.{Access}
use Rattle.gv_vm.specs.declared.jobs.Job.{Job}
use Rattle.gv_vm.specs.declared.places.Place.{Place}
use Rattle.gv_vm.proofs.AlikeVmLemmas.{begun_alike, ended_alike, places_alike, job_number_alike}
use Rattle.gv_vm.proofs.AlikeBindLemmas.{vms_alike}
use Rattle.gv_vm.proofs.AlikeTakingLemmas.{moved, put_step, take_step}
use Rattle.gv_vm.proofs.AlikeServingLemmas.{look_step, bind_step, give_up_step, pay_step, raise_step}
use Rattle.gv_vm.proofs.AlikeCallLemmas.{IsRefusal, call_pair, create_step, destroy_step, trim_step, translate_step}
use Rattle.gv_vm.proofs.AlikeUndoStepLemmas.{rewind_step, withdraw_step, settle_step, forget_step}

-- A job begins.

pub record BeginDone (w : WorldState) (accesses : List Access) (r : Reply) (x : WorldState) : Type 0 where
  pub number : ℕ
  pub places : Vec Place Global
  pub is : r ≡ Begun number places
  pub begun : IsBegunNow w accesses (record { number = number; places = places }) x

begin_cases : (w x : WorldState) (accesses : Vec Access Global) (r : Reply) → step w (JobBegin accesses) r x → (IsRefusal w (JobBegin accesses) r x) ⊎ BeginDone w accesses.items r x
begin_cases w x accesses Idle is = absurd (is.0 tt)
begin_cases w x accesses (Refused fault) is = inl (record { fault = fault; is = refl; why = is.0; rest = is.1 })
begin_cases w x accesses (Begun number places) is = inr (record { number = number; places = places; is = refl; begun = is })
begin_cases w x accesses r is = absurd is

-- It ends.

pub record EndDone (w : WorldState) (asked : ℕ) (r : Reply) (x : WorldState) : Type 0 where
  pub job : ℕ
  pub is : r ≡ Ended job
  pub ended : IsEndedNow w asked job x

end_cases : (w x : WorldState) (asked : ℕ) (r : Reply) → step w (JobEnd asked) r x → (IsRefusal w (JobEnd asked) r x) ⊎ EndDone w asked r x
end_cases w x asked Idle is = absurd (is.0 tt)
end_cases w x asked (Refused fault) is = inl (record { fault = fault; is = refl; why = is.0; rest = is.1 })
end_cases w x asked (Ended job) is = inr (record { job = job; is = refl; ended = is })
end_cases w x asked r is = absurd is

module _ (w w' : WorldState) (alike : AreAlikeWorlds w w') where
  begin_step : (accesses accesses' : Vec Access Global) (r r' : Reply) (x x' : WorldState) → accesses.items ≡ accesses'.items → step w (JobBegin accesses) r x → step w' (JobBegin accesses') r' x' →
      StaysAlike r r' x x'
  begin_step accesses accesses' r r' x x' same is is' =
      call_pair w w' alike (JobBegin accesses) (JobBegin accesses') r r' x x' (begin_cases w x accesses r is) (begin_cases w' x' accesses' r' is')
      (ap (begin_fault w'.vm.space w'.vm.jobs) same)
      (λ done. done.begun.allowed) (λ done. done.begun.allowed)
      (λ done done'.
      let job : Job = record { number = done.number; places = done.places } in
      let job' : Job = record { number = done'.number; places = done'.places } in
      let now' : IsBegun w'.vm.space x'.vm.space w'.vm.jobs x'.vm.jobs accesses.items job' =
      subst (λ asked. IsBegun w'.vm.space x'.vm.space w'.vm.jobs x'.vm.jobs asked job') (sym same) done'.begun.begun in
      moved r r' (Begun done.number done.places) (Begun done'.number done'.places) x x' done.is done'.is
      (record {
        replies = (
          job_number_alike w.vm w'.vm alike.vm x.vm x'.vm accesses.items job job' done.begun.begun now',
          places_alike w.vm w'.vm alike.vm x.vm x'.vm accesses.items job job' done.begun.begun now',
        );
        worlds = vms_alike w w' alike x x' done.begun.state done'.begun.state
            (begun_alike w.vm w'.vm alike.vm x.vm x'.vm accesses.items job job' done.begun.begun now' done.begun.vm done'.begun.vm);
      }))

  end_step : (asked : ℕ) (r r' : Reply) (x x' : WorldState) → step w (JobEnd asked) r x → step w' (JobEnd asked) r' x' → StaysAlike r r' x x'
  end_step asked r r' x x' is is' =
      call_pair w w' alike (JobEnd asked) (JobEnd asked) r r' x x' (end_cases w x asked r is) (end_cases w' x' asked r' is') refl
      (λ done. done.ended.allowed) (λ done. done.ended.allowed)
      (λ done done'.
      let one : done.job ≡ done'.job = done.ended.job_is ∙ sym done'.ended.job_is in
      let now' = subst (λ k. IsEnded w'.vm.space x'.vm.space w'.vm.jobs x'.vm.jobs k) (sym one) done'.ended.ended in
      moved r r' (Ended done.job) (Ended done'.job) x x' done.is done'.is
      (record {
        replies = ap (λ k. Ended k) one;
        worlds = vms_alike w w' alike x x' done.ended.state done'.ended.state
            (ended_alike w.vm w'.vm alike.vm x.vm x'.vm done.job done.ended.ended now' done.ended.vm done'.ended.vm);
      }))

  -- one event
  one_step : (e : Event) (r r' : Reply) (x x' : WorldState) → IsAmpleReply r → IsAmpleReply r' → step w e r x → step w' e r' x' → StaysAlike r r' x x'
  one_step (Put n request) r r' x x' ample ample' is is' = put_step w w' alike n request request r r' x x' refl is is'
  one_step (Take n) r r' x x' ample ample' is is' = take_step w w' alike n r r' x x' is is'
  one_step (Look n) r r' x x' ample ample' is is' = look_step w w' alike n r r' x x' is is'
  one_step (Bind n) r r' x x' ample ample' is is' = bind_step w w' alike n r r' x x' ample ample' is is'
  one_step (GiveUp n) r r' x x' ample ample' is is' = give_up_step w w' alike n r r' x x' is is'
  one_step (Pay n) r r' x x' ample ample' is is' = pay_step w w' alike n r r' x x' is is'
  one_step (Raise point) r r' x x' ample ample' is is' = raise_step w w' alike point r r' x x' is is'
  one_step (Create size) r r' x x' ample ample' is is' = create_step w w' alike size r r' x x' is is'
  one_step (Destroy id) r r' x x' ample ample' is is' = destroy_step w w' alike id r r' x x' is is'
  one_step Rewind r r' x x' ample ample' is is' = rewind_step w w' alike r r' x x' is is'
  one_step (Withdraw entry) r r' x x' ample ample' is is' = withdraw_step w w' alike entry r r' x x' is is'
  one_step (Settle to) r r' x x' ample ample' is is' = settle_step w w' alike to r r' x x' is is'
  one_step (Forget n to) r r' x x' ample ample' is is' = forget_step w w' alike n to r r' x x' is is'
  one_step Trim r r' x x' ample ample' is is' = trim_step w w' alike r r' x x' is is'
  one_step (JobBegin accesses) r r' x x' ample ample' is is' = begin_step accesses accesses r r' x x' refl is is'
  one_step (JobEnd job) r r' x x' ample ample' is is' = end_step job r r' x x' is is'
  one_step (Translate addr) r r' x x' ample ample' is is' = translate_step w w' alike addr r r' x x' is is'

  same_step : (e e' : Event) (r r' : Reply) (x x' : WorldState) → e ≡ e' → IsAmpleReply r → IsAmpleReply r' → step w e r x → step w' e' r' x' → StaysAlike r r' x x'
  same_step e e' r r' x x' same ample ample' is is' = one_step e r r' x x' ample ample' is (subst (λ (event : Event). step w' event r' x') (sym same) is')

  -- the same event
  pub step_alike : (e e' : Event) (r r' : Reply) (x x' : WorldState) → AreAlikeEvents e e' → IsAmpleReply r → IsAmpleReply r' → step w e r x → step w' e' r' x' → StaysAlike r r' x x'
  step_alike (Put n request) (Put n' request') r r' x x' same ample ample' is is' =
      put_step w w' alike n request request' r r' x x' same.1 is (subst (λ k. step w' (Put k request') r' x') (sym same.0) is')
  step_alike (JobBegin accesses) (JobBegin accesses') r r' x x' same ample ample' is is' = begin_step accesses accesses' r r' x x' same is is'
  step_alike e e' r r' x x' same ample ample' is is' = same_step e e' r r' x x' same ample ample' is is'

-- a world is the same as itself
pub AreAlikeWorlds-itself : (w : WorldState) → AreAlikeWorlds w w
AreAlikeWorlds-itself w = record {
  vm = record { space = refl; journal = refl; jobs = refl; told = refl; forgotten = refl };
  numbers = refl;
  depth = refl;
  queues = refl;
}
