-- For callers: the same put or take on a queue in worlds that are alike.
use Rattle.std.proofs.Common.{◌≡◌, ℕ, inl, inr, refl, sym, ap, ◌∙◌, subst}
use Rattle.std.specs.Prelude.{◌⊎◌}
use Rattle.std.proofs.lemmas.Option.{none-some, same_Some}
use Rattle.gv_types.specs.declared.fault.Fault.{Fault}
use Rattle.gv_types.specs.declared.request.Request.{Request}
use Rattle.gv_journal.specs.Bare.{bare_request}
use Rattle.gv_vm.specs.World.{WorldState}
use Rattle.gv_vm.specs.Step.{IsEnabled, IsPutAs, IsNotPut, IsTaken, step}
use Rattle.gv_vm.specs.Alike.{AreAlikeWorlds, StaysAlike}
use Rattle.gv_vm.specs.declared.event.Event.{Event}
use Rattle.gv_vm.specs.declared.event.Event.TheVariants.{Put, Take}
use Rattle.gv_vm.specs.declared.event.Reply.{Reply}
use Rattle.gv_vm.specs.declared.event.Reply.TheVariants.{Idle, Put as IsPut, NotPut, Taken, Refused}
use Rattle.gv_vm.proofs.AlikeQueueLemmas.{put_fault_alike, put_alike, taken_alike}
use Rattle.gv_vm.proofs.AlikeEnabledLemmas.{AreAlikeWorlds-sym, put_enabled, take_enabled}

-- the event isn't enabled
pub record IsIdle (w : WorldState) (event : Event) (reply : Reply) (x : WorldState) : Type 0 where
  pub is : reply ≡ Idle
  pub disabled : ¬ IsEnabled w event
  pub same : x ≡ w

-- replies told by equations
pub moved : (r r' a a' : Reply) (x x' : WorldState) → r ≡ a → r' ≡ a' → StaysAlike a a' x x' → StaysAlike r r' x x'
moved r r' a a' x x' is is' stays =
    subst (λ y. StaysAlike y r' x x') (sym is) (subst (λ y. StaysAlike a y x x') (sym is') stays)

module _ (w w' : WorldState) (alike : AreAlikeWorlds w w') where
  pub unchanged : (x x' : WorldState) → x ≡ w → x' ≡ w' → StaysAlike Idle Idle x x'
  unchanged x x' is is' = record {
    replies = refl;
    worlds = subst (λ z. AreAlikeWorlds z x') (sym is) (subst (AreAlikeWorlds w) (sym is') alike);
  }

  -- the event is enabled in both worlds or in none
  pub pair : {D D' : Type 0} (e e' : Event) (r r' : Reply) (x x' : WorldState) → (IsIdle w e r x) ⊎ D → (IsIdle w' e' r' x') ⊎ D' → (D → IsEnabled w e) → (D' → IsEnabled w' e') →
      (IsEnabled w e → IsEnabled w' e') → (IsEnabled w' e' → IsEnabled w e) → (D → D' → StaysAlike r r' x x') → StaysAlike r r' x x'
  pair e e' r r' x x' (inl idle) (inl idle') enabled enabled' there back both = moved r r' Idle Idle x x' idle.is idle'.is (unchanged x x' idle.same idle'.same)
  pair e e' r r' x x' (inl idle) (inr done') enabled enabled' there back both = absurd (idle.disabled (back (enabled' done')))
  pair e e' r r' x x' (inr done) (inl idle') enabled enabled' there back both = absurd (idle'.disabled (there (enabled done)))
  pair e e' r r' x x' (inr done) (inr done') enabled enabled' there back both = both done done'

-- A request is put.

pub record PutDone (w : WorldState) (n : ℕ) (request : Request) (r : Reply) (x : WorldState) : Type 0 where
  pub number : ℕ
  pub is : r ≡ IsPut number
  pub put : IsPutAs w n request number x

pub record PutRefused (w : WorldState) (n : ℕ) (request : Request) (r : Reply) (x : WorldState) : Type 0 where
  pub fault : Fault
  pub back : Request
  pub is : r ≡ NotPut fault back
  pub put : IsNotPut w n request fault back x

put_cases : (w x : WorldState) (n : ℕ) (request : Request) (r : Reply) → step w (Put n request) r x → (IsIdle w (Put n request) r x) ⊎ (PutDone w n request r x ⊎ PutRefused w n request r x)
put_cases w x n request Idle is = inl (record { is = refl; disabled = is.0; same = is.1 })
put_cases w x n request (Refused fault) is = absurd (none-some fault is.0)
put_cases w x n request (IsPut number) is = inr (inl (record { number = number; is = refl; put = is }))
put_cases w x n request (NotPut fault back) is = inr (inr (record { fault = fault; back = back; is = refl; put = is }))
put_cases w x n request r is = absurd is

put_enabled_by : (w x : WorldState) (n : ℕ) (request : Request) (r : Reply) → (PutDone w n request r x ⊎ PutRefused w n request r x) → IsEnabled w (Put n request)
put_enabled_by w x n request r (inl done) = done.put.enabled
put_enabled_by w x n request r (inr done) = done.put.enabled

module _ (w w' : WorldState) (alike : AreAlikeWorlds w w') where
  put_both : (n : ℕ) (request request' : Request) (r r' : Reply) (x x' : WorldState) → bare_request request ≡ bare_request request' →
      (PutDone w n request r x ⊎ PutRefused w n request r x) → (PutDone w' n request' r' x' ⊎ PutRefused w' n request' r' x') → StaysAlike r r' x x'
  put_both n request request' r r' x x' same (inl done) (inl done') =
      let now = put_alike w w' alike n done.number done'.number request request' x x' same done.put done'.put in
      moved r r' (IsPut done.number) (IsPut done'.number) x x' done.is done'.is
      (record { replies = ap (λ k. IsPut k) now.0; worlds = now.1 })
  put_both n request request' r r' x x' same (inl done) (inr done') =
      absurd (none-some done'.fault (sym done.put.allowed ∙ put_fault_alike w w' alike n ∙ done'.put.refused))
  put_both n request request' r r' x x' same (inr done) (inl done') =
      absurd (none-some done.fault (sym done'.put.allowed ∙ sym (put_fault_alike w w' alike n) ∙ done.put.refused))
  put_both n request request' r r' x x' same (inr done) (inr done') =
      let fault : done.fault ≡ done'.fault = same_Some done.fault done'.fault (sym done.put.refused ∙ put_fault_alike w w' alike n ∙ done'.put.refused) in
      let back : bare_request done.back ≡ bare_request done'.back = ap bare_request done.put.returned ∙ same ∙ sym (ap bare_request done'.put.returned) in
      moved r r' (NotPut done.fault done.back) (NotPut done'.fault done'.back) x x' done.is done'.is
      (record {
        replies = (fault, back);
        worlds = subst (λ z. AreAlikeWorlds z x') (sym done.put.state) (subst (AreAlikeWorlds w) (sym done'.put.state) alike);
      })

  pub put_step : (n : ℕ) (request request' : Request) (r r' : Reply) (x x' : WorldState) → bare_request request ≡ bare_request request' →
      step w (Put n request) r x → step w' (Put n request') r' x' → StaysAlike r r' x x'
  put_step n request request' r r' x x' same is is' =
      pair w w' alike (Put n request) (Put n request') r r' x x' (put_cases w x n request r is) (put_cases w' x' n request' r' is')
      (put_enabled_by w x n request r) (put_enabled_by w' x' n request' r')
      (put_enabled w w' alike n request request' same) (put_enabled w' w (AreAlikeWorlds-sym w w' alike) n request' request (sym same))
      (put_both n request request' r r' x x' same)

-- One is taken.

pub record TakeDone (w : WorldState) (n : ℕ) (r : Reply) (x : WorldState) : Type 0 where
  pub number : ℕ
  pub is : r ≡ Taken number
  pub took : IsTaken w n number x

take_cases : (w x : WorldState) (n : ℕ) (r : Reply) → step w (Take n) r x → (IsIdle w (Take n) r x) ⊎ TakeDone w n r x
take_cases w x n Idle is = inl (record { is = refl; disabled = is.0; same = is.1 })
take_cases w x n (Refused fault) is = absurd (none-some fault is.0)
take_cases w x n (Taken number) is = inr (record { number = number; is = refl; took = is })
take_cases w x n r is = absurd is

module _ (w w' : WorldState) (alike : AreAlikeWorlds w w') where
  pub take_step : (n : ℕ) (r r' : Reply) (x x' : WorldState) → step w (Take n) r x → step w' (Take n) r' x' → StaysAlike r r' x x'
  take_step n r r' x x' is is' =
      pair w w' alike (Take n) (Take n) r r' x x' (take_cases w x n r is) (take_cases w' x' n r' is')
      (λ done. done.took.enabled) (λ done. done.took.enabled)
      (take_enabled w w' alike n) (take_enabled w' w (AreAlikeWorlds-sym w w' alike) n)
      (λ done done'.
      let now = taken_alike w w' alike n done.number done'.number x x' done.took done'.took in
      moved r r' (Taken done.number) (Taken done'.number) x x' done.is done'.is
      (record { replies = ap (λ k. Taken k) now.0; worlds = now.1 }))
