-- For callers: the same call in worlds that are the same, bare of memory.
use Rattle.std.proofs.Common.{◌≡◌, ℕ, List, Option, Some, None, inl, inr, refl, sym, ap, ◌∙◌, subst}
use Rattle.std.specs.Prelude.{◌⊎◌}
use Rattle.std.proofs.lemmas.Option.{none-some, same_Some}
use Rattle.gv_types.specs.declared.fault.Fault.{Fault}
use Rattle.gv_types.specs.declared.mapping.BufferId.{BufferId}
use Rattle.gv_types.specs.declared.mapping.Mapping.{Mapping}
use Rattle.gv_vm.specs.Places.{place_at}
use Rattle.gv_vm.specs.State.{VmState}
use Rattle.gv_vm.specs.World.{WorldState}
use Rattle.gv_vm.specs.Step.{event_fault, IsCreatedNow, IsDestroyedNow, IsTrimmedNow, HasOtherEntries, step}
use Rattle.gv_vm.specs.Alike.{AreAlikeWorlds, StaysAlike}
use Rattle.gv_vm.specs.declared.event.Event.{Event}
use Rattle.gv_vm.specs.declared.event.Event.TheVariants.{Create, Destroy, Trim, Translate}
use Rattle.gv_vm.specs.declared.event.Reply.{Reply}
use Rattle.gv_vm.specs.declared.event.Reply.TheVariants.{Idle, Created, Destroyed, Trimmed, Found, Refused}
use Rattle.gv_vm.specs.declared.places.Place.{Place}
use Rattle.gv_vm.proofs.AlikeVmLemmas.{list_alike, event_fault_alike, id_alike, created_alike, destroyed_alike}
use Rattle.gv_vm.proofs.AlikeBindLemmas.{vms_alike}
use Rattle.gv_vm.proofs.AlikeTakingLemmas.{moved}

-- the event is refused
pub record IsRefusal (w : WorldState) (event : Event) (reply : Reply) (x : WorldState) : Type 0 where
  pub fault : Fault
  pub is : reply ≡ Refused fault
  pub why : event_fault w.vm event ≡ Some fault
  pub rest : x ≡ w

-- a world of which only the space and the journal of the machine changed
pub entries_state : (w x : WorldState) → HasOtherEntries w x → x ≡ record w { vm = x.vm }
entries_state w x is = is ∙ ap (λ (m : VmState). record w { vm = m }) (sym (ap (λ (z : WorldState). z.vm) is))

module _ (w w' : WorldState) (alike : AreAlikeWorlds w w') where
  refused_both : (fault fault' : Fault) (x x' : WorldState) → fault ≡ fault' → x ≡ w → x' ≡ w' → StaysAlike (Refused fault) (Refused fault') x x'
  refused_both fault fault' x x' same is is' = record {
    replies = ap (λ f. Refused f) same;
    worlds = subst (λ z. AreAlikeWorlds z x') (sym is) (subst (AreAlikeWorlds w) (sym is') alike);
  }

  -- a call is refused in both worlds or in none
  pub call_pair : {D D' : Type 0} (e e' : Event) (r r' : Reply) (x x' : WorldState) → (IsRefusal w e r x) ⊎ D → (IsRefusal w' e' r' x') ⊎ D' → event_fault w'.vm e ≡ event_fault w'.vm e' →
      (D → event_fault w.vm e ≡ None) → (D' → event_fault w'.vm e' ≡ None) → (D → D' → StaysAlike r r' x x') → StaysAlike r r' x x'
  call_pair e e' r r' x x' (inl denied) (inl denied') same allowed allowed' both =
      moved r r' (Refused denied.fault) (Refused denied'.fault) x x' denied.is denied'.is
      (refused_both denied.fault denied'.fault x x' (same_Some denied.fault denied'.fault (sym denied.why ∙ event_fault_alike w.vm w'.vm alike.vm e ∙ same ∙ denied'.why)) denied.rest denied'.rest)
  call_pair e e' r r' x x' (inl denied) (inr done') same allowed allowed' both =
      absurd (none-some denied.fault (sym (allowed' done') ∙ sym same ∙ sym (event_fault_alike w.vm w'.vm alike.vm e) ∙ denied.why))
  call_pair e e' r r' x x' (inr done) (inl denied') same allowed allowed' both =
      absurd (none-some denied'.fault (sym (allowed done) ∙ event_fault_alike w.vm w'.vm alike.vm e ∙ same ∙ denied'.why))
  call_pair e e' r r' x x' (inr done) (inr done') same allowed allowed' both = both done done'

-- A buffer is made.

pub record CreateDone (w : WorldState) (size : ℕ) (r : Reply) (x : WorldState) : Type 0 where
  pub id : BufferId
  pub is : r ≡ Created id
  pub made : IsCreatedNow w size id x

create_cases : (w x : WorldState) (size : ℕ) (r : Reply) → step w (Create size) r x → (IsRefusal w (Create size) r x) ⊎ CreateDone w size r x
create_cases w x size Idle is = absurd (is.0 tt)
create_cases w x size (Refused fault) is = inl (record { fault = fault; is = refl; why = is.0; rest = is.1 })
create_cases w x size (Created id) is = inr (record { id = id; is = refl; made = is })
create_cases w x size r is = absurd is

module _ (w w' : WorldState) (alike : AreAlikeWorlds w w') where
  pub create_step : (size : ℕ) (r r' : Reply) (x x' : WorldState) → step w (Create size) r x → step w' (Create size) r' x' → StaysAlike r r' x x'
  create_step size r r' x x' is is' =
      call_pair w w' alike (Create size) (Create size) r r' x x' (create_cases w x size r is) (create_cases w' x' size r' is') refl
      (λ done. done.made.allowed) (λ done. done.made.allowed)
      (λ done done'. moved r r' (Created done.id) (Created done'.id) x x' done.is done'.is
      (record {
        replies = ap (λ id. Created id) (id_alike w.vm w'.vm alike.vm x.vm x'.vm done.id done'.id size done.made.made done'.made.made);
        worlds = vms_alike w w' alike x x' done.made.state done'.made.state
            (created_alike w.vm w'.vm alike.vm x.vm x'.vm done.id done'.id size done.made.made done'.made.made done.made.vm done'.made.vm);
      }))

-- One is destroyed.

pub record DestroyDone (w : WorldState) (id : BufferId) (r : Reply) (x : WorldState) : Type 0 where
  pub is : r ≡ Destroyed
  pub gone : IsDestroyedNow w id x

destroy_cases : (w x : WorldState) (id : BufferId) (r : Reply) → step w (Destroy id) r x → (IsRefusal w (Destroy id) r x) ⊎ DestroyDone w id r x
destroy_cases w x id Idle is = absurd (is.0 tt)
destroy_cases w x id (Refused fault) is = inl (record { fault = fault; is = refl; why = is.0; rest = is.1 })
destroy_cases w x id Destroyed is = inr (record { is = refl; gone = is })
destroy_cases w x id r is = absurd is

module _ (w w' : WorldState) (alike : AreAlikeWorlds w w') where
  pub destroy_step : (id : BufferId) (r r' : Reply) (x x' : WorldState) → step w (Destroy id) r x → step w' (Destroy id) r' x' → StaysAlike r r' x x'
  destroy_step id r r' x x' is is' =
      call_pair w w' alike (Destroy id) (Destroy id) r r' x x' (destroy_cases w x id r is) (destroy_cases w' x' id r' is') refl
      (λ done. done.gone.allowed) (λ done. done.gone.allowed)
      (λ done done'. moved r r' Destroyed Destroyed x x' done.is done'.is
      (record {
        replies = refl;
        worlds = vms_alike w w' alike x x' done.gone.state done'.gone.state
            (destroyed_alike w.vm w'.vm alike.vm x.vm x'.vm id done.gone.gone done'.gone.gone done.gone.vm done'.gone.vm);
      }))

-- Room is given back.

pub record TrimDone (w : WorldState) (r : Reply) (x : WorldState) : Type 0 where
  pub is : r ≡ Trimmed
  pub trimmed : IsTrimmedNow w x

trim_cases : (w x : WorldState) (r : Reply) → step w Trim r x → (IsRefusal w Trim r x) ⊎ TrimDone w r x
trim_cases w x Idle is = absurd (is.0 tt)
trim_cases w x (Refused fault) is = inl (record { fault = fault; is = refl; why = is.0; rest = is.1 })
trim_cases w x Trimmed is = inr (record { is = refl; trimmed = is })
trim_cases w x r is = absurd is

module _ (w w' : WorldState) (alike : AreAlikeWorlds w w') where
  pub trim_step : (r r' : Reply) (x x' : WorldState) → step w Trim r x → step w' Trim r' x' → StaysAlike r r' x x'
  trim_step r r' x x' is is' =
      call_pair w w' alike Trim Trim r r' x x' (trim_cases w x r is) (trim_cases w' x' r' is') refl
      (λ done. done.trimmed.allowed) (λ done. done.trimmed.allowed)
      (λ done done'. moved r r' Trimmed Trimmed x x' done.is done'.is
      (record {
        replies = refl;
        worlds = subst (λ z. AreAlikeWorlds z x') (sym done.trimmed.state) (subst (AreAlikeWorlds w) (sym done'.trimmed.state) alike);
      }))

-- An address is asked for.
module _ (w w' : WorldState) (alike : AreAlikeWorlds w w') where
  found_both : (addr : ℕ) (place place' : Option Place) (x x' : WorldState) → (place ≡ place_at w.vm.space.mappings addr) × (x ≡ w) → (place' ≡ place_at w'.vm.space.mappings addr) × (x' ≡ w') →
      StaysAlike (Found place) (Found place') x x'
  found_both addr place place' x x' is is' = record {
    replies = ap (λ p. Found p) (is.0 ∙ ap (λ (ms : List Mapping). place_at ms addr) (list_alike w.vm w'.vm alike.vm) ∙ sym is'.0);
    worlds = subst (λ z. AreAlikeWorlds z x') (sym is.1) (subst (AreAlikeWorlds w) (sym is'.1) alike);
  }

-- the place that is found
pub record FoundDone (w : WorldState) (addr : ℕ) (r : Reply) (x : WorldState) : Type 0 where
  pub place : Option Place
  pub is : r ≡ Found place
  pub found : (place ≡ place_at w.vm.space.mappings addr) × (x ≡ w)

found_cases : (w x : WorldState) (addr : ℕ) (r : Reply) → step w (Translate addr) r x → FoundDone w addr r x
found_cases w x addr Idle is = absurd (is.0 tt)
found_cases w x addr (Refused fault) is = absurd (none-some fault is.0)
found_cases w x addr (Found place) is = record { place = place; is = refl; found = is }
found_cases w x addr r is = absurd is

module _ (w w' : WorldState) (alike : AreAlikeWorlds w w') where
  pub translate_step : (addr : ℕ) (r r' : Reply) (x x' : WorldState) → step w (Translate addr) r x → step w' (Translate addr) r' x' → StaysAlike r r' x x'
  translate_step addr r r' x x' is is' =
      let done = found_cases w x addr r is in
      let done' = found_cases w' x' addr r' is' in
      moved r r' (Found done.place) (Found done'.place) x x' done.is done'.is (found_both w w' alike addr done.place done'.place x x' done.found done'.found)
