-- For callers: the same look, the same request carried out or given up, the same signal paid and the same raise, in worlds that are alike.
use Rattle.std.proofs.Common.{◌≡◌, ℕ, inl, inr, refl, ap, ◌∙◌, subst}
use Rattle.std.specs.Prelude.{◌⊎◌}
use Rattle.std.proofs.lemmas.Option.{none-some}
use Rattle.gv_types.specs.declared.request.Point.{Point}
use Rattle.gv_vm.specs.World.{WorldState}
use Rattle.gv_vm.specs.Step.{IsEnabled, IsReachedNow, IsLackingNow, IsBoundNow, IsGivenUp, IsPaidNow, IsRaisedNow, step}
use Rattle.gv_vm.specs.Alike.{AreAlikeWorlds, IsAmple, IsAmpleReply, StaysAlike}
use Rattle.gv_vm.specs.declared.event.Event.TheVariants.{Look, Bind, GiveUp, Pay, Raise}
use Rattle.gv_vm.specs.declared.event.Reply.{Reply}
use Rattle.gv_vm.specs.declared.event.Reply.TheVariants.{Idle, Reached, Lacking, Told, Raised, Refused}
use Rattle.gv_vm.specs.declared.outcome.Outcome.{Outcome}
use Rattle.gv_vm.proofs.AlikeQueueLemmas.{reached_alike, lacking_alike, reached_or_lacking}
use Rattle.gv_vm.proofs.AlikeBindLemmas.{raised_alike, paid_alike, given_up_alike, bound_alike}
use Rattle.gv_vm.proofs.AlikeEnabledLemmas.{AreAlikeWorlds-sym, look_enabled, bind_enabled, give_up_enabled, pay_enabled, raise_enabled}
use Rattle.gv_vm.proofs.AlikeTakingLemmas.{IsIdle, moved, pair}

-- A look.

pub record LookReached (w : WorldState) (n : ℕ) (r : Reply) (x : WorldState) : Type 0 where
  pub point : Point
  pub seen : ℕ
  pub is : r ≡ Reached point seen
  pub now : IsReachedNow w n point seen x

pub record LookLacked (w : WorldState) (n : ℕ) (r : Reply) (x : WorldState) : Type 0 where
  pub point : Point
  pub have : ℕ
  pub is : r ≡ Lacking point have
  pub now : IsLackingNow w n point have x

look_cases : (w x : WorldState) (n : ℕ) (r : Reply) → step w (Look n) r x → (IsIdle w (Look n) r x) ⊎ (LookReached w n r x ⊎ LookLacked w n r x)
look_cases w x n Idle is = inl (record { is = refl; disabled = is.0; same = is.1 })
look_cases w x n (Refused fault) is = absurd (none-some fault is.0)
look_cases w x n (Reached point seen) is = inr (inl (record { point = point; seen = seen; is = refl; now = is }))
look_cases w x n (Lacking point have) is = inr (inr (record { point = point; have = have; is = refl; now = is }))
look_cases w x n r is = absurd is

look_enabled_by : (w x : WorldState) (n : ℕ) (r : Reply) → (LookReached w n r x ⊎ LookLacked w n r x) → IsEnabled w (Look n)
look_enabled_by w x n r (inl done) = done.now.enabled
look_enabled_by w x n r (inr done) = done.now.enabled

module _ (w w' : WorldState) (alike : AreAlikeWorlds w w') where
  look_both : (n : ℕ) (r r' : Reply) (x x' : WorldState) → (LookReached w n r x ⊎ LookLacked w n r x) → (LookReached w' n r' x' ⊎ LookLacked w' n r' x') → StaysAlike r r' x x'
  look_both n r r' x x' (inl done) (inl done') =
      let now = reached_alike w w' alike n done.point done'.point done.seen done'.seen x x' done.now done'.now in
      moved r r' (Reached done.point done.seen) (Reached done'.point done'.seen) x x' done.is done'.is
      (record {
        replies = ap (λ p. Reached p done.seen) now.0 ∙ ap (Reached done'.point) now.1;
        worlds = now.2;
      })
  look_both n r r' x x' (inl done) (inr done') = absurd (reached_or_lacking w w' alike n done.point done'.point done.seen done'.have x x' done.now done'.now)
  look_both n r r' x x' (inr done) (inl done') =
      absurd (reached_or_lacking w' w (AreAlikeWorlds-sym w w' alike) n done'.point done.point done'.seen done.have x' x done'.now done.now)
  look_both n r r' x x' (inr done) (inr done') =
      let now = lacking_alike w w' alike n done.point done'.point done.have done'.have x x' done.now done'.now in
      moved r r' (Lacking done.point done.have) (Lacking done'.point done'.have) x x' done.is done'.is
      (record {
        replies = ap (λ p. Lacking p done.have) now.0 ∙ ap (Lacking done'.point) now.1;
        worlds = now.2;
      })

  pub look_step : (n : ℕ) (r r' : Reply) (x x' : WorldState) → step w (Look n) r x → step w' (Look n) r' x' → StaysAlike r r' x x'
  look_step n r r' x x' is is' =
      pair w w' alike (Look n) (Look n) r r' x x' (look_cases w x n r is) (look_cases w' x' n r' is')
      (look_enabled_by w x n r) (look_enabled_by w' x' n r')
      (look_enabled w w' alike n) (look_enabled w' w (AreAlikeWorlds-sym w w' alike) n)
      (look_both n r r' x x')

-- A request is carried out.

pub record BindDone (w : WorldState) (n : ℕ) (r : Reply) (x : WorldState) : Type 0 where
  pub number : ℕ
  pub outcome : Outcome
  pub is : r ≡ Told number outcome
  pub bound : IsBoundNow w n number outcome x

bind_cases : (w x : WorldState) (n : ℕ) (r : Reply) → step w (Bind n) r x → (IsIdle w (Bind n) r x) ⊎ BindDone w n r x
bind_cases w x n Idle is = inl (record { is = refl; disabled = is.0; same = is.1 })
bind_cases w x n (Refused fault) is = absurd (none-some fault is.0)
bind_cases w x n (Told number outcome) is = inr (record { number = number; outcome = outcome; is = refl; bound = is })
bind_cases w x n r is = absurd is

-- It is given up.

pub record GiveUpDone (w : WorldState) (n : ℕ) (r : Reply) (x : WorldState) : Type 0 where
  pub number : ℕ
  pub outcome : Outcome
  pub is : r ≡ Told number outcome
  pub given : IsGivenUp w n number outcome x

give_up_cases : (w x : WorldState) (n : ℕ) (r : Reply) → step w (GiveUp n) r x → (IsIdle w (GiveUp n) r x) ⊎ GiveUpDone w n r x
give_up_cases w x n Idle is = inl (record { is = refl; disabled = is.0; same = is.1 })
give_up_cases w x n (Refused fault) is = absurd (none-some fault is.0)
give_up_cases w x n (Told number outcome) is = inr (record { number = number; outcome = outcome; is = refl; given = is })
give_up_cases w x n r is = absurd is

-- A signal is paid.

pub record PayDone (w : WorldState) (n : ℕ) (r : Reply) (x : WorldState) : Type 0 where
  pub point : Point
  pub now : ℕ
  pub is : r ≡ Raised point now
  pub paid : IsPaidNow w n point now x

pay_cases : (w x : WorldState) (n : ℕ) (r : Reply) → step w (Pay n) r x → (IsIdle w (Pay n) r x) ⊎ PayDone w n r x
pay_cases w x n Idle is = inl (record { is = refl; disabled = is.0; same = is.1 })
pay_cases w x n (Refused fault) is = absurd (none-some fault is.0)
pay_cases w x n (Raised point now) is = inr (record { point = point; now = now; is = refl; paid = is })
pay_cases w x n r is = absurd is

-- A timeline is raised.

pub record RaiseDone (w : WorldState) (asked : Point) (r : Reply) (x : WorldState) : Type 0 where
  pub point : Point
  pub now : ℕ
  pub is : r ≡ Raised point now
  pub up : IsRaisedNow w asked point now x

raise_cases : (w x : WorldState) (asked : Point) (r : Reply) → step w (Raise asked) r x → (IsIdle w (Raise asked) r x) ⊎ RaiseDone w asked r x
raise_cases w x asked Idle is = inl (record { is = refl; disabled = is.0; same = is.1 })
raise_cases w x asked (Refused fault) is = absurd (none-some fault is.0)
raise_cases w x asked (Raised point now) is = inr (record { point = point; now = now; is = refl; up = is })
raise_cases w x asked r is = absurd is

ample_told : (r : Reply) (number : ℕ) (outcome : Outcome) → r ≡ Told number outcome → IsAmpleReply r → IsAmple outcome
ample_told r number outcome is ample = subst IsAmpleReply is ample

module _ (w w' : WorldState) (alike : AreAlikeWorlds w w') where
  pub bind_step : (n : ℕ) (r r' : Reply) (x x' : WorldState) → IsAmpleReply r → IsAmpleReply r' → step w (Bind n) r x → step w' (Bind n) r' x' →
      StaysAlike r r' x x'
  bind_step n r r' x x' ample ample' is is' =
      pair w w' alike (Bind n) (Bind n) r r' x x' (bind_cases w x n r is) (bind_cases w' x' n r' is')
      (λ done. done.bound.enabled) (λ done. done.bound.enabled)
      (bind_enabled w w' alike n) (bind_enabled w' w (AreAlikeWorlds-sym w w' alike) n)
      (λ done done'.
      let now = bound_alike w w' alike n done.number done'.number done.outcome done'.outcome x x' done.bound done'.bound
      (ample_told r done.number done.outcome done.is ample) (ample_told r' done'.number done'.outcome done'.is ample') in
      moved r r' (Told done.number done.outcome) (Told done'.number done'.outcome) x x' done.is done'.is
      (record {
        replies = ap (λ k. Told k done.outcome) now.0 ∙ ap (Told done'.number) now.1;
        worlds = now.2;
      }))

  pub give_up_step : (n : ℕ) (r r' : Reply) (x x' : WorldState) → step w (GiveUp n) r x → step w' (GiveUp n) r' x' → StaysAlike r r' x x'
  give_up_step n r r' x x' is is' =
      pair w w' alike (GiveUp n) (GiveUp n) r r' x x' (give_up_cases w x n r is) (give_up_cases w' x' n r' is')
      (λ done. done.given.enabled) (λ done. done.given.enabled)
      (give_up_enabled w w' alike n) (give_up_enabled w' w (AreAlikeWorlds-sym w w' alike) n)
      (λ done done'.
      let now = given_up_alike w w' alike n done.number done'.number done.outcome done'.outcome x x' done.given done'.given in
      moved r r' (Told done.number done.outcome) (Told done'.number done'.outcome) x x' done.is done'.is
      (record {
        replies = ap (λ k. Told k done.outcome) now.0 ∙ ap (Told done'.number) now.1;
        worlds = now.2;
      }))

  pub pay_step : (n : ℕ) (r r' : Reply) (x x' : WorldState) → step w (Pay n) r x → step w' (Pay n) r' x' → StaysAlike r r' x x'
  pay_step n r r' x x' is is' =
      pair w w' alike (Pay n) (Pay n) r r' x x' (pay_cases w x n r is) (pay_cases w' x' n r' is')
      (λ done. done.paid.enabled) (λ done. done.paid.enabled)
      (pay_enabled w w' alike n) (pay_enabled w' w (AreAlikeWorlds-sym w w' alike) n)
      (λ done done'.
      let now = paid_alike w w' alike n done.point done'.point done.now done'.now x x' done.paid done'.paid in
      moved r r' (Raised done.point done.now) (Raised done'.point done'.now) x x' done.is done'.is
      (record {
        replies = ap (λ p. Raised p done.now) now.0 ∙ ap (Raised done'.point) now.1;
        worlds = now.2;
      }))

  pub raise_step : (asked : Point) (r r' : Reply) (x x' : WorldState) → step w (Raise asked) r x → step w' (Raise asked) r' x' → StaysAlike r r' x x'
  raise_step asked r r' x x' is is' =
      pair w w' alike (Raise asked) (Raise asked) r r' x x' (raise_cases w x asked r is) (raise_cases w' x' asked r' is')
      (λ done. done.up.enabled) (λ done. done.up.enabled)
      (raise_enabled w w' alike asked) (raise_enabled w' w (AreAlikeWorlds-sym w w' alike) asked)
      (λ done done'.
      let now = raised_alike w w' alike asked done.point done'.point done.now done'.now x x' done.up done'.up in
      moved r r' (Raised done.point done.now) (Raised done'.point done'.now) x x' done.is done'.is
      (record {
        replies = ap (λ p. Raised p done.now) now.0 ∙ ap (Raised done'.point) now.1;
        worlds = now.2;
      }))
