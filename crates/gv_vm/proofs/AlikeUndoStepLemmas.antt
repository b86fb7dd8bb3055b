-- For callers: in worlds that are the same but for memory, the same item is rewound, withdrawn or settled, and the same outcomes
-- are forgotten.
use Rattle.std.proofs.Common.{◌≡◌, ℕ, ◌+◌, None, inl, inr, arith, refl, sym, ap, ◌∙◌, subst}
use Rattle.std.specs.Prelude.{◌⊎◌}
use Rattle.gv_journal.specs.Items.{JournalState}
use Rattle.gv_journal.proofs.BareItemLemmas.{first_alike, next_alike}
use Rattle.gv_vm.specs.State.{VmState, forgotten_of}
use Rattle.gv_vm.specs.Forgetting.{with_forgotten}
use Rattle.gv_vm.specs.World.{WorldState}
use Rattle.gv_vm.specs.Step.{rewind_fault, IsRewoundNow, IsWithdrawnNow, IsSettledNow, IsForgottenNow, step}
use Rattle.gv_vm.specs.Alike.{AreAlikeVms, AreAlikeWorlds, StaysAlike}
use Rattle.gv_vm.specs.declared.event.Event.TheVariants.{Rewind, Withdraw, Settle, Forget}
use Rattle.gv_vm.specs.declared.event.Reply.{Reply}
use Rattle.gv_vm.specs.declared.event.Reply.TheVariants.{Idle, Rewound, Withdrawn, Settled, Forgot, Refused}
use Rattle.gv_vm.proofs.AlikeForgettingLemmas.{forgotten_of_alike, vm_forgotten}
use Rattle.gv_vm.proofs.AlikeVmLemmas.{vm_rewound, vm_withdrawn, vm_settled}
use Rattle.gv_vm.proofs.AlikeBindLemmas.{vms_alike}
use Rattle.gv_vm.proofs.AlikeTakingLemmas.{moved}
use Rattle.gv_vm.proofs.AlikeCallLemmas.{IsRefusal, entries_state, call_pair}

-- The newest item is rewound.

pub record RewindDone (w : WorldState) (r : Reply) (x : WorldState) : Type 0 where
  pub item : ℕ
  pub is : r ≡ Rewound item
  pub done : IsRewoundNow w item x

rewind_cases : (w x : WorldState) (r : Reply) → step w Rewind r x → (IsRefusal w Rewind r x) ⊎ RewindDone w r x
rewind_cases w x Idle is = absurd (is.0 tt)
rewind_cases w x (Refused fault) is = inl (record { fault = fault; is = refl; why = is.0; rest = is.1 })
rewind_cases w x (Rewound item) is = inr (record { item = item; is = refl; done = is })
rewind_cases w x r is = absurd is

rewind_allowed : (w x : WorldState) (item : ℕ) → IsRewoundNow w item x → rewind_fault w.vm.journal.items ≡ None
rewind_allowed w x item now = ap (λ (j : JournalState). rewind_fault j.items) now.rewound.items

-- An item is withdrawn.

pub record WithdrawDone (w : WorldState) (entry : ℕ) (r : Reply) (x : WorldState) : Type 0 where
  pub item : ℕ
  pub is : r ≡ Withdrawn item
  pub done : IsWithdrawnNow w entry item x

withdraw_cases : (w x : WorldState) (entry : ℕ) (r : Reply) → step w (Withdraw entry) r x → (IsRefusal w (Withdraw entry) r x) ⊎ WithdrawDone w entry r x
withdraw_cases w x entry Idle is = absurd (is.0 tt)
withdraw_cases w x entry (Refused fault) is = inl (record { fault = fault; is = refl; why = is.0; rest = is.1 })
withdraw_cases w x entry (Withdrawn item) is = inr (record { item = item; is = refl; done = is })
withdraw_cases w x entry r is = absurd is

-- Items are settled.

pub record SettleDone (w : WorldState) (to : ℕ) (r : Reply) (x : WorldState) : Type 0 where
  pub count : ℕ
  pub is : r ≡ Settled count
  pub done : IsSettledNow w to count x

settle_cases : (w x : WorldState) (to : ℕ) (r : Reply) → step w (Settle to) r x → (IsRefusal w (Settle to) r x) ⊎ SettleDone w to r x
settle_cases w x to Idle is = absurd (is.0 tt)
settle_cases w x to (Refused fault) is = inl (record { fault = fault; is = refl; why = is.0; rest = is.1 })
settle_cases w x to (Settled count) is = inr (record { count = count; is = refl; done = is })
settle_cases w x to r is = absurd is

-- Outcomes are forgotten.

pub record ForgetDone (w : WorldState) (queue to : ℕ) (r : Reply) (x : WorldState) : Type 0 where
  pub count : ℕ
  pub is : r ≡ Forgot count
  pub done : IsForgottenNow w queue to count x

forget_cases : (w x : WorldState) (queue to : ℕ) (r : Reply) → step w (Forget queue to) r x → (IsRefusal w (Forget queue to) r x) ⊎ ForgetDone w queue to r x
forget_cases w x queue to Idle is = absurd (is.0 tt)
forget_cases w x queue to (Refused fault) is = inl (record { fault = fault; is = refl; why = is.0; rest = is.1 })
forget_cases w x queue to (Forgot count) is = inr (record { count = count; is = refl; done = is })
forget_cases w x queue to r is = absurd is

forget_state : (w x : WorldState) (queue to count : ℕ) → IsForgottenNow w queue to count x → x ≡ record w { vm = x.vm }
forget_state w x queue to count now = now.state ∙ ap (λ (m : VmState). record w { vm = m }) (sym (ap (λ (z : WorldState). z.vm) now.state))

module _ (w w' : WorldState) (alike : AreAlikeWorlds w w') where
  pub rewind_step : (r r' : Reply) (x x' : WorldState) → step w Rewind r x → step w' Rewind r' x' → StaysAlike r r' x x'
  rewind_step r r' x x' is is' =
      call_pair w w' alike Rewind Rewind r r' x x' (rewind_cases w x r is) (rewind_cases w' x' r' is') refl
      (λ done. rewind_allowed w x done.item done.done) (λ done. rewind_allowed w' x' done.item done.done)
      (λ done done'.
      let vm = vm_rewound w.vm w'.vm alike.vm x.vm x'.vm done.done.rewound done'.done.rewound
      (ap (λ (z : WorldState). z.vm.jobs) done.done.state) (ap (λ (z : WorldState). z.vm.jobs) done'.done.state)
      (ap (λ (z : WorldState). z.vm.told) done.done.state) (ap (λ (z : WorldState). z.vm.told) done'.done.state)
      (ap (λ (z : WorldState). z.vm.forgotten) done.done.state) (ap (λ (z : WorldState). z.vm.forgotten) done'.done.state) in
      let number : done.item ≡ done'.item = done.done.number_is ∙ next_alike x.vm.journal x'.vm.journal vm.journal ∙ sym done'.done.number_is in
      moved r r' (Rewound done.item) (Rewound done'.item) x x' done.is done'.is
      (record {
        replies = ap (λ n. Rewound n) number;
        worlds = vms_alike w w' alike x x' (entries_state w x done.done.state) (entries_state w' x' done'.done.state) vm;
      }))

  pub withdraw_step : (entry : ℕ) (r r' : Reply) (x x' : WorldState) → step w (Withdraw entry) r x → step w' (Withdraw entry) r' x' → StaysAlike r r' x x'
  withdraw_step entry r r' x x' is is' =
      call_pair w w' alike (Withdraw entry) (Withdraw entry) r r' x x' (withdraw_cases w x entry r is) (withdraw_cases w' x' entry r' is') refl
      (λ done. done.done.allowed) (λ done. done.done.allowed)
      (λ done done'.
      let number : done.item ≡ done'.item = done.done.number_is ∙ next_alike w.vm.journal w'.vm.journal alike.vm.journal ∙ sym done'.done.number_is in
      moved r r' (Withdrawn done.item) (Withdrawn done'.item) x x' done.is done'.is
      (record {
        replies = ap (λ n. Withdrawn n) number;
        worlds = vms_alike w w' alike x x' (entries_state w x done.done.state) (entries_state w' x' done'.done.state)
            (vm_withdrawn w.vm w'.vm alike.vm x.vm x'.vm entry done.done.room done'.done.room done.done.withdrawn done'.done.withdrawn
            (ap (λ (z : WorldState). z.vm.jobs) done.done.state) (ap (λ (z : WorldState). z.vm.jobs) done'.done.state)
            (ap (λ (z : WorldState). z.vm.told) done.done.state) (ap (λ (z : WorldState). z.vm.told) done'.done.state)
            (ap (λ (z : WorldState). z.vm.forgotten) done.done.state) (ap (λ (z : WorldState). z.vm.forgotten) done'.done.state));
      }))

  pub settle_step : (to : ℕ) (r r' : Reply) (x x' : WorldState) → step w (Settle to) r x → step w' (Settle to) r' x' → StaysAlike r r' x x'
  settle_step to r r' x x' is is' =
      call_pair w w' alike (Settle to) (Settle to) r r' x x' (settle_cases w x to r is) (settle_cases w' x' to r' is') refl
      (λ done. done.done.allowed) (λ done. done.done.allowed)
      (λ done done'.
      let first : w.vm.journal.first ≡ w'.vm.journal.first = first_alike w.vm.journal w'.vm.journal alike.vm.journal in
      let up : w.vm.journal.first + done.count ≡ to = done.done.count_is in
      let up' : w'.vm.journal.first + done'.count ≡ to = done'.done.count_is in
      let number : done.count ≡ done'.count = omega (arith, first, up, up') in
      moved r r' (Settled done.count) (Settled done'.count) x x' done.is done'.is
      (record {
        replies = ap (λ n. Settled n) number;
        worlds = vms_alike w w' alike x x' (entries_state w x done.done.state) (entries_state w' x' done'.done.state)
            (vm_settled w.vm w'.vm alike.vm x.vm x'.vm to done.done.settled done'.done.settled
            (ap (λ (z : WorldState). z.vm.jobs) done.done.state) (ap (λ (z : WorldState). z.vm.jobs) done'.done.state)
            (ap (λ (z : WorldState). z.vm.told) done.done.state) (ap (λ (z : WorldState). z.vm.told) done'.done.state)
            (ap (λ (z : WorldState). z.vm.forgotten) done.done.state) (ap (λ (z : WorldState). z.vm.forgotten) done'.done.state));
      }))

  pub forget_step : (queue to : ℕ) (r r' : Reply) (x x' : WorldState) → step w (Forget queue to) r x → step w' (Forget queue to) r' x' → StaysAlike r r' x x'
  forget_step queue to r r' x x' is is' =
      call_pair w w' alike (Forget queue to) (Forget queue to) r r' x x' (forget_cases w x queue to r is) (forget_cases w' x' queue to r' is') refl
      (λ done. done.done.allowed) (λ done. done.done.allowed)
      (λ done done'.
      let first : forgotten_of w.vm queue ≡ forgotten_of w'.vm queue = forgotten_of_alike w.vm w'.vm alike.vm queue in
      let up : forgotten_of w.vm queue + done.count ≡ to = done.done.count_is in
      let up' : forgotten_of w'.vm queue + done'.count ≡ to = done'.done.count_is in
      let number : done.count ≡ done'.count = omega (arith, first, up, up') in
      let vm : AreAlikeVms x.vm x'.vm =
      subst (λ m. AreAlikeVms m x'.vm) (sym (ap (λ (z : WorldState). z.vm) done.done.state))
      (subst (AreAlikeVms (with_forgotten w.vm queue to)) (sym (ap (λ (z : WorldState). z.vm) done'.done.state)) (vm_forgotten w.vm w'.vm alike.vm queue to)) in
      moved r r' (Forgot done.count) (Forgot done'.count) x x' done.is done'.is
      (record {
        replies = ap (λ n. Forgot n) number;
        worlds = vms_alike w w' alike x x' (forget_state w x queue to done.count done.done) (forget_state w' x' queue to done'.count done'.done) vm;
      }))
