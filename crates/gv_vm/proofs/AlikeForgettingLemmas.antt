-- For callers: machines that are the same, bare of memory, forget the same outcomes, and may tell as many.
use Rattle.std.proofs.Common.{◌≡◌, ℕ, ◌+◌, ◌==◌, ◌&&◌, ◌||◌, Bool, false, cond, List, length, reverse, Option, Some, None, option_map, nat_lt, refl, sym, ap, ◌∙◌}
use Rattle.std.specs.Prelude.{min, nat_le, position, slice_index_or}
use Rattle.gv_journal.proofs.MapLemmas.{reverse-map}
use Rattle.gv_types.specs.declared.fault.Fault.{Fault}
use Rattle.gv_types.specs.declared.fault.Fault.TheVariants.{NoOutcome, Held}
use Rattle.gv_space.specs.State.{SpaceState}
use Rattle.gv_journal.specs.Items.{JournalState}
use Rattle.gv_journal.specs.Bare.{BareBind, BareItem, BareJournal, bind_of, bare_item, bare_journal}
use Rattle.gv_journal.specs.declared.item.ItemKind.{ItemKind}
use Rattle.gv_journal.specs.declared.item.ItemKind.TheVariants.{Bind, Withdrawal}
use Rattle.gv_journal.proofs.BareItemLemmas.{position-map}
use Rattle.gv_vm.specs.Outcomes.{lifetime_told, told_to}
use Rattle.gv_vm.specs.State.{VmState, forgotten_of, told_limit}
use Rattle.gv_vm.specs.Forgetting.{is_told_below, least_held_below, forget_fault, with_forgotten}
use Rattle.gv_vm.specs.Alike.{AreAlikeVms}
use Rattle.gv_vm.specs.declared.outcome.Outcome.{Outcome}

abbrev bare_below : ℕ → ℕ → Option BareBind → Bool
bare_below queue to None = false
bare_below queue to (Some b) = b.queue == queue && nat_lt b.number to

below_is : (queue to : ℕ) (kind : ItemKind) → is_told_below queue to kind ≡ bare_below queue to (bind_of kind)
below_is queue to (Bind q number request seen done) = refl
below_is queue to (Withdrawal of) = refl

abbrev held_bare : ℕ → ℕ → BareJournal → Option ℕ
held_bare queue to j = option_map (λ index. j.first + index) (position (λ item. bare_below queue to item.bind) (reverse j.items))

held_is : (j : JournalState) (queue to : ℕ) → least_held_below j queue to ≡ held_bare queue to (bare_journal j)
held_is j queue to =
    ap (option_map (λ index. j.first + index))
    (position-map (λ (item : BareItem). bare_below queue to item.bind) bare_item (λ item. is_told_below queue to item.kind) (reverse j.items) (λ item. below_is queue to item.kind)
    ∙ ap (position (λ (item : BareItem). bare_below queue to item.bind)) (sym (reverse-map bare_item j.items)))

abbrev forget_by : ℕ → List ℕ → List (List Outcome) → Option ℕ → ℕ → Option Fault
forget_by queue gone told held to =
    cond (nat_le (length told) queue || nat_lt to (slice_index_or gone queue 0) || nat_lt (length (told_to told queue)) to) (Some NoOutcome) (option_map (λ by. Held by) held)

module _ (v v' : VmState) (alike : AreAlikeVms v v') where
  pub forget_fault_alike : (queue to : ℕ) → forget_fault v queue to ≡ forget_fault v' queue to
  forget_fault_alike queue to =
      let held : least_held_below v.journal queue to ≡ least_held_below v'.journal queue to =
      held_is v.journal queue to ∙ ap (held_bare queue to) alike.journal ∙ sym (held_is v'.journal queue to) in
      ap (λ (gone : List ℕ). forget_by queue gone v.told (least_held_below v.journal queue to) to) alike.forgotten
      ∙ ap (λ (told : List (List Outcome)). forget_by queue v'.forgotten told (least_held_below v.journal queue to) to) alike.told
      ∙ ap (λ (o : Option ℕ). forget_by queue v'.forgotten v'.told o to) held

  pub forgotten_of_alike : (queue : ℕ) → forgotten_of v queue ≡ forgotten_of v' queue
  forgotten_of_alike queue = ap (λ (gone : List ℕ). slice_index_or gone queue 0) alike.forgotten

  pub told_limit_alike : (queue : ℕ) → told_limit v queue ≡ told_limit v' queue
  told_limit_alike queue =
      ap (λ k. min lifetime_told (k + v.space.limits.told)) (forgotten_of_alike queue)
      ∙ ap (λ (s : SpaceState). min lifetime_told (forgotten_of v' queue + s.limits.told)) alike.space

  pub vm_forgotten : (queue to : ℕ) → AreAlikeVms (with_forgotten v queue to) (with_forgotten v' queue to)
  vm_forgotten queue to = record {
    space = alike.space;
    journal = alike.journal;
    jobs = alike.jobs;
    told = ap (λ (told : List (List Outcome)). (with_forgotten (record v { told = told }) queue to).told) alike.told;
    forgotten = ap (λ (gone : List ℕ). (with_forgotten (record v { forgotten = gone }) queue to).forgotten) alike.forgotten;
  }
