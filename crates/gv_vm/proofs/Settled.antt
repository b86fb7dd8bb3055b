-- What holds of a machine still holds once old items are settled.
use Rattle.std.proofs.Common.{◌≡◌, ℕ, zero, suc, ◌+◌, ◌-◌, ◌≤◌, List, [], ◌∷◌, length, take, arith, refl, sym, ◌∙◌, ap, subst, None, Result, Ok, Err}
use Rattle.std.specs.Prelude.{OnOk, OnErr}
use Rattle.std.specs.List.{All}
use Rattle.std.proofs.lemmas.List.{length-take-le}
use Rattle.std.proofs.lemmas.List.Elements.{All-take}
use Rattle.gv_space.specs.Counts.{less_kept}
use Rattle.gv_space.specs.State.{SpaceState, IsSpace}
use Rattle.gv_journal.specs.Items.{JournalState, NumberedItem, numbered, entries, next}
use Rattle.gv_journal.specs.History.{kept_by}
use Rattle.gv_journal.specs.Fits.{FitsSpace}
use Rattle.gv_journal.specs.Settling.{earlier, later, settle_fault, IsSettled}
use Rattle.gv_journal.specs.declared.item.Item.{Item}
use Rattle.gv_types.specs.declared.fault.Fault.{Fault}
use Rattle.gv_space.proofs.ByCountLemmas.{less_kept_of_counts}
use Rattle.gv_vm.specs.Jobs.{AreHeld}
use Rattle.gv_vm.specs.State.{VmState, IsVm, WasTold, SawItsWaits}
use Rattle.gv_vm.proofs.VmInvariant.{IsVm-of, AreHeld-by_count}

-- later items keep their numbers
numbered-take : (first : ℕ) (items : List Item) (k : ℕ) → k ≤ length items → numbered (first + (length items - k)) (take k items) ≡ take k (numbered first items)
numbered-take first items zero few = refl
numbered-take first [] (suc k) few = absurd (omega (arith, few))
numbered-take first (item ∷ older) (suc k) few =
    let less : k ≤ length older = omega (arith, few) in
    let below : length (item ∷ older) - suc k ≡ length older - k = omega arith in
    let number : first + (length older - k) + length (take k older) ≡ first + length older = omega (arith, length-take-le k older less) in
    ap (λ (n : ℕ). record { number = first + n + length (take k older); item = item } ∷ numbered (first + n) (take k older)) below
    ∙ ap (λ (n : ℕ). record { number = n; item = item } ∷ numbered (first + (length older - k)) (take k older)) number
    ∙ ap (λ (xs : List NumberedItem). record { number = first + length older; item = item } ∷ xs) (numbered-take first older k less)

low_from_none : (j : JournalState) (to : ℕ) → settle_fault j to ≡ None → j.first ≤ to
low_from_none j to none = grind arith

high_from_none : (j : JournalState) (to : ℕ) → settle_fault j to ≡ None → to ≤ next j
high_from_none j to none = grind arith

entries_left : (old new : JournalState) (to : ℕ) → new ≡ record old { first = to; items = later old to } → old.first ≤ to → to ≤ next old → entries new ≡ take (next old - to) (entries old)
entries_left old new to is low high =
    let k : ℕ = next old - to in
    let few : k ≤ length old.items = omega arith in
    let first : to ≡ old.first + (length old.items - k) = omega arith in
    ap (λ (j : JournalState). entries j) is
    ∙ ap (λ (n : ℕ). numbered n (take k old.items)) first
    ∙ numbered-take old.first old.items k few

All-left : (P : NumberedItem → Type 0) (old new : JournalState) (to : ℕ) → new ≡ record old { first = to; items = later old to } → old.first ≤ to → to ≤ next old → All P (entries old) → All P (entries new)
All-left P old new to is low high all = subst (All P) (sym (entries_left old new to is low high)) (All-take P (next old - to) (entries old) all)

IsVm-settled : (v : VmState) (t : SpaceState) (j : JournalState) (to : ℕ) → IsVm v → settle_fault v.journal to ≡ None → IsSettled v.space t v.journal j to → FitsSpace t j → IsSpace t →
    IsVm (record { space = t; journal = j; jobs = v.jobs; told = v.told; forgotten = v.forgotten })
IsVm-settled v t j to holds none settled fits space =
    let low : v.journal.first ≤ to = low_from_none v.journal to none in
    let high : to ≤ next v.journal = high_from_none v.journal to none in
    let held : AreHeld t.buffers v.jobs.running = subst (λ (x : SpaceState). AreHeld x.buffers v.jobs.running) (sym settled.space)
    (AreHeld-by_count less_kept (kept_by (earlier v.journal to)) v.space.buffers v.jobs.running less_kept_of_counts holds.buffers_counted.held) in
    IsVm-of t j v.jobs v.told v.forgotten fits space held
    (All-left (λ x. WasTold x.item.kind x.number v.told) v.journal j to settled.items low high holds.told_matches_journal)
    (All-left (λ x. SawItsWaits x.item.kind) v.journal j to settled.items low high holds.waits_were_reached) holds.queues holds.forgotten

pub IsVm-settle : (v : VmState) (t : SpaceState) (j : JournalState) (to : ℕ) (r : Result ℕ Fault) → IsVm v → OnOk r (settle_fault v.journal to ≡ None) →
    OnOk r (IsSettled v.space t v.journal j to) → OnErr r (t ≡ v.space) → OnErr r (j ≡ v.journal) → FitsSpace t j → IsSpace t →
    IsVm (record { space = t; journal = j; jobs = v.jobs; told = v.told; forgotten = v.forgotten })
IsVm-settle v t j to (Ok count) holds why settled space_same same fits space = IsVm-settled v t j to holds why settled fits space
IsVm-settle v t j to (Err fault) holds why settled space_same same fits space =
    subst (λ (x : JournalState). IsVm (record { space = t; journal = x; jobs = v.jobs; told = v.told; forgotten = v.forgotten })) (sym same)
    (subst (λ (x : SpaceState). IsVm (record { space = x; journal = v.journal; jobs = v.jobs; told = v.told; forgotten = v.forgotten })) (sym space_same) holds)
