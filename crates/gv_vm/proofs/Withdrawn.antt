-- What holds of a machine still holds once an entry is withdrawn.
use Rattle.std.proofs.Common.{◌≡◌, ℕ, List, [], ◌∷◌, sym, subst, Result, Ok, Err}
use Rattle.std.specs.Prelude.{OnOk, OnErr}
use Rattle.std.specs.List.{All}
use Rattle.std.proofs.lemmas.List.Elements.{All-cons}
use Rattle.gv_types.specs.Operation.{range_of}
use Rattle.gv_types.specs.declared.fault.Fault.{Fault}
use Rattle.gv_types.specs.declared.mapping.Mapping.{Mapping}
use Rattle.gv_types.specs.declared.operation.PageOp.{PageOp}
use Rattle.gv_ranges.specs.Edit.{edited_by_all, restored}
use Rattle.gv_space.specs.Counts.{by_count, counted, more_kept}
use Rattle.gv_space.specs.State.{SpaceState, IsSpace, IsUnchanged}
use Rattle.gv_space.proofs.ByCountLemmas.{counted_of_counts, more_kept_of_counts}
use Rattle.gv_journal.specs.Items.{JournalState, NumberedItem, entries, next}
use Rattle.gv_journal.specs.Applying.{met}
use Rattle.gv_journal.specs.Fits.{FitsSpace}
use Rattle.gv_journal.specs.Withdrawing.{after_restore, after_withdrawal, list_before, ops_at, IsWithdrawn}
use Rattle.gv_journal.specs.declared.item.ItemKind.{ItemKind}
use Rattle.gv_vm.specs.Jobs.{JobState, AreHeld}
use Rattle.gv_vm.specs.State.{VmState, IsVm, WasTold, SawItsWaits}
use Rattle.gv_vm.proofs.VmInvariant.{IsVm-of, AreHeld-by_count}

AreHeld-after_withdrawal : (before : List Mapping) (ops : List PageOp) (s : SpaceState) (js : List JobState) → AreHeld s.buffers js → AreHeld (after_withdrawal before ops s).buffers js
AreHeld-after_withdrawal before [] s js held = held
AreHeld-after_withdrawal before (op ∷ older) s js held =
    AreHeld-after_withdrawal before older (after_restore s op (edited_by_all older before)) js
    (AreHeld-by_count counted (restored s.mappings (range_of op) (edited_by_all older before)) (by_count more_kept (met s.mappings (range_of op)) s.buffers) js counted_of_counts
    (AreHeld-by_count more_kept (met s.mappings (range_of op)) s.buffers js more_kept_of_counts held))

IsVm-withdrawn : (v : VmState) (t : SpaceState) (j : JournalState) (n : ℕ) → IsVm v → IsWithdrawn v.space t v.journal j n → FitsSpace t j → IsSpace t →
    IsVm (record { space = t; journal = j; jobs = v.jobs; told = v.told; forgotten = v.forgotten })
IsVm-withdrawn v t j n holds withdrawn fits space =
    let Told : NumberedItem → Type 0 = λ x. WasTold x.item.kind x.number v.told in
    let Saw : NumberedItem → Type 0 = λ x. SawItsWaits x.item.kind in
    let x : NumberedItem = record { number = next v.journal; item = withdrawn.item } in
    let held : AreHeld t.buffers v.jobs.running = subst (λ (s : SpaceState). AreHeld s.buffers v.jobs.running) (sym withdrawn.state)
    (AreHeld-after_withdrawal (list_before v.space v.journal n) (ops_at v.journal n) v.space v.jobs.running holds.buffers_counted.held) in
    let told : Told x = subst (λ (k : ItemKind). WasTold k (next v.journal) v.told) (sym withdrawn.kind) tt in
    let saw : Saw x = subst SawItsWaits (sym withdrawn.kind) tt in
    IsVm-of t j v.jobs v.told v.forgotten fits space held
    (subst (λ (i : JournalState). All Told (entries i)) (sym withdrawn.items) (All-cons Told x (entries v.journal) told holds.told_matches_journal))
    (subst (λ (i : JournalState). All Saw (entries i)) (sym withdrawn.items) (All-cons Saw x (entries v.journal) saw holds.waits_were_reached)) holds.queues holds.forgotten

IsVm-unchanged : (v : VmState) (t : SpaceState) (j : JournalState) → IsVm v → IsUnchanged v.space t → j ≡ v.journal → FitsSpace t j → IsSpace t →
    IsVm (record { space = t; journal = j; jobs = v.jobs; told = v.told; forgotten = v.forgotten })
IsVm-unchanged v t j holds unchanged same fits space =
    IsVm-of t j v.jobs v.told v.forgotten fits space
    (subst (λ (s : SpaceState). AreHeld s.buffers v.jobs.running) (sym unchanged.state) holds.buffers_counted.held)
    (subst (λ (i : JournalState). All (λ x. WasTold x.item.kind x.number v.told) (entries i)) (sym same) holds.told_matches_journal)
    (subst (λ (i : JournalState). All (λ x. SawItsWaits x.item.kind) (entries i)) (sym same) holds.waits_were_reached) holds.queues holds.forgotten

pub IsVm-withdraw : (v : VmState) (t : SpaceState) (j : JournalState) (n : ℕ) (r : Result ℕ Fault) → IsVm v → OnOk r (IsWithdrawn v.space t v.journal j n) → OnErr r (IsUnchanged v.space t) →
    OnErr r (j ≡ v.journal) → FitsSpace t j → IsSpace t → IsVm (record { space = t; journal = j; jobs = v.jobs; told = v.told; forgotten = v.forgotten })
IsVm-withdraw v t j n (Ok item) holds withdrawn unchanged same fits space = IsVm-withdrawn v t j n holds withdrawn fits space
IsVm-withdraw v t j n (Err fault) holds withdrawn unchanged same fits space = IsVm-unchanged v t j holds unchanged same fits space
