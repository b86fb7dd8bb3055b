-- A machine is still sound (`IsVm`) after a queue got one more outcome.
use Rattle.std.proofs.Common.{◌≡◌, ℕ, zero, suc, ◌<◌, ◌≤◌, true, false, eqb, List, [], ◌∷◌, ◌++◌, length, map, reverse, arith, refl, sym, ◌∙◌, subst, Some, None, Option, Result, Ok, Err}
use Rattle.std.specs.Prelude.{MatchOption, slice_get}
use Rattle.std.specs.Bool.{⊤}
use Rattle.std.specs.List.{All, AllZip}
use Rattle.std.proofs.lemmas.Bool.{eqb-true, eqb-false}
use Rattle.std.proofs.lemmas.List.Elements.{All-cons, All-head, All-tail, All-weaker}
use Rattle.std.proofs.lemmas.List.{get_or-set_same, get_or-set_other, length-set}
use Rattle.gv_types.specs.declared.fault.Fault.{Fault}
use Rattle.gv_types.specs.declared.operation.PageOp.{PageOp}
use Rattle.gv_types.specs.declared.request.Point.{Point}
use Rattle.gv_types.specs.declared.request.Request.{Request}
use Rattle.gv_space.specs.State.{SpaceState, IsSpace}
use Rattle.gv_sync.specs.Sights.{Sight}
use Rattle.gv_journal.specs.Items.{JournalState, NumberedItem, entries, next}
use Rattle.gv_journal.specs.Fits.{FitsSpace}
use Rattle.gv_journal.specs.Applying.{all_do}
use Rattle.gv_journal.specs.declared.item.ItemKind.{ItemKind}
use Rattle.gv_journal.specs.declared.item.ItemKind.TheVariants.{Bind, Withdrawal}
use Rattle.gv_vm.specs.Jobs.{JobState, AreHeld}
use Rattle.gv_vm.specs.Outcomes.{told_to, with_outcome, tell_fault}
use Rattle.gv_vm.specs.BindOutcome.{CameTo, seen_by}
use Rattle.gv_vm.specs.State.{VmState, roomless, IsVm, WasTold, ToldMatchesJournal, SawItsWaits, WaitsWereReached}
use Rattle.gv_vm.specs.declared.outcome.Outcome.{Outcome}
use Rattle.gv_vm.specs.declared.outcome.Outcome.TheVariants.{Accepted, Refused, NotReady}
use Rattle.gv_vm.proofs.VmInvariant.{fits_space, IsVm-of, AreHeld-after_all}

-- an outcome keeps its number when one is added
still_there : (told : List Outcome) (n : ℕ) (more x : Outcome) → slice_get told n ≡ Some x → slice_get (told ++ more ∷ []) n ≡ Some x
still_there [] n more x h = cc
still_there (t ∷ told) zero more x h = h
still_there (t ∷ told) (suc n) more x h = still_there told n more x h

there_last : (told : List Outcome) (x : Outcome) → slice_get (told ++ x ∷ []) (length told) ≡ Some x
there_last [] x = refl
there_last (t ∷ told) x = there_last told x

still_told : (told : List (List Outcome)) (queue other n : ℕ) (more x : Outcome) → queue < length told → slice_get (told_to told other) n ≡ Some x → slice_get (told_to (with_outcome told queue more) other) n ≡ Some x
still_told told queue other n more x less h =
    elim (eqb other queue) as (λ t. eqb other queue ≡ t → slice_get (told_to (with_outcome told queue more) other) n ≡ Some x) [
      | true ↦ (λ same.
          let is : other ≡ queue = eqb-true other queue same in
          let here : told_to (with_outcome told queue more) queue ≡ told_to told queue ++ more ∷ [] = get_or-set_same told queue (told_to told queue ++ more ∷ []) [] less in
          let before : slice_get (told_to told queue) n ≡ Some x = subst (λ (q : ℕ). slice_get (told_to told q) n ≡ Some x) is h in
          subst (λ (q : ℕ). slice_get (told_to (with_outcome told queue more) q) n ≡ Some x) (sym is)
          (subst (λ (xs : List Outcome). slice_get xs n ≡ Some x) (sym here) (still_there (told_to told queue) n more x before)))
      | false ↦ (λ apart.
          let same : told_to (with_outcome told queue more) other ≡ told_to told other = get_or-set_other told queue other (told_to told queue ++ more ∷ []) [] (eqb-false other queue apart) in
          subst (λ (xs : List Outcome). slice_get xs n ≡ Some x) (sym same) h)
    ] refl

was_told_still : (told : List (List Outcome)) (queue : ℕ) (more : Outcome) (kind : ItemKind) (entry : ℕ) → queue < length told → WasTold kind entry told → WasTold kind entry (with_outcome told queue more)
was_told_still told queue more (Bind other number request seen done) entry less h = still_told told queue other number more (Accepted entry) less h
was_told_still told queue more (Withdrawal of) entry less h = tt

all_told_still : (told : List (List Outcome)) (queue : ℕ) (more : Outcome) (xs : List NumberedItem) → queue < length told → ToldMatchesJournal xs told → ToldMatchesJournal xs (with_outcome told queue more)
all_told_still told queue more xs less all = All-weaker (λ x. WasTold x.item.kind x.number told) (λ x. WasTold x.item.kind x.number (with_outcome told queue more)) (λ x h. was_told_still told queue more x.item.kind x.number less h) xs all

-- a queue got one more outcome, and nothing else changed
pub IsVm-told : (v : VmState) (queue : ℕ) (outcome : Outcome) (told : List (List Outcome)) (forgotten : List ℕ) → IsVm v → queue < 16 → told ≡ with_outcome v.told queue outcome →
    forgotten ≡ v.forgotten → IsVm (record { space = v.space; journal = v.journal; jobs = v.jobs; told = told; forgotten = forgotten })
IsVm-told v queue outcome told forgotten holds less is same =
    let within : queue < length v.told = omega (arith, holds.queues) in
    subst (λ (gone : List ℕ). IsVm (record { space = v.space; journal = v.journal; jobs = v.jobs; told = told; forgotten = gone })) (sym same)
    (subst (λ (x : List (List Outcome)). IsVm (record { space = v.space; journal = v.journal; jobs = v.jobs; told = x; forgotten = v.forgotten })) (sym is)
    (IsVm-of v.space v.journal v.jobs (with_outcome v.told queue outcome) v.forgotten (fits_space v holds) holds.buffers_counted.used holds.buffers_counted.held
    (all_told_still v.told queue outcome (entries v.journal) within holds.told_matches_journal) holds.waits_were_reached
    (length-set v.told queue (told_to v.told queue ++ outcome ∷ []) ∙ holds.queues) holds.forgotten))

-- a look that reached a point found at least its value
saw_waits : (sights : List Sight) → All (λ r. r.point.value ≤ r.number) sights → AllZip (λ (p : Point) n. p.value ≤ n) (map (λ r. r.point) sights) (seen_by sights)
saw_waits [] reached = tt
saw_waits (r ∷ sights) reached = (All-head (λ r. r.point.value ≤ r.number) r sights reached, saw_waits sights (All-tail (λ r. r.point.value ≤ r.number) r sights reached))

-- the parts of `IsVm` after a request was carried out
came_held : (s t : SpaceState) (old new : JournalState) (queue number : ℕ) (request : Request) (seen : List ℕ) (outcome : Outcome) (js : List JobState) →
    CameTo s t old new queue number request seen outcome → AreHeld s.buffers js → AreHeld t.buffers js
came_held s t old new queue number request seen (Accepted entry) js came held =
    let ops : List PageOp = reverse (all_do s.mappings request.ops.items) in
    subst (λ (x : SpaceState). AreHeld x.buffers js) (sym came.space.state) (AreHeld-after_all s ops js held)
came_held s t old new queue number request seen (Refused op fault) js came held = subst (λ (x : SpaceState). AreHeld x.buffers js) (sym came.space) held
came_held s t old new queue number request seen (NotReady point have) js came held = absurd came

came_told : (s t : SpaceState) (old new : JournalState) (queue number : ℕ) (request : Request) (seen : List ℕ) (outcome : Outcome) (told : List (List Outcome)) →
    CameTo s t old new queue number request seen outcome → queue < length told → number ≡ length (told_to told queue) → ToldMatchesJournal (entries old) told → ToldMatchesJournal (entries new) (with_outcome told queue outcome)
came_told s t old new queue number request seen (Accepted entry) told came less turn all =
    let P : NumberedItem → Type 0 = λ x. WasTold x.item.kind x.number (with_outcome told queue (Accepted entry)) in
    let here : told_to (with_outcome told queue (Accepted entry)) queue ≡ told_to told queue ++ Accepted entry ∷ [] = get_or-set_same told queue (told_to told queue ++ Accepted entry ∷ []) [] less in
    let last : slice_get (told_to (with_outcome told queue (Accepted entry)) queue) number ≡ Some (Accepted entry) =
    subst (λ (xs : List Outcome). slice_get xs number ≡ Some (Accepted entry)) (sym here)
    (subst (λ (n : ℕ). slice_get (told_to told queue ++ Accepted entry ∷ []) n ≡ Some (Accepted entry)) (sym turn) (there_last (told_to told queue) (Accepted entry))) in
    let newest : WasTold came.item.item.kind (next old) (with_outcome told queue (Accepted entry)) =
    subst (λ (k : ItemKind). WasTold k (next old) (with_outcome told queue (Accepted entry))) (sym came.item.kind)
    (subst (λ (e : ℕ). slice_get (told_to (with_outcome told queue (Accepted entry)) queue) number ≡ Some (Accepted e)) came.entry_is last) in
    subst (λ (j : JournalState). All P (entries j)) (sym came.item.items)
    (All-cons P (record { number = next old; item = came.item.item }) (entries old) newest (all_told_still told queue (Accepted entry) (entries old) less all))
came_told s t old new queue number request seen (Refused op fault) told came less turn all =
    subst (λ (j : JournalState). ToldMatchesJournal (entries j) (with_outcome told queue (Refused op fault))) (sym came.journal) (all_told_still told queue (Refused op fault) (entries old) less all)
came_told s t old new queue number request seen (NotReady point have) told came less turn all = absurd came

came_saw : (s t : SpaceState) (old new : JournalState) (queue number : ℕ) (request : Request) (seen : List ℕ) (outcome : Outcome) →
    CameTo s t old new queue number request seen outcome → AllZip (λ (p : Point) n. p.value ≤ n) request.waits.items seen → WaitsWereReached (entries old) → WaitsWereReached (entries new)
came_saw s t old new queue number request seen (Accepted entry) came saw all =
    let P : NumberedItem → Type 0 = λ x. SawItsWaits x.item.kind in
    let newest : SawItsWaits came.item.item.kind =
    subst SawItsWaits (sym came.item.kind) (subst (λ (ns : List ℕ). AllZip (λ (p : Point) n. p.value ≤ n) request.waits.items ns) (sym came.saw_is) saw) in
    subst (λ (j : JournalState). All P (entries j)) (sym came.item.items) (All-cons P (record { number = next old; item = came.item.item }) (entries old) newest all)
came_saw s t old new queue number request seen (Refused op fault) came saw all = subst (λ (j : JournalState). WaitsWereReached (entries j)) (sym came.journal) all
came_saw s t old new queue number request seen (NotReady point have) came saw all = absurd came

turn_from_none : (limit : ℕ) (told : List (List Outcome)) (queue number : ℕ) → tell_fault limit told queue number ≡ None → number ≡ length (told_to told queue)
turn_from_none limit told queue number none = grind arith

pub IsVm-bound : (v : VmState) (t : SpaceState) (j : JournalState) (limit queue number : ℕ) (request : Request) (sights : List Sight) (outcome : Outcome) (told : List (List Outcome)) (forgotten : List ℕ) → IsVm v →
    FitsSpace t j → IsSpace t → CameTo (roomless v.space) (roomless t) v.journal j queue number request (seen_by sights) outcome → queue < 16 → tell_fault limit v.told queue number ≡ None →
    map (λ r. r.point) sights ≡ request.waits.items → All (λ r. r.point.value ≤ r.number) sights → told ≡ with_outcome v.told queue outcome →
    forgotten ≡ v.forgotten → IsVm (record { space = t; journal = j; jobs = v.jobs; told = told; forgotten = forgotten })
IsVm-bound v t j limit queue number request sights outcome told forgotten holds fits space came less none points reached is same =
    let within : queue < length v.told = omega (arith, holds.queues) in
    let turn : number ≡ length (told_to v.told queue) = turn_from_none limit v.told queue number none in
    let saw : AllZip (λ (p : Point) n. p.value ≤ n) request.waits.items (seen_by sights) =
    subst (λ (ps : List Point). AllZip (λ (p : Point) n. p.value ≤ n) ps (seen_by sights)) points (saw_waits sights reached) in
    subst (λ (gone : List ℕ). IsVm (record { space = t; journal = j; jobs = v.jobs; told = told; forgotten = gone })) (sym same)
    (subst (λ (x : List (List Outcome)). IsVm (record { space = t; journal = j; jobs = v.jobs; told = x; forgotten = v.forgotten })) (sym is)
    (IsVm-of t j v.jobs (with_outcome v.told queue outcome) v.forgotten fits space
    (came_held (roomless v.space) (roomless t) v.journal j queue number request (seen_by sights) outcome v.jobs.running came holds.buffers_counted.held)
    (came_told (roomless v.space) (roomless t) v.journal j queue number request (seen_by sights) outcome v.told came within turn holds.told_matches_journal)
    (came_saw (roomless v.space) (roomless t) v.journal j queue number request (seen_by sights) outcome came saw holds.waits_were_reached)
    (length-set v.told queue (told_to v.told queue ++ outcome ∷ []) ∙ holds.queues) holds.forgotten))

abbrev prepared_ok : Unit {0} → Result (Unit {0}) Fault
prepared_ok u = Ok u

-- where `prepare` answers Ok there was no fault
pub none_if_prepared : (o : Option Fault) (u : Unit {0}) → MatchOption o ⊤ (λ fault. prepared_ok u ≡ Err fault) → o ≡ None
none_if_prepared None u h = refl
none_if_prepared (Some fault) u h = cc
