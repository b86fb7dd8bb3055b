-- What holds of a machine still holds after each call.
use Rattle.std.proofs.Common.{◌≡◌, ◌≢◌, ℕ, ◌+◌, true, not, eqb, List, [], ◌∷◌, length, take, drop, arith, refl, sym, ◌∙◌, ap, subst, Some, None, Option, Result, Ok, Err}
use Rattle.std.specs.Prelude.{IsSomeAnd, IfOk, OnOk, OnErr, IsOk, MatchOption, is_some}
use Rattle.std.specs.Option.{option_map}
use Rattle.std.specs.List.{All, list_any, insert}
use Rattle.std.proofs.lemmas.Bool.{eqb-true, and_parts}
use Rattle.std.proofs.lemmas.List.Elements.{All-nil, All-cons, All-tail, All-weaker, All-map, All-filter, All-take, All-drop, All-append}
use Rattle.gv_types.specs.Operation.{range_of}
use Rattle.gv_types.specs.declared.mapping.BufferId.{BufferId}
use Rattle.gv_types.specs.declared.mapping.Mapping.{Mapping}
use Rattle.gv_types.specs.declared.fault.Fault.{Fault}
use Rattle.gv_types.specs.declared.operation.PageOp.{PageOp}
use Rattle.gv_buffers.specs.declared.usage.User.{User}
use Rattle.gv_buffers.specs.Users.{HaveNoConflict}
use Rattle.gv_buffers.proofs.FoundLemmas.{live_of_made}
use Rattle.gv_buffers.specs.Buffers.{Buffer, BuffersState, buffer, fresh, without, count_below, has_id, use_fault, destroy_fault, destroy_fault_of, left_everywhere, IsBuffer, IsCreated, IsTable}
use Rattle.gv_buffers.specs.Laws.{OthersStayWhereOneIsMade, OthersStayWhereOneIsDestroyed}
use Rattle.gv_ranges.specs.Edit.{edited, undone}
use Rattle.gv_space.specs.Counts.{by_count, count_of, counted, more_kept, less_kept}
use Rattle.gv_space.specs.State.{SpaceState, IsSpace, AreKept}
use Rattle.gv_space.specs.Undo.{OpUndoState, reverted}
use Rattle.gv_space.proofs.BufferTableLemmas.{found_live, IsFound, buffer-each}
use Rattle.gv_space.proofs.ByCountLemmas.{IsOfCounts, counted_of_counts, more_kept_of_counts, less_kept_of_counts}
use Rattle.gv_journal.specs.Items.{JournalState, NumberedItem, numbered, entries}
use Rattle.gv_journal.specs.History.{kept_by, undos_of}
use Rattle.gv_journal.specs.Undoing.{reverted_by}
use Rattle.gv_journal.specs.Fits.{FitsSpace}
use Rattle.gv_journal.specs.Applying.{met, after_all}
use Rattle.gv_journal.specs.Binding.{IsRewound}
use Rattle.gv_journal.specs.declared.item.Item.{Item}
use Rattle.gv_vm.specs.Jobs.{JobState, JobsState, AreHeld, IsHeld, IsBegun, IsEnded, with_all_held}
use Rattle.gv_vm.specs.declared.jobs.Access.{Access}
use Rattle.gv_vm.specs.declared.jobs.Job.{Job}
use Rattle.gv_vm.specs.State.{VmState, IsVm, WasTold, ToldMatchesJournal, SawItsWaits, WaitsWereReached, NoConflictingJobs}
use Rattle.gv_vm.specs.declared.outcome.Outcome.{Outcome}
use Rattle.gv_vm.specs.declared.places.Target.{Target}
use Rattle.gv_vm.specs.declared.places.Target.TheVariants.{Buffer as BufferByte, Zero}

-- the undo values of a machine fit its space
pub fits_space : (v : VmState) → IsVm v → FitsSpace v.space v.journal
fits_space v holds = record { translates = holds.translates; saves = holds.undo_saves_the_view; rewinds = holds.rewinds; kept = holds.buffers_counted.kept }

no_conflict : (t : BuffersState) → IsTable t → NoConflictingJobs t
no_conflict t table = All-weaker (IsBuffer t.made) (λ b. HaveNoConflict b.users) (λ b h. h.no_conflict) t.live table.buffers

-- A machine of parts that fit: their clauses say all.
pub IsVm-of : (s : SpaceState) (j : JournalState) (r : JobsState) (told : List (List Outcome)) (forgotten : List ℕ) → FitsSpace s j → IsSpace s → AreHeld s.buffers r.running →
    ToldMatchesJournal (entries j) told → WaitsWereReached (entries j) → length told ≡ 16 → length forgotten ≡ 16 → IsVm (record { space = s; journal = j; jobs = r; told = told; forgotten = forgotten })
IsVm-of s j r told forgotten fits space held was_told saw queues gone = record {
  translates = fits.translates;
  buffers_counted = record { used = space; kept = fits.kept; held = held };
  rewinds = fits.rewinds;
  undo_saves_the_view = fits.saves;
  told_matches_journal = was_told;
  waits_were_reached = saw;
  no_conflicting_jobs = no_conflict s.buffers space.buffers;
  queues = queues;
  forgotten = gone;
}

-- Other buffers, and other jobs that hold them, in the same list.
pub FitsSpace-buffers : (s t : SpaceState) (j : JournalState) → t ≡ record s { buffers = t.buffers } → ((ms : List Mapping) → AreKept s ms → AreKept t ms) → FitsSpace s j → FitsSpace t j
FitsSpace-buffers s t j is kept fits =
    let there : AreKept (record s { buffers = t.buffers }) (kept_by j.items) = subst (λ (x : SpaceState). AreKept x (kept_by j.items)) is (kept (kept_by j.items) fits.kept) in
    subst (λ (x : SpaceState). FitsSpace x j) (sym is) (record { translates = fits.translates; saves = fits.saves; rewinds = fits.rewinds; kept = there })

pub IsVm-buffers : (v : VmState) (t : SpaceState) (r : JobsState) → IsVm v → t ≡ record v.space { buffers = t.buffers } → ((ms : List Mapping) → AreKept v.space ms → AreKept t ms) →
    IsSpace t → AreHeld t.buffers r.running → IsVm (record { space = t; journal = v.journal; jobs = r; told = v.told; forgotten = v.forgotten })
IsVm-buffers v t r holds is kept space held =
    IsVm-of t v.journal r v.told v.forgotten (FitsSpace-buffers v.space t v.journal is kept (fits_space v holds)) space held holds.told_matches_journal holds.waits_were_reached holds.queues holds.forgotten

some_user : (n : ℕ) (o : Option Buffer) → IsSomeAnd o (λ b. list_any (λ u. eqb u.job n) b.users ≡ true) → is_some o ≡ true
some_user n None h = absurd h
some_user n (Some b) h = refl

-- a buffer was made
apart_from_fresh : (old new : BuffersState) (id other : BufferId) (size n byte : ℕ) → IsCreated old new id size → IsHeld old n (BufferByte other byte) → other ≢ id
apart_from_fresh old new id other size n byte made h same =
    let found : IsFound old other (λ b. b.id.index ≢ id.index) = found_live (λ b. b.id.index ≢ id.index) old other made.free (some_user n (buffer old other) h) in
    let index : found.b.id.index ≡ other.index = eqb-true _ _ (and_parts (eqb found.b.id.index other.index) (eqb found.b.id.generation other.generation) found.same_id).0 in
    found.holds (index ∙ ap (λ (i : BufferId). i.index) same)

IsHeld-made : (law : OthersStayWhereOneIsMade) (old new : BuffersState) (id : BufferId) (size n : ℕ) (target : Target) → IsCreated old new id size → IsHeld old n target → IsHeld new n target
IsHeld-made law old new id size n (BufferByte other byte) made h =
    subst (λ (o : Option Buffer). IsSomeAnd o (λ b. list_any (λ u. eqb u.job n) b.users ≡ true)) (sym (law old new id other size made (apart_from_fresh old new id other size n byte made h))) h
IsHeld-made law old new id size n Zero made h = tt

abbrev EachRuns : List JobState → Buffer → Type 0
EachRuns js b = All (λ u. list_any (λ j. eqb j.number u.job) js ≡ true) b.users

All-inserted : (P : Buffer → Type 0) (bs : List Buffer) (place : ℕ) (b : Buffer) → P b → All P bs → All P (insert bs place b)
All-inserted P bs place b here all = All-append P (take place bs) (b ∷ drop place bs) (All-take P place bs all) (All-cons P b (drop place bs) here (All-drop P place bs all))

pub AreHeld-made : (law : OthersStayWhereOneIsMade) (old new : BuffersState) (id : BufferId) (size : ℕ) (js : List JobState) → IsCreated old new id size → AreHeld old js → AreHeld new js
AreHeld-made law old new id size js made held = record {
  users = subst (All (EachRuns js)) (sym (live_of_made old new id size made))
      (All-inserted (EachRuns js) old.live (count_below id.index old.live) (fresh id size) (All-nil (λ u. list_any (λ j. eqb j.number u.job) js ≡ true)) held.users);
  places = All-weaker (λ j. All (λ p. IsHeld old j.number p.target) j.places) (λ j. All (λ p. IsHeld new j.number p.target) j.places)
      (λ j h. All-weaker (λ p. IsHeld old j.number p.target) (λ p. IsHeld new j.number p.target) (λ p g. IsHeld-made law old new id size j.number p.target made g) j.places h) js held.places;
}

pub AreHeld-create : (law : OthersStayWhereOneIsMade) (s t : SpaceState) (size : ℕ) (js : List JobState) (r : Result BufferId Fault) → IfOk r (λ id. IsCreated s.buffers t.buffers id size) →
    OnErr r (t ≡ s) → AreHeld s.buffers js → AreHeld t.buffers js
AreHeld-create law s t size js (Ok id) made same held = AreHeld-made law s.buffers t.buffers id size js made held
AreHeld-create law s t size js (Err fault) made same held = subst (λ (x : SpaceState). AreHeld x.buffers js) (sym same) held

few_users : (b : Buffer) → use_fault b ≡ None → length b.users ≡ 0
few_users b none = grind arith

-- a buffer was destroyed, which no job held
no_user : (n : ℕ) (users : List User) → length users ≡ 0 → list_any (λ u. eqb u.job n) users ≡ true → ⊥
no_user n [] few h = cc
no_user n (u ∷ users) few h = absurd (omega (arith, few))

used_by_none : (n : ℕ) (b : Buffer) → use_fault b ≡ None → list_any (λ u. eqb u.job n) b.users ≡ true → ⊥
used_by_none n b none h = no_user n b.users (few_users b none) h

held_by_none : (n : ℕ) (t : BuffersState) (id : BufferId) → destroy_fault t id ≡ None → IsSomeAnd (buffer t id) (λ b. list_any (λ u. eqb u.job n) b.users ≡ true) → ⊥
held_by_none n t id none h =
    elim (buffer t id) as (λ o. destroy_fault_of o ≡ None → IsSomeAnd o (λ b. list_any (λ u. eqb u.job n) b.users ≡ true) → ⊥) [
      | None ↦ (λ _ g. absurd g)
      | Some b ↦ (λ free g. used_by_none n b free g)
    ] none h

IsHeld-destroyed : (law : OthersStayWhereOneIsDestroyed) (t : BuffersState) (id : BufferId) (n : ℕ) (target : Target) → destroy_fault t id ≡ None → IsHeld t n target → IsHeld (without id t) n target
IsHeld-destroyed law t id n (BufferByte other byte) none h =
    let apart : other ≢ id = λ same. held_by_none n t id none (subst (λ (i : BufferId). IsSomeAnd (buffer t i) (λ b. list_any (λ u. eqb u.job n) b.users ≡ true)) same h) in
    subst (λ (o : Option Buffer). IsSomeAnd o (λ b. list_any (λ u. eqb u.job n) b.users ≡ true)) (sym (law t id other apart)) h
IsHeld-destroyed law t id n Zero none h = tt

AreHeld-destroyed : (law : OthersStayWhereOneIsDestroyed) (t : BuffersState) (id : BufferId) (js : List JobState) → destroy_fault t id ≡ None → AreHeld t js → AreHeld (without id t) js
AreHeld-destroyed law t id js none held = record {
  users = All-filter (λ b. not (has_id id b)) (EachRuns js) t.live held.users;
  places = All-weaker (λ j. All (λ p. IsHeld t j.number p.target) j.places) (λ j. All (λ p. IsHeld (without id t) j.number p.target) j.places)
      (λ j h. All-weaker (λ p. IsHeld t j.number p.target) (λ p. IsHeld (without id t) j.number p.target) (λ p g. IsHeld-destroyed law t id j.number p.target none g) j.places h) js held.places;
}

abbrev done_with : Unit {0} → Result (Unit {0}) Fault
done_with u = Ok u

none_where_ok : (o : Option Fault) (u : Unit {0}) → MatchOption o (IsOk (done_with u)) (λ fault. done_with u ≡ Err fault) → o ≡ None
none_where_ok None u h = refl
none_where_ok (Some fault) u h = cc

pub AreHeld-destroy : (law : OthersStayWhereOneIsDestroyed) (s t : SpaceState) (id : BufferId) (js : List JobState) (r : Result (Unit {0}) Fault) →
    MatchOption (destroy_fault s.buffers id) (IsOk r) (λ fault. r ≡ Err fault) → OnOk r (t ≡ record s { buffers = without id s.buffers }) → OnErr r (t ≡ s) → AreHeld s.buffers js → AreHeld t.buffers js
AreHeld-destroy law s t id js (Ok u) why gone same held =
    subst (λ (x : SpaceState). AreHeld x.buffers js) (sym gone) (AreHeld-destroyed law s.buffers id js (none_where_ok (destroy_fault s.buffers id) u why) held)
AreHeld-destroy law s t id js (Err fault) why gone same held = subst (λ (x : SpaceState). AreHeld x.buffers js) (sym same) held

still_used : (change : Buffer → ℕ → Buffer) (ms : List Mapping) (n : ℕ) (o : Option Buffer) → IsOfCounts change → IsSomeAnd o (λ b. list_any (λ u. eqb u.job n) b.users ≡ true) →
    IsSomeAnd (option_map (λ b. change b (count_of b.id ms)) o) (λ b. list_any (λ u. eqb u.job n) b.users ≡ true)
still_used change ms n None of_counts h = h
still_used change ms n (Some b) of_counts h = subst (λ (us : List User). list_any (λ u. eqb u.job n) us ≡ true) (sym (of_counts.users b (count_of b.id ms))) h

-- counts of mappings say nothing of who uses a buffer
IsHeld-by_count : (change : Buffer → ℕ → Buffer) (ms : List Mapping) (t : BuffersState) (n : ℕ) (target : Target) → IsOfCounts change → IsHeld t n target → IsHeld (by_count change ms t) n target
IsHeld-by_count change ms t n (BufferByte id byte) of_counts h =
    subst (λ (o : Option Buffer). IsSomeAnd o (λ b. list_any (λ u. eqb u.job n) b.users ≡ true))
    (sym (buffer-each (λ b. change b (count_of b.id ms)) t id (λ b. of_counts.id b (count_of b.id ms))))
    (still_used change ms n (buffer t id) of_counts h)
IsHeld-by_count change ms t n Zero of_counts h = tt

pub AreHeld-by_count : (change : Buffer → ℕ → Buffer) (ms : List Mapping) (t : BuffersState) (js : List JobState) → IsOfCounts change → AreHeld t js → AreHeld (by_count change ms t) js
AreHeld-by_count change ms t js of_counts held = record {
  users = All-map (EachRuns js) (λ b. change b (count_of b.id ms)) t.live
      (All-weaker (EachRuns js) (λ b. EachRuns js (change b (count_of b.id ms))) (λ b h. subst (All (λ u. list_any (λ j. eqb j.number u.job) js ≡ true)) (sym (of_counts.users b (count_of b.id ms))) h) t.live held.users);
  places = All-weaker (λ j. All (λ p. IsHeld t j.number p.target) j.places) (λ j. All (λ p. IsHeld (by_count change ms t) j.number p.target) j.places)
      (λ j h. All-weaker (λ p. IsHeld t j.number p.target) (λ p. IsHeld (by_count change ms t) j.number p.target) (λ p g. IsHeld-by_count change ms t j.number p.target of_counts g) j.places h) js held.places;
}

-- so the jobs hold what they held after changes of the list, and after these are taken back
pub AreHeld-reverted_by : (s : SpaceState) (us : List OpUndoState) (js : List JobState) → AreHeld s.buffers js → AreHeld (reverted_by s us).buffers js
AreHeld-reverted_by s [] js held = held
AreHeld-reverted_by s (u ∷ older) js held =
    AreHeld-reverted_by (reverted s u) older js
    (AreHeld-by_count counted (undone s.mappings u.change) (by_count less_kept u.change.taken s.buffers) js counted_of_counts
    (AreHeld-by_count less_kept u.change.taken s.buffers js less_kept_of_counts held))

pub AreHeld-after_all : (s : SpaceState) (ops : List PageOp) (js : List JobState) → AreHeld s.buffers js → AreHeld (after_all ops s).buffers js
AreHeld-after_all s [] js held = held
AreHeld-after_all s (op ∷ older) js held =
    let before : SpaceState = after_all older s in
    AreHeld-by_count counted (edited before.mappings op) (by_count more_kept (met before.mappings (range_of op)) before.buffers) js counted_of_counts
    (AreHeld-by_count more_kept (met before.mappings (range_of op)) before.buffers js more_kept_of_counts (AreHeld-after_all s older js held))

-- the newest item goes
All-older : (P : NumberedItem → Type 0) (old new : JournalState) (item : Item) → old ≡ record new { items = item ∷ new.items } → All P (entries old) → All P (entries new)
All-older P old new item is all =
    let here : All P (numbered new.first (item ∷ new.items)) = subst (λ (j : JournalState). All P (entries j)) is all in
    All-tail P (record { number = new.first + length new.items; item = item }) (entries new) here

pub IsVm-rewound : (v : VmState) (t : SpaceState) (j : JournalState) → IsVm v → IsRewound v.space t v.journal j → FitsSpace t j → IsSpace t →
    IsVm (record { space = t; journal = j; jobs = v.jobs; told = v.told; forgotten = v.forgotten })
IsVm-rewound v t j holds rewound fits space =
    let held : AreHeld t.buffers v.jobs.running = subst (λ (x : SpaceState). AreHeld x.buffers v.jobs.running) (sym rewound.space)
    (AreHeld-reverted_by v.space (undos_of rewound.item) v.jobs.running holds.buffers_counted.held) in
    IsVm-of t j v.jobs v.told v.forgotten fits space held
    (All-older (λ x. WasTold x.item.kind x.number v.told) v.journal j rewound.item rewound.items holds.told_matches_journal)
    (All-older (λ x. SawItsWaits x.item.kind) v.journal j rewound.item rewound.items holds.waits_were_reached) holds.queues holds.forgotten

pub IsVm-rewind : (v : VmState) (t : SpaceState) (j : JournalState) (r : Result ℕ Fault) → IsVm v → OnOk r (IsRewound v.space t v.journal j) → OnErr r (t ≡ v.space) → OnErr r (j ≡ v.journal) →
    FitsSpace t j → IsSpace t → IsVm (record { space = t; journal = j; jobs = v.jobs; told = v.told; forgotten = v.forgotten })
IsVm-rewind v t j (Ok n) holds rewound space_same same fits space = IsVm-rewound v t j holds rewound fits space
IsVm-rewind v t j (Err fault) holds rewound space_same same fits space =
    subst (λ (x : JournalState). IsVm (record { space = t; journal = x; jobs = v.jobs; told = v.told; forgotten = v.forgotten })) (sym same)
    (subst (λ (x : SpaceState). IsVm (record { space = x; journal = v.journal; jobs = v.jobs; told = v.told; forgotten = v.forgotten })) (sym space_same) holds)

other_buffers : (s t : SpaceState) (buffers : BuffersState) → t ≡ record s { buffers = buffers } → t ≡ record s { buffers = t.buffers }
other_buffers s t buffers is = is ∙ ap (λ (u : BuffersState). (let x : SpaceState = record s { buffers = u } in x)) (sym (ap (λ (x : SpaceState). x.buffers) is))

-- after each call that changes buffers and jobs alone, all else of the space is as it was
pub only_buffers : (s t : SpaceState) (id : BufferId) (r : Result (Unit {0}) Fault) → OnOk r (t ≡ record s { buffers = without id s.buffers }) → OnErr r (t ≡ s) → t ≡ record s { buffers = t.buffers }
only_buffers s t id (Ok u) gone same = other_buffers s t (without id s.buffers) gone
only_buffers s t id (Err fault) gone same = other_buffers s t s.buffers same

pub begun_buffers : (s t : SpaceState) (before after : JobsState) (accesses : List Access) (r : Result Job Fault) → IfOk r (IsBegun s t before after accesses) → OnErr r (t ≡ s) → t ≡ record s { buffers = t.buffers }
begun_buffers s t before after accesses (Ok job) begun same = other_buffers s t (with_all_held s.mappings before.begun accesses s.buffers) begun.space
begun_buffers s t before after accesses (Err fault) begun same = other_buffers s t s.buffers same

pub ended_buffers : (s t : SpaceState) (before after : JobsState) (number : ℕ) (r : Result (Unit {0}) Fault) → OnOk r (IsEnded s t before after number) → OnErr r (t ≡ s) → t ≡ record s { buffers = t.buffers }
ended_buffers s t before after number (Ok u) ended same = other_buffers s t (left_everywhere number s.buffers) ended.space
ended_buffers s t before after number (Err fault) ended same = other_buffers s t s.buffers same
