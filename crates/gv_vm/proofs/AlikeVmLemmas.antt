-- For callers: machines that are the same, bare of memory, answer the same faults, and go on to be the same after the same call, where
-- no outcome is want of memory.
use Rattle.std.proofs.Common.{◌≡◌, ℕ, ◌+◌, List, [], ◌∷◌, ◌++◌, map, Some, None, Option, inl, inr, refl, sym, ap, ◌∙◌, subst}
use Rattle.std.proofs.lemmas.Option.{none-some, same_Some}
use Rattle.gv_types.specs.declared.fault.Fault.{Fault}
use Rattle.gv_types.specs.declared.fault.Fault.TheVariants.{NoEntry, Held}
use Rattle.gv_types.specs.declared.mapping.BufferId.{BufferId}
use Rattle.gv_types.specs.declared.mapping.Mapping.{Mapping}
use Rattle.gv_types.specs.declared.operation.Op.{Op}
use Rattle.gv_types.specs.declared.request.Request.{Request}
use Rattle.gv_buffers.specs.Buffers.{BuffersState, create_fault, destroy_fault, next_id, with_new, without, left_everywhere, IsCreated}
use Rattle.gv_space.specs.State.{SpaceState}
use Rattle.gv_journal.specs.Items.{JournalState}
use Rattle.gv_journal.specs.Binding.{IsRewound}
use Rattle.gv_journal.specs.Settling.{IsSettled}
use Rattle.gv_journal.specs.Verdict.{verdict, refusal, IsRefused}
use Rattle.gv_journal.specs.Withdrawing.{IsWithdrawn}
use Rattle.gv_journal.specs.Bare.{BareRequest, BareItem, BareJournal, bare_request, bare_item, bare_journal}
use Rattle.gv_journal.specs.declared.item.Item.{Item}
use Rattle.gv_journal.specs.declared.refusal.Refusal.{Refusal}
use Rattle.gv_journal.proofs.BareItemLemmas.{next_alike, settle_fault_alike}
use Rattle.gv_journal.proofs.AlikeLemmas.{verdict_alike, withdraw_fault_alike, bound_alike, applied_alike, withdrawn_alike, rewound_alike, settled_alike}
use Rattle.gv_vm.specs.Places.{place_at}
use Rattle.gv_vm.specs.Jobs.{JobsState, JobState, begin_fault, end_fault, without_job, with_all_held, job_state, IsBegun, IsEnded}
use Rattle.gv_vm.specs.State.{VmState, HasOtherBuffers, HasOtherJobs}
use Rattle.gv_vm.specs.Outcomes.{with_outcome}
use Rattle.gv_vm.specs.BindOutcome.{CameTo, IsBoundAndTold}
use Rattle.gv_vm.specs.Trimming.{held_fault, trim_fault}
use Rattle.gv_vm.specs.Step.{event_fault, rewind_fault}
use Rattle.gv_vm.proofs.AlikeForgettingLemmas.{forget_fault_alike}
use Rattle.gv_vm.specs.Alike.{AreAlikeVms, IsAmple}
use Rattle.gv_vm.specs.declared.event.Event.{Event}
use Rattle.gv_vm.specs.declared.event.Event.TheVariants.{Put, Take, Look, Bind, GiveUp, Pay, Raise, Create, Destroy, Rewind, Withdraw, Settle, Forget, Trim, JobBegin, JobEnd, Translate}
use Rattle.gv_vm.specs.declared.jobs.Access.{Access}
use Rattle.gv_vm.specs.declared.jobs.Job.{Job}
use Rattle.gv_vm.specs.declared.places.Place.{Place}
use Rattle.gv_vm.specs.declared.outcome.Outcome.{Outcome}
use Rattle.gv_vm.specs.declared.outcome.Outcome.TheVariants.{Accepted, NotReady, Refused as RefusedAt}

pub AreAlikeVms-sym : (v v' : VmState) → AreAlikeVms v v' → AreAlikeVms v' v
AreAlikeVms-sym v v' alike = record { space = sym alike.space; journal = sym alike.journal; jobs = sym alike.jobs; told = sym alike.told; forgotten = sym alike.forgotten }

abbrev rewind_of : List BareItem → Option Fault
rewind_of [] = Some NoEntry
rewind_of (item ∷ older) = None

rewind_is : (items : List Item) → rewind_fault items ≡ rewind_of (map bare_item items)
rewind_is [] = refl
rewind_is (item ∷ older) = refl

abbrev held_of : ℕ → List BareItem → Option Fault
held_of first [] = None
held_of first (item ∷ older) = Some (Held first)

held_is : (first : ℕ) (items : List Item) → held_fault first items ≡ held_of first (map bare_item items)
held_is first [] = refl
held_is first (item ∷ older) = refl

trim_is : (j : JournalState) → trim_fault j ≡ held_of j.first (bare_journal j).items
trim_is j = held_is j.first j.items

some_same : {A : Type 0} (xs ys : List A) → map Some xs ≡ map Some ys → xs ≡ ys
some_same [] [] same = refl
some_same [] (y ∷ ys) same = absurd cc
some_same (x ∷ xs) [] same = absurd cc
some_same (x ∷ xs) (y ∷ ys) same =
    let head : x ≡ y = cc in
    let tail : map Some xs ≡ map Some ys = cc in
    let rest : xs ≡ ys = some_same xs ys tail in
    cc

-- a refusal that isn't for want of memory is the verdict
by_verdict : (s : SpaceState) (j : JournalState) (ops : List Op) (op : ℕ) (fault : Fault) → IsAmple (RefusedAt op fault) → IsRefused s j ops (refusal op fault) → verdict s j ops ≡ Some (refusal op fault)
by_verdict s j ops op fault ample (inl verdict) = verdict
by_verdict s j ops op fault ample (inr want) = absurd (ample want.fault)

module _ (v v' : VmState) (alike : AreAlikeVms v v') where
  pub list_alike : v.space.mappings ≡ v'.space.mappings
  list_alike = ap (λ (s : SpaceState). s.mappings) alike.space

  pub table_alike : v.space.buffers ≡ v'.space.buffers
  table_alike = ap (λ (s : SpaceState). s.buffers) alike.space

  -- why an event is refused
  pub event_fault_alike : (event : Event) → event_fault v event ≡ event_fault v' event
  event_fault_alike (Create pages) = ap (λ (t : BuffersState). create_fault t pages) table_alike
  event_fault_alike (Destroy id) = ap (λ (t : BuffersState). destroy_fault t id) table_alike
  event_fault_alike Rewind = rewind_is v.journal.items ∙ ap (λ (j : BareJournal). rewind_of j.items) alike.journal ∙ sym (rewind_is v'.journal.items)
  event_fault_alike (Withdraw entry) = withdraw_fault_alike v.space v'.space v.journal v'.journal alike.space alike.journal entry
  event_fault_alike (Settle to) = settle_fault_alike v.journal v'.journal alike.journal to
  event_fault_alike (Forget queue to) = forget_fault_alike v v' alike queue to
  event_fault_alike Trim = trim_is v.journal ∙ ap (λ (j : BareJournal). held_of j.first j.items) alike.journal ∙ sym (trim_is v'.journal)
  event_fault_alike (JobBegin accesses) =
      ap (λ (s : SpaceState). begin_fault s v.jobs accesses.items) alike.space ∙ ap (λ (r : JobsState). begin_fault v'.space r accesses.items) alike.jobs
  event_fault_alike (JobEnd job) = ap (λ (r : JobsState). end_fault r job) alike.jobs
  event_fault_alike (Put queue request) = refl
  event_fault_alike (Take queue) = refl
  event_fault_alike (Look queue) = refl
  event_fault_alike (Bind queue) = refl
  event_fault_alike (GiveUp queue) = refl
  event_fault_alike (Pay queue) = refl
  event_fault_alike (Raise point) = refl
  event_fault_alike (Translate addr) = refl

  module _ (w w' : VmState) where
    -- only the buffers changed, and are the same
    other_buffers : HasOtherBuffers v w → HasOtherBuffers v' w' → w.space.buffers ≡ w'.space.buffers → AreAlikeVms w w'
    other_buffers rest rest' table = record {
      space =
          ap (λ (m : VmState). m.space) rest ∙ ap (λ (s : SpaceState). record s { buffers = w.space.buffers }) alike.space
          ∙ ap (λ (t : BuffersState). record v'.space { buffers = t }) table ∙ sym (ap (λ (m : VmState). m.space) rest');
      journal = ap (λ (m : VmState). bare_journal m.journal) rest ∙ alike.journal ∙ sym (ap (λ (m : VmState). bare_journal m.journal) rest');
      jobs = ap (λ (m : VmState). m.jobs) rest ∙ alike.jobs ∙ sym (ap (λ (m : VmState). m.jobs) rest');
      told = ap (λ (m : VmState). m.told) rest ∙ alike.told ∙ sym (ap (λ (m : VmState). m.told) rest');
      forgotten = ap (λ (m : VmState). m.forgotten) rest ∙ alike.forgotten ∙ sym (ap (λ (m : VmState). m.forgotten) rest');
    }

    -- only the jobs changed, and what they hold
    other_jobs : HasOtherJobs v w → HasOtherJobs v' w' → w.space.buffers ≡ w'.space.buffers → w.jobs ≡ w'.jobs → AreAlikeVms w w'
    other_jobs rest rest' table jobs = record {
      space =
          ap (λ (m : VmState). m.space) rest ∙ ap (λ (s : SpaceState). record s { buffers = w.space.buffers }) alike.space
          ∙ ap (λ (t : BuffersState). record v'.space { buffers = t }) table ∙ sym (ap (λ (m : VmState). m.space) rest');
      journal = ap (λ (m : VmState). bare_journal m.journal) rest ∙ alike.journal ∙ sym (ap (λ (m : VmState). bare_journal m.journal) rest');
      jobs = jobs;
      told = ap (λ (m : VmState). m.told) rest ∙ alike.told ∙ sym (ap (λ (m : VmState). m.told) rest');
      forgotten = ap (λ (m : VmState). m.forgotten) rest ∙ alike.forgotten ∙ sym (ap (λ (m : VmState). m.forgotten) rest');
    }

    -- only the space and the journal changed
    pub other_entries : (w.space ≡ w'.space) × (bare_journal w.journal ≡ bare_journal w'.journal) →
        w.jobs ≡ v.jobs → w'.jobs ≡ v'.jobs → w.told ≡ v.told → w'.told ≡ v'.told → w.forgotten ≡ v.forgotten → w'.forgotten ≡ v'.forgotten → AreAlikeVms w w'
    other_entries entries running running' told told' forgotten forgotten' = record {
      space = entries.0;
      journal = entries.1;
      jobs = running ∙ alike.jobs ∙ sym running';
      told = told ∙ alike.told ∙ sym told';
      forgotten = forgotten ∙ alike.forgotten ∙ sym forgotten';
    }

    -- a buffer was made
    pub id_alike : (id id' : BufferId) (size : ℕ) → IsCreated v.space.buffers w.space.buffers id size → IsCreated v'.space.buffers w'.space.buffers id' size → id ≡ id'
    id_alike id id' size made made' = made.id_is ∙ ap next_id table_alike ∙ sym made'.id_is

    pub created_alike : (id id' : BufferId) (size : ℕ) → IsCreated v.space.buffers w.space.buffers id size → IsCreated v'.space.buffers w'.space.buffers id' size →
        HasOtherBuffers v w → HasOtherBuffers v' w' → AreAlikeVms w w'
    created_alike id id' size made made' rest rest' =
        other_buffers rest rest'
        (made.state ∙ ap (with_new size) table_alike ∙ sym made'.state)

    -- one was destroyed
    pub destroyed_alike : (id : BufferId) → w.space.buffers ≡ without id v.space.buffers → w'.space.buffers ≡ without id v'.space.buffers → HasOtherBuffers v w → HasOtherBuffers v' w' → AreAlikeVms w w'
    destroyed_alike id gone gone' rest rest' = other_buffers rest rest' (gone ∙ ap (without id) table_alike ∙ sym gone')

    -- a job began
    pub places_alike : (accesses : List Access) (job job' : Job) → IsBegun v.space w.space v.jobs w.jobs accesses job → IsBegun v'.space w'.space v'.jobs w'.jobs accesses job' →
        job.places.items ≡ job'.places.items
    places_alike accesses job job' begun begun' =
        some_same job.places.items job'.places.items
        (begun.places ∙ ap (λ (ms : List Mapping). map (λ (a : Access). place_at ms a.addr) accesses) list_alike ∙ sym begun'.places)

    pub job_number_alike : (accesses : List Access) (job job' : Job) → IsBegun v.space w.space v.jobs w.jobs accesses job → IsBegun v'.space w'.space v'.jobs w'.jobs accesses job' →
        job.number ≡ job'.number
    job_number_alike accesses job job' begun begun' = begun.number ∙ ap (λ (r : JobsState). r.begun) alike.jobs ∙ sym begun'.number

    pub begun_alike : (accesses : List Access) (job job' : Job) → IsBegun v.space w.space v.jobs w.jobs accesses job → IsBegun v'.space w'.space v'.jobs w'.jobs accesses job' →
        HasOtherJobs v w → HasOtherJobs v' w' → AreAlikeVms w w'
    begun_alike accesses job job' begun begun' rest rest' =
        let number : job.number ≡ job'.number = job_number_alike accesses job job' begun begun' in
        let places : job.places.items ≡ job'.places.items = places_alike accesses job job' begun begun' in
        let one : job_state job ≡ job_state job' =
        ap (λ n. let j : JobState = record { number = n; places = job.places.items } in j) number
        ∙ ap (λ (ps : List Place). let j : JobState = record { number = job'.number; places = ps } in j) places in
        other_jobs rest rest'
        (ap (λ (s : SpaceState). s.buffers) begun.space
        ∙ ap (λ (s : SpaceState). with_all_held s.mappings v.jobs.begun accesses s.buffers) alike.space
        ∙ ap (λ (r : JobsState). with_all_held v'.space.mappings r.begun accesses v'.space.buffers) alike.jobs
        ∙ ap (λ (s : SpaceState). s.buffers) (sym begun'.space))
        (begun.jobs
        ∙ ap (λ (r : JobsState). let x : JobsState = record { begun = r.begun + 1; running = r.running ++ job_state job ∷ [] } in x) alike.jobs
        ∙ ap (λ (j : JobState). let x : JobsState = record { begun = v'.jobs.begun + 1; running = v'.jobs.running ++ j ∷ [] } in x) one
        ∙ sym begun'.jobs)

    -- one ended
    pub ended_alike : (job : ℕ) → IsEnded v.space w.space v.jobs w.jobs job → IsEnded v'.space w'.space v'.jobs w'.jobs job → HasOtherJobs v w → HasOtherJobs v' w' → AreAlikeVms w w'
    ended_alike job ended ended' rest rest' =
        other_jobs rest rest'
        (ap (λ (s : SpaceState). s.buffers) ended.space ∙ ap (left_everywhere job) table_alike ∙ ap (λ (s : SpaceState). s.buffers) (sym ended'.space))
        (ended.jobs ∙ ap (λ (r : JobsState). let x : JobsState = record r { running = without_job job r.running } in x) alike.jobs ∙ sym ended'.jobs)

    -- the newest item was taken back, one was withdrawn, some were settled
    pub vm_rewound : IsRewound v.space w.space v.journal w.journal → IsRewound v'.space w'.space v'.journal w'.journal →
        w.jobs ≡ v.jobs → w'.jobs ≡ v'.jobs → w.told ≡ v.told → w'.told ≡ v'.told → w.forgotten ≡ v.forgotten → w'.forgotten ≡ v'.forgotten → AreAlikeVms w w'
    vm_rewound done done' = other_entries (rewound_alike v.space v'.space v.journal v'.journal alike.space alike.journal w.space w'.space w.journal w'.journal done done')

    pub vm_withdrawn : (n : ℕ) → w.space.room ≡ v.space.room → w'.space.room ≡ v'.space.room → IsWithdrawn v.space w.space v.journal w.journal n → IsWithdrawn v'.space w'.space v'.journal w'.journal n →
        w.jobs ≡ v.jobs → w'.jobs ≡ v'.jobs → w.told ≡ v.told → w'.told ≡ v'.told → w.forgotten ≡ v.forgotten → w'.forgotten ≡ v'.forgotten → AreAlikeVms w w'
    vm_withdrawn n room room' done done' =
        other_entries (withdrawn_alike v.space v'.space v.journal v'.journal alike.space alike.journal w.space w'.space w.journal w'.journal n
        (room ∙ ap (λ (s : SpaceState). s.room) alike.space ∙ sym room') done done')

    pub vm_settled : (to : ℕ) → IsSettled v.space w.space v.journal w.journal to → IsSettled v'.space w'.space v'.journal w'.journal to →
        w.jobs ≡ v.jobs → w'.jobs ≡ v'.jobs → w.told ≡ v.told → w'.told ≡ v'.told → w.forgotten ≡ v.forgotten → w'.forgotten ≡ v'.forgotten → AreAlikeVms w w'
    vm_settled to done done' = other_entries (settled_alike v.space v'.space v.journal v'.journal alike.space alike.journal w.space w'.space w.journal w'.journal to done done')

    module _ (queue number : ℕ) (request request' : Request) (seen : List ℕ) (same : bare_request request ≡ bare_request request') where
      same_verdict : verdict v.space v.journal request.ops.items ≡ verdict v'.space v'.journal request'.ops.items
      same_verdict =
          verdict_alike v.space v'.space v.journal v'.journal alike.space alike.journal request.ops.items
          ∙ ap (λ (r : BareRequest). verdict v'.space v'.journal r.ops) same

      -- the same request comes to the same
      pub outcome_alike : (outcome outcome' : Outcome) → CameTo v.space w.space v.journal w.journal queue number request seen outcome →
          CameTo v'.space w'.space v'.journal w'.journal queue number request' seen outcome' → IsAmple outcome → IsAmple outcome' → outcome ≡ outcome'
      outcome_alike (Accepted entry) (Accepted entry') came came' ample ample' =
          ap (λ n. Accepted n) (came.entry_is ∙ next_alike v.journal v'.journal alike.journal ∙ sym came'.entry_is)
      outcome_alike (Accepted entry) (RefusedAt op fault) came came' ample ample' =
          absurd (none-some (refusal op fault) (sym came.allowed ∙ same_verdict ∙ by_verdict v'.space v'.journal request'.ops.items op fault ample' came'.refused))
      outcome_alike (RefusedAt op fault) (Accepted entry) came came' ample ample' =
          absurd (none-some (refusal op fault) (sym came'.allowed ∙ sym same_verdict ∙ by_verdict v.space v.journal request.ops.items op fault ample came.refused))
      outcome_alike (RefusedAt op fault) (RefusedAt op' fault') came came' ample ample' =
          let one : refusal op fault ≡ refusal op' fault' =
          same_Some (refusal op fault) (refusal op' fault')
          (sym (by_verdict v.space v.journal request.ops.items op fault ample came.refused) ∙ same_verdict ∙ by_verdict v'.space v'.journal request'.ops.items op' fault' ample' came'.refused) in
          ap (λ (r : Refusal). RefusedAt r.op r.fault) one
      outcome_alike (Accepted entry) (NotReady point have) came came' ample ample' = absurd came'
      outcome_alike (RefusedAt op fault) (NotReady point have) came came' ample ample' = absurd came'
      outcome_alike (NotReady point have) outcome' came came' ample ample' = absurd came

      entries_alike : (outcome : Outcome) → CameTo v.space w.space v.journal w.journal queue number request seen outcome →
          CameTo v'.space w'.space v'.journal w'.journal queue number request' seen outcome → (w.space ≡ w'.space) × (bare_journal w.journal ≡ bare_journal w'.journal)
      entries_alike (Accepted entry) came came' = (
        applied_alike v.space v'.space v.journal v'.journal alike.space alike.journal w.space w'.space request request' same
            (came.room ∙ ap (λ (s : SpaceState). s.room) alike.space ∙ sym came'.room) came.space came'.space,
        bound_alike v.space v'.space v.journal v'.journal alike.space alike.journal w.journal w'.journal queue number request request' came.saw came'.saw same (came.saw_is ∙ sym came'.saw_is)
            came.item came'.item,
      )
      entries_alike (RefusedAt op fault) came came' = (
        came.space ∙ alike.space ∙ sym came'.space,
        ap bare_journal came.journal ∙ alike.journal ∙ sym (ap bare_journal came'.journal),
      )
      entries_alike (NotReady point have) came came' = absurd came

      pub carried_alike : (outcome outcome' : Outcome) → IsBoundAndTold v w queue number request seen outcome → IsBoundAndTold v' w' queue number request' seen outcome' →
          IsAmple outcome → IsAmple outcome' → AreAlikeVms w w'
      carried_alike outcome outcome' done done' ample ample' =
          let one : outcome ≡ outcome' = outcome_alike outcome outcome' done.came done'.came ample ample' in
          let entries = entries_alike outcome done.came (subst (λ (o : Outcome). CameTo v'.space w'.space v'.journal w'.journal queue number request' seen o) (sym one) done'.came) in
          record {
            space = entries.0;
            journal = entries.1;
            jobs = done.jobs ∙ alike.jobs ∙ sym done'.jobs;
            told = done.told ∙ ap (λ told. with_outcome told queue outcome) alike.told ∙ ap (with_outcome v'.told queue) one ∙ sym done'.told;
            forgotten = done.forgotten ∙ alike.forgotten ∙ sym done'.forgotten;
          }
