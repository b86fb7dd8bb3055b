-- A line that is run in two states that are the same, bare of memory, writes the same, and leads to states that are.
use Rattle.std.proofs.Common.{◌≡◌, ℕ, false, List, [], ◌∷◌, ◌++◌, map, Option, Some, None, slice_index, inl, inr, ◌⊎◌, refl, sym, ap, ◌∙◌}
use Rattle.std.specs.List.{flat_map}
use Rattle.std.proofs.lemmas.Option.{same_Some}
use Rattle.gv_types.specs.Bounds.{BoundsState, byte_area}
use Rattle.gv_types.specs.declared.fault.Fault.TheVariants.{TooManyAccesses}
use Rattle.gv_types.specs.declared.mapping.BufferId.{BufferId}
use Rattle.gv_types.specs.declared.mapping.Mapping.{Mapping}
use Rattle.gv_table.specs.Table.{tables_of}
use Rattle.gv_buffers.specs.Buffers.{BuffersState}
use Rattle.gv_space.specs.State.{SpaceState}
use Rattle.gv_vm.specs.Alike.{AreAlikeEvents}
use Rattle.gv_vm.specs.declared.outcome.Outcome.{Outcome}
use Rattle.gv_vm.specs.Places.{place_at}
use Rattle.gv_vm.specs.World.{WorldState}
use Rattle.gv_vm.specs.declared.event.Event.{Event}
use Rattle.gv_vm.specs.declared.event.Event.TheVariants.{Raise, Create, Destroy, Rewind, Withdraw, Settle, JobBegin, JobEnd}
use Rattle.gv_vm.specs.declared.event.Reply.{Reply}
use Rattle.gv_vm.specs.declared.jobs.Access.{Access}
use Rattle.gv_vm.proofs.AlikeVmLemmas.{list_alike, table_alike}
use Rattle.gv_lines.specs.Clause.{queue_asked}
use Rattle.gv_lines.specs.declared.clause.Clause.{Clause}
use Rattle.gv_lines.specs.declared.line.Line.{Line}
use Rattle.gv_lines.specs.declared.line.Line.TheVariants as line
use Rattle.gv_lines.specs.declared.operation.Operation.{Operation}
use Rattle.gv_lines.specs.declared.point.NamedPoint.{NamedPoint}
use Rattle.gv_text.specs.AlikePlans.{AreAllAlike, AreAmple, StayAlike}
use Rattle.gv_session.specs.Requests.{op_named, point_named, access_named}
use Rattle.gv_vm.specs.Plans.{once, serving, IsCarriedOut}
use Rattle.gv_session.specs.Line.{Written, DoesOnce, Withdraws, Answers, Of, SetsBounds, Makes, declared, BeginsJob, HasTooMany, BindsRequest, line_limits, Runs}
use Rattle.gv_session.specs.Texts.{refused_reply, lines_reply, mapping_text, place_reply, tables_reply, number_reply, journal_reply}
use Rattle.gv_session.specs.ReplyTexts.{said, said_of_withdrawal, told, told_said, uses_said, plan_said}
use Rattle.gv_session.specs.State.{SessionState, Buffers, names_alone, buffer_named, timeline_named, begun, empty_world}
use Rattle.gv_session.specs.declared.stage.Stage.TheVariants.{Bounded, Begun}
use Rattle.gv_text.proofs.AlikeAnswers.{journal_alike}
use Rattle.gv_text.proofs.AlikeEvents.{first_step, ample_made}
use Rattle.gv_text.proofs.AlikeNames.{requests_alike, declared_alike}
use Rattle.gv_text.proofs.AlikeJobs.{too_many_alike}
use Rattle.gv_text.proofs.AlikePlans.{once_alike, serving_alike, carried_alike}
use Rattle.gv_text.proofs.AlikeReplies.{said_alike, told_alike, said_of_withdrawal_alike, all_said_alike}
use Rattle.gv_text.proofs.AlikeStates.{AreAlikeStates, AreAlikeStates-sym, WriteAlike, moved_states, set_alike, area_same, limits_same, answers_alike, does_alike}

of_there : {X : Type 0} (o : Option X) (P : X → Type 0) → Of o P → (x : X) × (o ≡ Some x) × P x
of_there None P it = absurd it
of_there (Some x) P it = (x, refl, it)

module _ (s s' t t' : SessionState) (w w' : Written) (alike : AreAlikeStates s s') where
  names_same : names_alone s.buffers ≡ names_alone s'.buffers
  names_same = ap (λ (buffers : Buffers). names_alone buffers) alike.buffers

  list_same : s.world.vm.space.mappings ≡ s'.world.vm.space.mappings
  list_same = list_alike s.world.vm s'.world.vm alike.worlds.vm

  -- what is said of the same replies
  all_said_same : (rs rs' : List Reply) → AreAllAlike rs rs' →
      flat_map (said (names_alone s.buffers) s.timelines) rs ≡ flat_map (said (names_alone s'.buffers) s'.timelines) rs'
  all_said_same rs rs' all =
      all_said_alike (said (names_alone s.buffers) s.timelines) (said_alike (names_alone s.buffers) s.timelines) rs rs' all
      ∙ ap (λ (names : List (List ℕ)). flat_map (said names s.timelines) rs') names_same
      ∙ ap (λ (timelines : List (List ℕ)). flat_map (said (names_alone s'.buffers) timelines) rs') alike.timelines

  all_told_same : (rs rs' : List Reply) → AreAllAlike rs rs' → flat_map (told s.timelines) rs ≡ flat_map (told s'.timelines) rs'
  all_told_same rs rs' all =
      all_said_alike (told s.timelines) (told_alike s.timelines) rs rs' all
      ∙ ap (λ (timelines : List (List ℕ)). flat_map (told timelines) rs') alike.timelines

  -- a line that asks for one event
  once_same : (e e' : Event) → AreAlikeEvents e e' → DoesOnce e s w t → DoesOnce e' s' w' t' → w.out_of_memory ≡ false → w'.out_of_memory ≡ false → WriteAlike w w' t t'
  once_same e e' same does does' ample ample' =
      does_alike s s' alike w w' t t' (once e) (once e') (flat_map (said (names_alone s.buffers) s.timelines)) (flat_map (said (names_alone s'.buffers) s'.timelines))
      (once_alike e e' same) all_said_same does does' ample ample'

  withdrawal_same : (entry : ℕ) → Withdraws entry s w t → Withdraws entry s' w' t' → w.out_of_memory ≡ false → w'.out_of_memory ≡ false → WriteAlike w w' t t'
  withdrawal_same entry does does' ample ample' =
      does_alike s s' alike w w' t t' (once (Withdraw entry)) (once (Withdraw entry)) (flat_map (said_of_withdrawal entry)) (flat_map (said_of_withdrawal entry))
      (once_alike (Withdraw entry) (Withdraw entry) refl)
      (λ rs rs' all. all_said_alike (said_of_withdrawal entry) (said_of_withdrawal_alike entry) rs rs' all) does does' ample ample'

  served_same : (clauses : List Clause) → BindsRequest clauses s w t → BindsRequest clauses s' w' t' → w.out_of_memory ≡ false → w'.out_of_memory ≡ false → WriteAlike w w' t t'
  served_same clauses here here' ample ample' =
      does_alike s s' alike w w' t t' (serving (queue_asked clauses) here.request) (serving (queue_asked clauses) here'.request)
      (flat_map (told s.timelines)) (flat_map (told s'.timelines))
      (serving_alike (queue_asked clauses) here.request here'.request (requests_alike s s' clauses here.request here'.request alike.buffers alike.timelines here.asked here'.asked))
      all_told_same here.does here'.does ample ample'

  -- settings

  bounds_same : (asked : Option BoundsState) → SetsBounds asked s w t → SetsBounds asked s' w' t' → WriteAlike w w' t t'
  bounds_same None here here' = absurd here.1
  bounds_same (Some area) here here' =
      let limits = s.world.vm.space.limits in
      let limits' = s'.world.vm.space.limits in
      record {
        text = ap (λ (x : Written). x.text) here.1.0 ∙ sym (ap (λ (x : Written). x.text) here'.1.0);
        states = moved_states (record s { stage = Bounded; world = empty_world area limits }) (record s' { stage = Bounded; world = empty_world area limits' }) t t' here.1.1 here'.1.1
            (set_alike s s' alike Bounded area area limits limits' refl (limits_same s s' alike));
      }

  limits_line_same : (buffers mappings items : ℕ) → Runs (line.Limits buffers mappings items) s w t → Runs (line.Limits buffers mappings items) s' w' t' → WriteAlike w w' t t'
  limits_line_same buffers mappings items here here' =
      let limits = line_limits buffers mappings items in
      record {
        text = ap (λ (x : Written). x.text) here.2 ∙ sym (ap (λ (x : Written). x.text) here'.2);
        states = moved_states (record (begun s) { world = empty_world s.world.vm.space.area limits }) (record (begun s') { world = empty_world s'.world.vm.space.area limits }) t t' here.3 here'.3
            (set_alike s s' alike Begun s.world.vm.space.area s'.world.vm.space.area limits limits (area_same s s' alike) refl);
      }

  -- declarations

  timeline_line_same : (name : List ℕ) → Runs (line.Timeline name) s w t → Runs (line.Timeline name) s' w' t' → WriteAlike w w' t t'
  timeline_line_same name here here' = record {
    text = ap (λ (x : Written). x.text) here.2 ∙ sym (ap (λ (x : Written). x.text) here'.2);
    states = moved_states (record (begun s) { timelines = s.timelines ++ name ∷ [] }) (record (begun s') { timelines = s'.timelines ++ name ∷ [] }) t t' here.3 here'.3
        (record {
          stage = refl;
          buffers = alike.buffers;
          timelines = ap (λ (timelines : List (List ℕ)). timelines ++ name ∷ []) alike.timelines;
          worlds = alike.worlds;
        });
  }

  made_ample : (pages : ℕ) (r : Reply) (v x : WorldState) → IsCarriedOut (once (Create pages)) v (r ∷ []) x → AreAmple (r ∷ [])
  made_ample pages r v x out =
      let first = first_step (Create pages) out.under_way.events r [] v x out.under_way.asked out.under_way.ran in
      (ample_made v first.0 pages r first.1, tt)

  buffer_line_same : (name : List ℕ) (pages : ℕ) → Makes name pages s w t → Makes name pages s' w' t' → WriteAlike w w' t t'
  buffer_line_same name pages here here' =
      let stay : StayAlike (here.reply ∷ []) (here'.reply ∷ []) t.world t'.world =
      carried_alike (once (Create pages)) (once (Create pages)) (here.reply ∷ []) (here'.reply ∷ []) s.world s'.world t.world t'.world alike.worlds
      (once_alike (Create pages) (Create pages) refl) here.carried_out here'.carried_out
      (made_ample pages here.reply s.world t.world here.carried_out) (made_ample pages here'.reply s'.world t'.world here'.carried_out) in
      let new : AreAlikeStates (record (begun s) { world = t.world; buffers = declared name here.reply s.buffers }) (record (begun s') { world = t'.world; buffers = declared name here'.reply s'.buffers }) =
      record {
        stage = refl;
        buffers = declared_alike name here.reply here'.reply s.buffers s'.buffers alike.buffers stay.replies_are.0;
        timelines = alike.timelines;
        worlds = stay.worlds;
      } in
      let states : AreAlikeStates t t' =
      moved_states (record (begun s) { world = t.world; buffers = declared name here.reply s.buffers }) (record (begun s') { world = t'.world; buffers = declared name here'.reply s'.buffers })
      t t' here.state here'.state new in
      record {
        text = ap (λ (x : Written). x.text) here.written ∙ said_alike (names_alone t.buffers) t.timelines here.reply here'.reply stay.replies_are.0
            ∙ ap (λ (buffers : Buffers). said (names_alone buffers) t.timelines here'.reply) states.buffers
            ∙ ap (λ (timelines : List (List ℕ)). said (names_alone t'.buffers) timelines here'.reply) states.timelines
            ∙ sym (ap (λ (x : Written). x.text) here'.written);
        states = states;
      }

  -- lines that name a buffer or a timeline

  -- the buffer of a name is one
  id_same : (name : List ℕ) (id id' : BufferId) → buffer_named s.buffers name ≡ Some id → buffer_named s'.buffers name ≡ Some id' → id ≡ id'
  id_same name id id' is is' = same_Some id id' (sym is ∙ ap (λ (buffers : Buffers). buffer_named buffers name) alike.buffers ∙ is')

  destroy_line_same : (name : List ℕ) → Runs (line.Destroy name) s w t → Runs (line.Destroy name) s' w' t' → w.out_of_memory ≡ false → w'.out_of_memory ≡ false → WriteAlike w w' t t'
  destroy_line_same name here here' ample ample' =
      let x = of_there (buffer_named s.buffers name) (λ id. DoesOnce (Destroy id) s w t) here in
      let x' = of_there (buffer_named s'.buffers name) (λ id. DoesOnce (Destroy id) s' w' t') here' in
      once_same (Destroy x.0) (Destroy x'.0) (ap (λ id. Destroy id) (id_same name x.0 x'.0 x.1 x'.1)) x.2 x'.2 ample ample'

  uses_line_same : (name : List ℕ) → Runs (line.Uses name) s w t → Runs (line.Uses name) s' w' t' → WriteAlike w w' t t'
  uses_line_same name here here' =
      let x = of_there (buffer_named s.buffers name) (λ id. Answers (uses_said s.world.vm.space.buffers id) s w t) here in
      let x' = of_there (buffer_named s'.buffers name) (λ id. Answers (uses_said s'.world.vm.space.buffers id) s' w' t') here' in
      answers_alike s s' alike w w' t t' (uses_said s.world.vm.space.buffers x.0) (uses_said s'.world.vm.space.buffers x'.0)
      (ap (λ (table : BuffersState). uses_said table x.0) (table_alike s.world.vm s'.world.vm alike.worlds.vm)
      ∙ ap (uses_said s'.world.vm.space.buffers) (id_same name x.0 x'.0 x.1 x'.1)) x.2 x'.2

  raise_line_same : (point : NamedPoint) → Runs (line.Raise point) s w t → Runs (line.Raise point) s' w' t' → w.out_of_memory ≡ false → w'.out_of_memory ≡ false → WriteAlike w w' t t'
  raise_line_same point here here' ample ample' =
      let x = of_there (point_named s.timelines point) (λ p. DoesOnce (Raise p) s w t) here in
      let x' = of_there (point_named s'.timelines point) (λ p. DoesOnce (Raise p) s' w' t') here' in
      let same : x.0 ≡ x'.0 = same_Some x.0 x'.0 (sym x.1 ∙ ap (λ (timelines : List (List ℕ)). point_named timelines point) alike.timelines ∙ x'.1) in
      once_same (Raise x.0) (Raise x'.0) (ap (λ p. Raise p) same) x.2 x'.2 ample ample'

  value_line_same : (name : List ℕ) → Runs (line.Value name) s w t → Runs (line.Value name) s' w' t' → WriteAlike w w' t t'
  value_line_same name here here' =
      let x = of_there (timeline_named s.timelines name) (λ index. Answers (number_reply s.timelines index (slice_index s.world.numbers index)) s w t) here in
      let x' = of_there (timeline_named s'.timelines name) (λ index. Answers (number_reply s'.timelines index (slice_index s'.world.numbers index)) s' w' t') here' in
      let same : x.0 ≡ x'.0 = same_Some x.0 x'.0 (sym x.1 ∙ ap (λ (timelines : List (List ℕ)). timeline_named timelines name) alike.timelines ∙ x'.1) in
      answers_alike s s' alike w w' t t' (number_reply s.timelines x.0 (slice_index s.world.numbers x.0)) (number_reply s'.timelines x'.0 (slice_index s'.world.numbers x'.0))
      (ap (λ (numbers : List ℕ). number_reply s.timelines x.0 (slice_index numbers x.0)) alike.worlds.numbers
      ∙ ap (λ (timelines : List (List ℕ)). number_reply timelines x.0 (slice_index s'.world.numbers x.0)) alike.timelines
      ∙ ap (λ (index : ℕ). number_reply s'.timelines index (slice_index s'.world.numbers index)) same) x.2 x'.2

  plan_line_same : (operation : Operation) → Runs (line.Plan operation) s w t → Runs (line.Plan operation) s' w' t' → WriteAlike w w' t t'
  plan_line_same operation here here' =
      let x = of_there (op_named s.buffers operation) (λ op. Answers (plan_said (names_alone s.buffers) s.world.vm.space op) s w t) here in
      let x' = of_there (op_named s'.buffers operation) (λ op. Answers (plan_said (names_alone s'.buffers) s'.world.vm.space op) s' w' t') here' in
      let same : x.0 ≡ x'.0 = same_Some x.0 x'.0 (sym x.1 ∙ ap (λ (buffers : Buffers). op_named buffers operation) alike.buffers ∙ x'.1) in
      answers_alike s s' alike w w' t t' (plan_said (names_alone s.buffers) s.world.vm.space x.0) (plan_said (names_alone s'.buffers) s'.world.vm.space x'.0)
      (ap (λ (space : SpaceState). plan_said (names_alone s.buffers) space x.0) alike.worlds.vm.space
      ∙ ap (λ (names : List (List ℕ)). plan_said names s'.world.vm.space x.0) names_same
      ∙ ap (plan_said (names_alone s'.buffers) s'.world.vm.space) same) x.2 x'.2

  -- a job

  job_line_same : (accesses : List Access) → BeginsJob accesses s w t ⊎ HasTooMany accesses s w t → BeginsJob accesses s' w' t' ⊎ HasTooMany accesses s' w' t' →
      w.out_of_memory ≡ false → w'.out_of_memory ≡ false → WriteAlike w w' t t'
  job_line_same accesses (inl here) (inl here') ample ample' =
      once_same (JobBegin here.list) (JobBegin here'.list) (here.list_is ∙ sym here'.list_is) here.does here'.does ample ample'
  job_line_same accesses (inl here) (inr here') ample ample' = too_many_alike accesses s s' t t' w w' alike here here' ample
  job_line_same accesses (inr here) (inl here') ample ample' =
      let back = too_many_alike accesses s' s t' t w' w (AreAlikeStates-sym s s' alike) here' here ample' in
      record { text = sym back.text; states = AreAlikeStates-sym t' t back.states }
  job_line_same accesses (inr here) (inr here') ample ample' =
      answers_alike s s' alike w w' t t' (refused_reply TooManyAccesses) (refused_reply TooManyAccesses) refl here.1 here'.1

  -- any line
  pub line_alike : (l : Line) → Runs l s w t → Runs l s' w' t' → w.out_of_memory ≡ false → w'.out_of_memory ≡ false → WriteAlike w w' t t'
  line_alike line.Silent here here' ample ample' = record {
    text = ap (λ (x : Written). x.text) here.0 ∙ sym (ap (λ (x : Written). x.text) here'.0);
    states = moved_states s s' t t' here.1 here'.1 alike;
  }
  line_alike (line.Space start len reserved_start reserved_len) here here' ample ample' = bounds_same (byte_area start len reserved_start reserved_len) here here'
  line_alike (line.Limits buffers mappings items) here here' ample ample' = limits_line_same buffers mappings items here here'
  line_alike (line.Buffer name pages) here here' ample ample' = buffer_line_same name pages here here'
  line_alike (line.Destroy name) here here' ample ample' = destroy_line_same name here here' ample ample'
  line_alike (line.Uses name) here here' ample ample' = uses_line_same name here here'
  line_alike (line.Timeline name) here here' ample ample' = timeline_line_same name here here'
  line_alike (line.Raise point) here here' ample ample' = raise_line_same point here here' ample ample'
  line_alike (line.Value name) here here' ample ample' = value_line_same name here here'
  line_alike (line.Bind clauses) here here' ample ample' = served_same clauses here here' ample ample'
  line_alike (line.Plan operation) here here' ample ample' = plan_line_same operation here here'
  line_alike line.Map here here' ample ample' =
      answers_alike s s' alike w w' t t' (lines_reply (mapping_text (names_alone s.buffers)) s.world.vm.space.mappings) (lines_reply (mapping_text (names_alone s'.buffers)) s'.world.vm.space.mappings)
      (ap (λ (ms : List Mapping). lines_reply (mapping_text (names_alone s.buffers)) ms) list_same
      ∙ ap (λ (names : List (List ℕ)). lines_reply (mapping_text names) s'.world.vm.space.mappings) names_same) here here'
  line_alike (line.At addr) here here' ample ample' =
      answers_alike s s' alike w w' t t' (place_reply (names_alone s.buffers) (place_at s.world.vm.space.mappings addr)) (place_reply (names_alone s'.buffers) (place_at s'.world.vm.space.mappings addr))
      (ap (λ (ms : List Mapping). place_reply (names_alone s.buffers) (place_at ms addr)) list_same
      ∙ ap (λ (names : List (List ℕ)). place_reply names (place_at s'.world.vm.space.mappings addr)) names_same) here here'
  line_alike line.Tables here here' ample ample' =
      answers_alike s s' alike w w' t t' (tables_reply (tables_of s.world.vm.space.mappings)) (tables_reply (tables_of s'.world.vm.space.mappings))
      (ap (λ (ms : List Mapping). tables_reply (tables_of ms)) list_same) here here'
  line_alike line.Rewind here here' ample ample' = once_same Rewind Rewind refl here here' ample ample'
  line_alike line.Journal here here' ample ample' =
      answers_alike s s' alike w w' t t' (journal_reply s.world.vm.journal) (journal_reply s'.world.vm.journal)
      (journal_alike s.world.vm.journal s'.world.vm.journal alike.worlds.vm.journal) here here'
  line_alike (line.Withdraw entry) here here' ample ample' = withdrawal_same entry here here' ample ample'
  line_alike (line.Settle to) here here' ample ample' = once_same (Settle to) (Settle to) refl here here' ample ample'
  line_alike (line.Told queue) here here' ample ample' =
      answers_alike s s' alike w w' t t' (told_said s.timelines s.world.vm queue) (told_said s'.timelines s'.world.vm queue)
      (ap (λ (told : List (List Outcome)). told_said s.timelines (record s.world.vm { told = told }) queue) alike.worlds.vm.told
      ∙ ap (λ (gone : List ℕ). told_said s.timelines (record s.world.vm { told = s'.world.vm.told; forgotten = gone }) queue) alike.worlds.vm.forgotten
      ∙ ap (λ (timelines : List (List ℕ)). told_said timelines s'.world.vm queue) alike.timelines) here.1 here'.1
  line_alike (line.Job accesses) here here' ample ample' = job_line_same (map access_named accesses) here here' ample ample'
  line_alike (line.End job) here here' ample ample' = once_same (JobEnd job) (JobEnd job) refl here here' ample ample'
