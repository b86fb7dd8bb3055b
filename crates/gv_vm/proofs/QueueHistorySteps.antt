-- Each step of a world goes on with what its queues remember.
use Rattle.std.proofs.Common.{◌≡◌, ◌≢◌, ℕ, zero, suc, ◌+◌, ◌-◌, ◌<◌, ◌≤◌, true, false, Bool, cond, eqb, List, [], ◌∷◌, ◌++◌, length, replicate, map, arith, refl, sym, ◌∙◌, ap, subst, Some, None, Option}
use Rattle.std.specs.Prelude.{slice_get, slice_set, slice_index_or}
use Rattle.std.proofs.lemmas.List.{get_or-set_same, get_or-set_other, length-set, length-append}
use Rattle.std.proofs.lemmas.List.{length-replicate}
use Rattle.std.proofs.lemmas.List.Elements.{All-nil, All-cons, All-tail, All-take}
use Rattle.gv_types.specs.Bounds.{BoundsState}
use Rattle.gv_types.specs.Limits.{LimitsState}
use Rattle.gv_types.specs.declared.fault.Fault.{Fault}
use Rattle.gv_types.specs.declared.request.Point.{Point}
use Rattle.gv_types.specs.declared.request.Request.{Request}
use Rattle.gv_sync.specs.Sights.{Sight, sight}
use Rattle.gv_journal.specs.Items.{JournalState, next}
use Rattle.gv_journal.specs.declared.item.Item.{Item}
use Rattle.gv_vm.specs.State.{VmState}
use Rattle.gv_vm.specs.World.{WorldState, HandState, QueueState, new_queue, new_world, queue_at, next_number}
use Rattle.gv_vm.specs.Outcomes.{told_to, with_outcome}
use Rattle.gv_vm.specs.BindOutcome.{CameTo}
use Rattle.gv_vm.specs.Step.{step, owed_for, CanBind, IsBoundNow, IsGivenUp, IsPaidNow, IsReachedNow, IsLackingNow, IsRewoundNow, IsWithdrawnNow, IsSettledNow, IsForgottenNow}
use Rattle.gv_vm.specs.Run.{IsRunOf}
use Rattle.gv_vm.specs.QueueHistory.{QueueHistory, HasReached, IsInTurn, HasReachedAll, no_history, one_more, history_from, due_for, HoldsPut, IsQueueAfter, AreHeldAsPut, AreAfter, IsAfterHistory}
use Rattle.gv_vm.specs.declared.event.Event.{Event}
use Rattle.gv_vm.specs.declared.event.Event.TheVariants.{Put, Take, Look, Bind, GiveUp, Pay, Raise, Create, Destroy, Rewind, Withdraw, Settle, Forget, Trim, JobBegin, JobEnd, Translate}
use Rattle.gv_vm.specs.declared.event.Reply.{Reply}
use Rattle.gv_vm.specs.declared.event.Reply.TheVariants.{Idle, Put as IsPut, NotPut, Taken, Reached, Lacking, Told, Raised, Created, Destroyed, Rewound, Withdrawn, Settled, Forgot, Trimmed, Begun, Ended, Found, Refused}
use Rattle.gv_vm.specs.declared.outcome.Outcome.{Outcome}
use Rattle.gv_vm.specs.declared.outcome.Outcome.TheVariants.{Accepted, Refused as RefusedAt, NotReady}
use Rattle.gv_vm.proofs.Forgettings.{forgotten_count, forgotten_length}
use Rattle.gv_vm.proofs.QueueInvariant.{all_reached}
use Rattle.gv_vm.proofs.QueueHistories.{after_put, after_take, after_reach, after_lack, after_bind, after_give_up, after_pay, after_turn, put_in_hand, held_more}

-- the queues and what they were told are as before
same : (queue : ℕ) (p : QueueHistory) (old new : WorldState) → new.queues ≡ old.queues → new.vm.told ≡ old.vm.told → AreHeldAsPut queue p.puts new.vm.journal.items → IsAfterHistory queue p old → IsAfterHistory queue p new
same queue p old new queues told items h =
    subst (λ (qs : List QueueState). AreAfter queue p new.vm.told qs new.vm.journal.items) (sym queues)
    (subst (λ (ls : List (List Outcome)). AreAfter queue p ls old.queues new.vm.journal.items) (sym told)
    (record { there = h.there; queue_is = h.queue_is; items_are = items }))

-- and so are the items
still : (queue : ℕ) (p : QueueHistory) (old new : WorldState) → new.queues ≡ old.queues → new.vm.told ≡ old.vm.told → new.vm.journal ≡ old.vm.journal → IsAfterHistory queue p old → IsAfterHistory queue p new
still queue p old new queues told journal h =
    same queue p old new queues told (subst (λ (j : JournalState). AreHeldAsPut queue p.puts j.items) (sym journal) h.items_are) h

-- a turn that tells nothing and leaves the items
quiet : (queue n : ℕ) (p more : QueueHistory) (old new : WorldState) (q : QueueState) → n < length old.queues → new.queues ≡ slice_set old.queues n q → new.vm.told ≡ old.vm.told → new.vm.journal ≡ old.vm.journal →
    (n ≡ queue → AreHeldAsPut queue more.puts old.vm.journal.items) →
    (n ≡ queue → IsQueueAfter p (length (told_to old.vm.told n)) (queue_at old n) → IsQueueAfter more (length (told_to old.vm.told n)) q) →
    IsAfterHistory queue p old → IsAfterHistory queue (cond (eqb n queue) more p) new
quiet queue n p more old new q less queues told journal here turned h =
    subst (λ (qs : List QueueState). AreAfter queue (cond (eqb n queue) more p) new.vm.told qs new.vm.journal.items) (sym queues)
    (subst (λ (ls : List (List Outcome)). AreAfter queue (cond (eqb n queue) more p) ls (slice_set old.queues n q) new.vm.journal.items) (sym told)
    (subst (λ (j : JournalState). AreAfter queue (cond (eqb n queue) more p) old.vm.told (slice_set old.queues n q) j.items) (sym journal)
    (after_turn queue n p more old.vm.told old.vm.told old.queues q old.vm.journal.items old.vm.journal.items less refl (λ m apart. refl) (λ apart. h.items_are) here turned h)))

-- a turn that tells one outcome
telling : (queue n : ℕ) (p more : QueueHistory) (old new : WorldState) (outcome : Outcome) (q : QueueState) → n < length old.queues → new.queues ≡ slice_set old.queues n q → new.vm.told ≡ with_outcome old.vm.told n outcome →
    (n ≢ queue → AreHeldAsPut queue p.puts new.vm.journal.items) → (n ≡ queue → AreHeldAsPut queue more.puts new.vm.journal.items) →
    (n ≡ queue → IsQueueAfter p (length (told_to old.vm.told n)) (queue_at old n) → IsQueueAfter more (length (told_to old.vm.told n) + 1) q) →
    IsAfterHistory queue p old → IsAfterHistory queue (cond (eqb n queue) more p) new
telling queue n p more old new outcome q less queues told others here turned h =
    let list : List Outcome = told_to old.vm.told n ++ outcome ∷ [] in
    let tells : List (List Outcome) = with_outcome old.vm.told n outcome in
    let within : n < length old.vm.told = omega (arith, h.there) in
    let count : length (told_to tells n) ≡ length (told_to old.vm.told n) + 1 =
    ap (λ (os : List Outcome). length os) (get_or-set_same old.vm.told n list [] within) ∙ omega (arith, length-append (told_to old.vm.told n) (outcome ∷ [])) in
    subst (λ (qs : List QueueState). AreAfter queue (cond (eqb n queue) more p) new.vm.told qs new.vm.journal.items) (sym queues)
    (subst (λ (ls : List (List Outcome)). AreAfter queue (cond (eqb n queue) more p) ls (slice_set old.queues n q) new.vm.journal.items) (sym told)
    (after_turn queue n p more old.vm.told tells old.queues q old.vm.journal.items new.vm.journal.items less (length-set old.vm.told n list)
    (λ m apart. get_or-set_other old.vm.told n m list [] apart) others here
    (λ is before. subst (λ (k : ℕ). IsQueueAfter more k q) (sym count) (turned is before)) h))

-- the items after a request was carried out
items_came : (queue n : ℕ) (puts : List Request) (v w : VmState) (request : Request) (number : ℕ) (seen : List ℕ) (outcome : Outcome) → CameTo v.space w.space v.journal w.journal n number request seen outcome →
    (n ≡ queue → slice_get puts number ≡ Some request) → AreHeldAsPut queue puts v.journal.items → AreHeldAsPut queue puts w.journal.items
items_came queue n puts v w request number seen (Accepted entry) came put all =
    let item : Item = came.item.item in
    let here : HoldsPut queue puts item.kind = subst (HoldsPut queue puts) (sym came.item.kind) put in
    subst (λ (j : JournalState). AreHeldAsPut queue puts j.items) (sym came.item.items) (All-cons (λ x. HoldsPut queue puts x.kind) item v.journal.items here all)
items_came queue n puts v w request number seen (RefusedAt op fault) came put all = subst (λ (j : JournalState). AreHeldAsPut queue puts j.items) (sym came.journal) all
items_came queue n puts v w request number seen (NotReady point have) came put all = absurd came

-- what a world of this state has
abbrev told_in : WorldState → List (List Outcome)
told_in w = w.vm.told

abbrev journal_in : WorldState → JournalState
journal_in w = w.vm.journal

abbrev queues_in : WorldState → List QueueState
queues_in w = w.queues

cond_same : (b : Bool) (p : QueueHistory) → cond b p p ≡ p
cond_same true p = refl
cond_same false p = refl

idle_past : (queue : ℕ) (event : Event) (p : QueueHistory) → one_more queue event Idle p ≡ p
idle_past queue (Put n request) p = cond_same (eqb n queue) p
idle_past queue (Take n) p = cond_same (eqb n queue) p
idle_past queue (Look n) p = cond_same (eqb n queue) p
idle_past queue (Bind n) p = cond_same (eqb n queue) p
idle_past queue (GiveUp n) p = cond_same (eqb n queue) p
idle_past queue (Pay n) p = cond_same (eqb n queue) p
idle_past queue event p = refl

refused_past : (queue : ℕ) (event : Event) (fault : Fault) (p : QueueHistory) → one_more queue event (Refused fault) p ≡ p
refused_past queue (Put n request) fault p = cond_same (eqb n queue) p
refused_past queue (Take n) fault p = cond_same (eqb n queue) p
refused_past queue (Look n) fault p = cond_same (eqb n queue) p
refused_past queue (Bind n) fault p = cond_same (eqb n queue) p
refused_past queue (GiveUp n) fault p = cond_same (eqb n queue) p
refused_past queue (Pay n) fault p = cond_same (eqb n queue) p
refused_past queue event fault p = refl

idles : (queue : ℕ) (p : QueueHistory) (old new : WorldState) (event : Event) → new ≡ old → IsAfterHistory queue p old → IsAfterHistory queue (one_more queue event Idle p) new
idles queue p old new event is h = subst (λ (x : QueueHistory). IsAfterHistory queue x new) (sym (idle_past queue event p)) (subst (IsAfterHistory queue p) (sym is) h)

refuses : (queue : ℕ) (p : QueueHistory) (old new : WorldState) (event : Event) (fault : Fault) → new ≡ old → IsAfterHistory queue p old → IsAfterHistory queue (one_more queue event (Refused fault) p) new
refuses queue p old new event fault is h = subst (λ (x : QueueHistory). IsAfterHistory queue x new) (sym (refused_past queue event fault p)) (subst (IsAfterHistory queue p) (sym is) h)

others_come : (queue n : ℕ) (p : QueueHistory) (v w : VmState) (request : Request) (number : ℕ) (seen : List ℕ) (outcome : Outcome) → CameTo v.space w.space v.journal w.journal n number request seen outcome →
    n ≢ queue → AreHeldAsPut queue p.puts v.journal.items → AreHeldAsPut queue p.puts w.journal.items
others_come queue n p v w request number seen outcome came apart all = items_came queue n p.puts v w request number seen outcome came (λ is. absurd (apart is)) all

binds : (queue n number : ℕ) (p : QueueHistory) (old new : WorldState) (outcome : Outcome) → IsBoundNow old n number outcome new → IsAfterHistory queue p old → IsAfterHistory queue (one_more queue (Bind n) (Told number outcome) p) new
binds queue n number p old new outcome st h =
    let hand : HandState = st.enabled.has.hand in
    let more : QueueHistory = record p { due = p.due ++ due_for p.puts number outcome } in
    telling queue n p more old new outcome (record (queue_at old n) { hand = None; owed = owed_for hand.request outcome }) st.enabled.has.there (ap queues_in st.state) st.vm.told
    (λ apart. others_come queue n p old.vm new.vm hand.request number _ outcome st.vm.came apart h.items_are)
    (λ is. items_came queue n p.puts old.vm new.vm hand.request number _ outcome st.vm.came
    (λ _. ap (λ (k : ℕ). slice_get p.puts k) st.number_is ∙ put_in_hand p (length (told_to old.vm.told n)) (queue_at old n) hand st.enabled.has.is
    (subst (λ (k : ℕ). IsQueueAfter p (length (told_to old.vm.told k)) (queue_at old k)) (sym is) h.queue_is)) h.items_are)
    (λ is before. subst (λ (k : ℕ). IsQueueAfter (record p { due = p.due ++ due_for p.puts k outcome }) (length (told_to old.vm.told n) + 1) (record (queue_at old n) { hand = None; owed = owed_for hand.request outcome })) (sym st.number_is)
    (after_bind p (length (told_to old.vm.told n)) (queue_at old n) hand outcome st.enabled.has.is before)) h

gives_up : (queue n number : ℕ) (p : QueueHistory) (old new : WorldState) (outcome : Outcome) → IsGivenUp old n number outcome new → IsAfterHistory queue p old → IsAfterHistory queue (one_more queue (GiveUp n) (Told number outcome) p) new
gives_up queue n number p old new outcome st h =
    let items : AreHeldAsPut queue p.puts new.vm.journal.items = subst (λ (j : JournalState). AreHeldAsPut queue p.puts j.items) (sym (ap journal_in st.state)) h.items_are in
    telling queue n p p old new outcome (record (queue_at old n) { hand = None }) st.enabled.has.there (ap queues_in st.state) (ap told_in st.state) (λ apart. items) (λ is. items)
    (λ is before. after_give_up p (length (told_to old.vm.told n)) (queue_at old n) st.enabled.has.hand st.enabled.has.is before) h

pays : (queue n : ℕ) (p : QueueHistory) (old new : WorldState) (point : Point) (now : ℕ) → IsPaidNow old n point now new → IsAfterHistory queue p old → IsAfterHistory queue (one_more queue (Pay n) (Raised point now) p) new
pays queue n p old new point now st h =
    quiet queue n p (record p { paid = p.paid ++ point ∷ [] }) old new (record (queue_at old n) { owed = st.enabled.later }) st.enabled.there (ap queues_in st.state) (ap told_in st.state) (ap journal_in st.state) (λ is. h.items_are)
    (λ is before. after_pay p (length (told_to old.vm.told n)) (queue_at old n) point st.enabled.later (st.enabled.owed ∙ ap (λ (x : Point). x ∷ st.enabled.later) (sym st.point_is)) before) h

reaches : (queue n : ℕ) (p : QueueHistory) (old new : WorldState) (point : Point) (seen : ℕ) → IsReachedNow old n point seen new → IsAfterHistory queue p old → IsAfterHistory queue (one_more queue (Look n) (Reached point seen) p) new
reaches queue n p old new point seen st h =
    let hand : HandState = st.enabled.has.hand in
    let enough : point.value ≤ seen = subst (λ (k : ℕ). point.value ≤ k) (sym (ap (λ (s : Sight). s.number) st.seen_is)) st.reached in
    quiet queue n p (record p { looked = p.looked ++ sight point seen ∷ [] }) old new (record (queue_at old n) { hand = Some (record hand { reached = hand.reached ++ sight point seen ∷ []; lacked = None }) }) st.enabled.has.there
    (ap queues_in st.state) (ap told_in st.state) (ap journal_in st.state) (λ is. h.items_are)
    (λ is before. after_reach p (length (told_to old.vm.told n)) (queue_at old n) hand (sight point seen) st.enabled.has.is (st.enabled.wait ∙ ap (λ (x : Point). Some x) (sym st.point_is)) enough before) h

lacks : (queue n : ℕ) (p : QueueHistory) (old new : WorldState) (point : Point) (have : ℕ) → IsLackingNow old n point have new → IsAfterHistory queue p old → IsAfterHistory queue (one_more queue (Look n) (Lacking point have) p) new
lacks queue n p old new point have st h =
    let hand : HandState = st.enabled.has.hand in
    quiet queue n p p old new (record (queue_at old n) { hand = Some (record hand { lacked = Some (sight point have) }) }) st.enabled.has.there
    (ap queues_in st.state) (ap told_in st.state) (ap journal_in st.state) (λ is. h.items_are)
    (λ is before. after_lack p (length (told_to old.vm.told n)) (queue_at old n) hand (sight point have) st.enabled.has.is before) h

rewinds : (queue : ℕ) (p : QueueHistory) (old new : WorldState) (item : ℕ) → IsRewoundNow old item new → IsAfterHistory queue p old → IsAfterHistory queue p new
rewinds queue p old new item st h =
    let all : AreHeldAsPut queue p.puts (st.rewound.item ∷ new.vm.journal.items) = subst (λ (j : JournalState). AreHeldAsPut queue p.puts j.items) st.rewound.items h.items_are in
    same queue p old new (ap queues_in st.state) (ap told_in st.state) (All-tail (λ x. HoldsPut queue p.puts x.kind) st.rewound.item new.vm.journal.items all) h

withdraws : (queue : ℕ) (p : QueueHistory) (old new : WorldState) (entry item : ℕ) → IsWithdrawnNow old entry item new → IsAfterHistory queue p old → IsAfterHistory queue p new
withdraws queue p old new entry item st h =
    let here : HoldsPut queue p.puts st.withdrawn.item.kind = subst (HoldsPut queue p.puts) (sym st.withdrawn.kind) tt in
    same queue p old new (ap queues_in st.state) (ap told_in st.state)
    (subst (λ (j : JournalState). AreHeldAsPut queue p.puts j.items) (sym st.withdrawn.items) (All-cons (λ x. HoldsPut queue p.puts x.kind) st.withdrawn.item old.vm.journal.items here h.items_are)) h

settles : (queue : ℕ) (p : QueueHistory) (old new : WorldState) (to count : ℕ) → IsSettledNow old to count new → IsAfterHistory queue p old → IsAfterHistory queue p new
settles queue p old new to count st h =
    same queue p old new (ap queues_in st.state) (ap told_in st.state)
    (subst (λ (j : JournalState). AreHeldAsPut queue p.puts j.items) (sym st.settled.items) (All-take (λ x. HoldsPut queue p.puts x.kind) (next old.vm.journal - to) old.vm.journal.items h.items_are)) h

-- outcomes were forgotten: each queue was told as many
forgets : (queue n to count : ℕ) (p : QueueHistory) (old new : WorldState) → IsForgottenNow old n to count new → IsAfterHistory queue p old → IsAfterHistory queue p new
forgets queue n to count p old new st h =
    subst (IsAfterHistory queue p) (sym st.state)
    (record {
      there = subst (λ k. length old.queues ≤ k) (sym (forgotten_count old.vm n to)) h.there;
      queue_is = subst (λ k. IsQueueAfter p k (queue_at old queue)) (sym (forgotten_length old.vm n to queue st.allowed)) h.queue_is;
      items_are = h.items_are;
    })

-- a call that leaves items and outcomes
calls : (queue : ℕ) (p : QueueHistory) (old new : WorldState) → new ≡ record old { vm = new.vm } → new.vm.told ≡ old.vm.told → new.vm.journal ≡ old.vm.journal → IsAfterHistory queue p old → IsAfterHistory queue p new
calls queue p old new state told journal h = still queue p old new (ap queues_in state) told journal h

abbrev told_by : VmState → List (List Outcome)
told_by v = v.told

abbrev journal_by : VmState → JournalState
journal_by v = v.journal

pub follows : (queue : ℕ) (p : QueueHistory) (old new : WorldState) (event : Event) (reply : Reply) → step old event reply new → IsAfterHistory queue p old → IsAfterHistory queue (one_more queue event reply p) new
follows queue p old new (Put n request) (IsPut number) st h =
    quiet queue n p (record p { puts = p.puts ++ request ∷ [] }) old new (record (queue_at old n) { put = number + 1; waiting = (queue_at old n).waiting ++ request ∷ [] }) st.enabled.0
    (ap queues_in st.state) (ap told_in st.state) (ap journal_in st.state)
    (λ is. held_more queue p.puts request old.vm.journal.items h.items_are)
    (λ is before. subst (λ (k : ℕ). IsQueueAfter (record p { puts = p.puts ++ request ∷ [] }) (length (told_to old.vm.told n)) (record (queue_at old n) { put = k + 1; waiting = (queue_at old n).waiting ++ request ∷ [] })) (sym st.number_is)
    (after_put p (length (told_to old.vm.told n)) (queue_at old n) request before))
    h
follows queue p old new (Take n) (Taken number) st h =
    quiet queue n p (record p { looked = [] }) old new _ st.enabled.there (ap queues_in st.state) (ap told_in st.state) (ap journal_in st.state) (λ is. h.items_are)
    (λ is before. after_take p (length (told_to old.vm.told n)) (queue_at old n) st.request st.later st.front st.enabled.free st.enabled.paid before) h
follows queue p old new (Look n) (Reached point seen) st h = reaches queue n p old new point seen st h
follows queue p old new (Look n) (Lacking point have) st h = lacks queue n p old new point have st h
follows queue p old new (Bind n) (Told number outcome) st h = binds queue n number p old new outcome st h
follows queue p old new (GiveUp n) (Told number outcome) st h = gives_up queue n number p old new outcome st h
follows queue p old new (Pay n) (Raised point now) st h = pays queue n p old new point now st h
follows queue p old new (Put n request) (NotPut fault back) st h =
    subst (λ (x : QueueHistory). IsAfterHistory queue x new) (sym (cond_same (eqb n queue) p)) (subst (IsAfterHistory queue p) (sym st.state) h)
follows queue p old new (Raise asked) (Raised point now) st h = still queue p old new (ap queues_in st.state) (ap told_in st.state) (ap journal_in st.state) h
follows queue p old new (Create size) (Created id) st h = calls queue p old new st.state (ap told_by st.vm) (ap journal_by st.vm) h
follows queue p old new (Destroy id) Destroyed st h = calls queue p old new st.state (ap told_by st.vm) (ap journal_by st.vm) h
follows queue p old new Rewind (Rewound item) st h = rewinds queue p old new item st h
follows queue p old new (Withdraw entry) (Withdrawn item) st h = withdraws queue p old new entry item st h
follows queue p old new (Settle to) (Settled count) st h = settles queue p old new to count st h
follows queue p old new (Forget n to) (Forgot count) st h = forgets queue n to count p old new st h
follows queue p old new Trim Trimmed st h = subst (IsAfterHistory queue p) (sym st.state) h
follows queue p old new (JobBegin accesses) (Begun number places) st h = calls queue p old new st.state (ap told_by st.vm) (ap journal_by st.vm) h
follows queue p old new (JobEnd asked) (Ended job) st h = calls queue p old new st.state (ap told_by st.vm) (ap journal_by st.vm) h
follows queue p old new (Translate addr) (Found place) st h = subst (IsAfterHistory queue p) (sym st.1) h
follows queue p old new event Idle st h = idles queue p old new event st.1 h
follows queue p old new event (Refused fault) st h = refuses queue p old new event fault st.1 h
follows queue p old new event reply st h = absurd st

-- along a run
runs_on : (queue : ℕ) (p : QueueHistory) (old new : WorldState) (events : List Event) (replies : List Reply) → IsRunOf old events replies new → IsAfterHistory queue p old → IsAfterHistory queue (history_from queue p events replies) new
runs_on queue p old new [] [] ran h = subst (IsAfterHistory queue p) (sym ran) h
runs_on queue p old new (event ∷ events) (reply ∷ replies) ran h =
    runs_on queue (one_more queue event reply p) ran.0 new events replies ran.3 (follows queue p old ran.0 event reply ran.1 h)
runs_on queue p old new [] (reply ∷ replies) ran h = absurd ran
runs_on queue p old new (event ∷ events) [] ran h = absurd ran

same_everywhere : {X : Type 0} (n i : ℕ) (x : X) → slice_index_or (replicate n x) i x ≡ x
same_everywhere zero i x = refl
same_everywhere (suc n) zero x = refl
same_everywhere (suc n) (suc i) x = same_everywhere n i x

at_first : (queue : ℕ) (area : BoundsState) (limits : LimitsState) (queues depth timelines : ℕ) → queues ≤ 16 → IsAfterHistory queue no_history (new_world area limits queues depth timelines)
at_first queue area limits queues depth timelines few =
    let none : told_to (replicate 16 []) queue ≡ [] = same_everywhere 16 queue [] in
    let empty : slice_index_or (replicate queues new_queue) queue new_queue ≡ new_queue = same_everywhere queues queue new_queue in
    record {
      there = omega (arith, length-replicate queues new_queue, few);
      queue_is = subst (λ (os : List Outcome). IsQueueAfter no_history (length os) (slice_index_or (replicate queues new_queue) queue new_queue)) (sym none)
          (subst (λ (q : QueueState). IsQueueAfter no_history 0 q) (sym empty)
          (record { few = omega arith; rest = refl; put = refl; looked = tt; in_turn = tt; reached = All-nil (λ s. s.point.value ≤ s.number); free = tt; signals = refl }));
      items_are = All-nil (λ x. HoldsPut queue [] x.kind);
    }

pub runs_remember : (area : BoundsState) (limits : LimitsState) (queues depth timelines queue : ℕ) (events : List Event) (replies : List Reply) (w : WorldState) → queues ≤ 16 →
    IsRunOf (new_world area limits queues depth timelines) events replies w → IsAfterHistory queue (history_from queue no_history events replies) w
runs_remember area limits queues depth timelines queue events replies w few ran =
    runs_on queue no_history (new_world area limits queues depth timelines) w events replies ran (at_first queue area limits queues depth timelines few)

pub told_was_put : (area : BoundsState) (limits : LimitsState) (queues depth timelines queue : ℕ) (events : List Event) (replies : List Reply) (w : WorldState) (hand : HandState) → queues ≤ 16 →
    IsRunOf (new_world area limits queues depth timelines) events replies w → (queue_at w queue).hand ≡ Some hand → slice_get (history_from queue no_history events replies).puts (next_number w queue) ≡ Some hand.request
told_was_put area limits queues depth timelines queue events replies w hand few ran is =
    put_in_hand (history_from queue no_history events replies) (next_number w queue) (queue_at w queue) hand is (runs_remember area limits queues depth timelines queue events replies w few ran).queue_is

pub waits_were_reached : (area : BoundsState) (limits : LimitsState) (queues depth timelines queue : ℕ) (events : List Event) (replies : List Reply) (w : WorldState) (can : CanBind w queue) → queues ≤ 16 →
    IsRunOf (new_world area limits queues depth timelines) events replies w → HasReachedAll (history_from queue no_history events replies) can.has.hand.request
waits_were_reached area limits queues depth timelines queue events replies w can few ran =
    let p : QueueHistory = history_from queue no_history events replies in
    let hand : HandState = can.has.hand in
    let h : IsQueueAfter p (next_number w queue) (queue_at w queue) = (runs_remember area limits queues depth timelines queue events replies w few ran).queue_is in
    let looked : hand.reached ≡ p.looked = subst (λ (o : Option HandState). HasReached o p.looked) can.has.is h.looked in
    record {
      points = ap (λ (ss : List Sight). map (λ (x : Sight). x.point) ss) (sym looked) ∙ all_reached hand (subst IsInTurn can.has.is h.in_turn) can.reached;
      reached = h.reached;
    }
