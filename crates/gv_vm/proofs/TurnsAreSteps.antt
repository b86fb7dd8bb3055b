-- Turns of a queue are steps of its world.
use Rattle.std.proofs.Common.{◌≡◌, ◌≢◌, ℕ, ◌+◌, ◌<◌, true, false, List, [], ◌∷◌, ◌++◌, length, reverse, inl, inr, arith, refl, sym, ◌∙◌, ap, subst, Some, None, Option, Result, Ok, Err}
use Rattle.std.specs.Prelude.{slice_index, slice_index_or, MatchOption, IfOk, IfErr, IsErrAnd, OnOk, OnErr, IsErr, is_err}
use Rattle.std.specs.List.{All}
use Rattle.std.proofs.lemmas.List.Elements.{All-nil}
use Rattle.std.proofs.lemmas.List.{get_or_default, set-get_or, reverse-reverse}
use Rattle.gv_types.specs.Request.{Fits}
use Rattle.gv_types.specs.declared.fault.Fault.{Fault}
use Rattle.gv_types.specs.declared.fault.Fault.TheVariants.{OutOfMemory}
use Rattle.gv_types.specs.declared.request.Point.{Point}
use Rattle.gv_types.specs.declared.request.Request.{Request}
use Rattle.gv_sync.specs.Raises.{IsReached, with_raise}
use Rattle.gv_sync.specs.Sights.{Sight, sight}
use Rattle.gv_vm.specs.Outcomes.{told_to, with_outcome, tell_fault}
use Rattle.gv_vm.specs.BindOutcome.{IsBoundAndTold, seen_by}
use Rattle.gv_vm.specs.State.{VmState, told_limit}
use Rattle.gv_vm.specs.World.{WorldState, HandState, QueueState, put_fault_of, new_queue, queue_at, with_queue, next_number, next_wait, seen_at}
use Rattle.gv_vm.specs.QueueEvents.{IsPutReply, MayTake, TookFront, wait_in, wait_of, hand_reached, with_reached, hand_lacked, with_lacked, IsReadyToBind, IsLacking, without_hand, PaidFirst, IsToldLacking}
use Rattle.gv_vm.specs.Step.{step, IsStep, MayGrow, CanTake, CanLook, CanReach, CanBind, CanGiveUp, CanPay, owed_in, owed_for}
use Rattle.gv_vm.specs.declared.event.Event.{Event}
use Rattle.gv_vm.specs.declared.event.Reply.{Reply}
use Rattle.gv_types.specs.declared.fault.OutOfMemory.{OutOfMemory as WantOfMemory}
use Rattle.gv_vm.specs.declared.event.Event.TheVariants.{Put, Take, Look, Bind, GiveUp, Pay}
use Rattle.gv_vm.specs.declared.event.Reply.TheVariants.{Put as IsPut, NotPut, Taken, Reached, Lacking, Told, Raised}
use Rattle.gv_vm.specs.Queues.{IsQueueOf, AreQueues}
use Rattle.gv_vm.specs.declared.outcome.NotTold.{NotTold}
use Rattle.gv_vm.specs.declared.outcome.Outcome.{Outcome}
use Rattle.gv_vm.specs.declared.outcome.Outcome.TheVariants.{Accepted, Refused, NotReady}
use Rattle.gv_vm.proofs.SameLimits.{limits-came}
use Rattle.gv_vm.proofs.AllQueuesInvariant.{AreQueues-with_queue, AreQueues-told}
use Rattle.gv_vm.proofs.QueueInvariant.{IsQueueOf-put, signals_fit}

abbrev put_ok : ℕ → Result ℕ NotTold
put_ok number = Ok number

abbrev put_err : NotTold → Result ℕ NotTold
put_err n = Err n

-- what an Err says, or an Ok
pub from_err : {T E : Type 0} (P : Type 0) (r : Result T E) → is_err r ≡ true → OnErr r P → P
from_err P (Ok x) is h = cc
from_err P (Err e) is h = h

pub from_ok : {T E : Type 0} (P : Type 0) (r : Result T E) → is_err r ≡ false → OnOk r P → P
from_ok P (Ok x) is h = h
from_ok P (Err e) is h = cc

-- what was read is the queue
pub queue_read : (w : WorldState) (n : ℕ) (q : QueueState) → n < length w.queues → q ≡ slice_index_or w.queues n q → q ≡ queue_at w n
queue_read w n q less is = is ∙ get_or_default w.queues n q new_queue less

-- a queue that did not change
pub same_world : (w : WorldState) (n : ℕ) (q : QueueState) → q ≡ queue_at w n → with_queue w n q ≡ w
same_world w n q is =
    ap (λ (x : QueueState). with_queue w n x) is ∙ ap (λ (qs : List QueueState). record w { queues = qs }) (set-get_or w.queues n new_queue)

pub took : (w : WorldState) (n : ℕ) (q : QueueState) → n < length w.queues → TookFront (queue_at w n) q → step w (Take n) (Taken (next_number w n)) (with_queue w n q)
took w n q less front = record {
  enabled = record { there = less; waits = front.may.waits; free = front.may.free; paid = front.may.paid };
  request = front.request;
  later = front.later;
  front = front.front;
  number_is = refl;
  state = ap (λ (x : QueueState). with_queue w n x) front.state;
}

pub not_taken : (w : WorldState) (n : ℕ) → (MayTake (queue_at w n) → ⊥) → CanTake w n → ⊥
not_taken w n never can = never (record { waits = can.waits; free = can.free; paid = can.paid })

wait_of_hand : (w : WorldState) (n : ℕ) (can : CanLook w n) → wait_of (queue_at w n) ≡ Some can.point
wait_of_hand w n can = ap wait_in can.has.is ∙ can.wait

pub not_looked : (w : WorldState) (n : ℕ) → wait_of (queue_at w n) ≡ None → CanLook w n → ⊥
not_looked w n none can = let some : None ≡ Some can.point = sym none ∙ wait_of_hand w n can in cc

-- what can be looked at
abbrev can_look : (w : WorldState) (n : ℕ) (hand : HandState) (point : Point) → n < length w.queues → (queue_at w n).hand ≡ Some hand → next_wait hand ≡ Some point → CanLook w n
can_look w n hand point less is wait = record { has = record { there = less; hand = hand; is = is }; point = point; wait = wait }

pub may_reach : (w : WorldState) (n : ℕ) (point : Point) → n < length w.queues → wait_of (queue_at w n) ≡ Some point → IsReached w.numbers point → CanReach w n
may_reach w n point less is enough =
    elim (queue_at w n).hand as (λ o. (queue_at w n).hand ≡ o → wait_in o ≡ Some point → CanReach w n) [
      | None ↦ (λ _ g. cc)
      | Some hand ↦ (λ same g. record { look = can_look w n hand point less same g; now = enough })
    ] refl is

pub reached : (w : WorldState) (n : ℕ) (point : Point) (s : Sight) (q : QueueState) → n < length w.queues → wait_of (queue_at w n) ≡ Some point → s ≡ seen_at w point → IsReached w.numbers point →
    q ≡ with_reached s (queue_at w n) → step w (Look n) (Reached point s.number) (with_queue w n q)
reached w n point s q less is sees enough new =
    elim (queue_at w n).hand as (λ o. (queue_at w n).hand ≡ o → wait_in o ≡ Some point → step w (Look n) (Reached point s.number) (with_queue w n q)) [
      | None ↦ (λ _ g. cc)
      | Some hand ↦ (λ same g. record {
        enabled = can_look w n hand point less same g;
        point_is = refl;
        seen_is = ap (λ (x : Sight). sight point x.number) sees;
        reached = enough;
        state =
            let s_is : s ≡ sight point s.number = sees ∙ ap (λ (x : Sight). sight point x.number) (sym sees) in
            ap (λ (x : QueueState). with_queue w n x) (new ∙ ap (λ (o : Option HandState). record (queue_at w n) { hand = hand_reached s o }) same
            ∙ ap (λ (x : Sight). record (queue_at w n) { hand = Some (record hand { reached = hand.reached ++ x ∷ []; lacked = None }) }) s_is);
      })
    ] refl is

pub lacked : (w : WorldState) (n : ℕ) (point : Point) (s : Sight) (q : QueueState) → n < length w.queues → wait_of (queue_at w n) ≡ Some point → s ≡ seen_at w point → s.number < point.value →
    q ≡ with_lacked s (queue_at w n) → step w (Look n) (Lacking point s.number) (with_queue w n q)
lacked w n point s q less is sees short new =
    elim (queue_at w n).hand as (λ o. (queue_at w n).hand ≡ o → wait_in o ≡ Some point → step w (Look n) (Lacking point s.number) (with_queue w n q)) [
      | None ↦ (λ _ g. cc)
      | Some hand ↦ (λ same g. record {
        enabled = can_look w n hand point less same g;
        point_is = refl;
        have_is = ap (λ (x : Sight). sight point x.number) sees;
        lacking = short;
        state =
            let s_is : s ≡ sight point s.number = sees ∙ ap (λ (x : Sight). sight point x.number) (sym sees) in
            ap (λ (x : QueueState). with_queue w n x) (new ∙ ap (λ (o : Option HandState). record (queue_at w n) { hand = hand_lacked s o }) same
            ∙ ap (λ (x : Sight). record (queue_at w n) { hand = Some (record hand { lacked = Some x }) }) s_is);
      })
    ] refl is

pub not_bound : (w : WorldState) (n : ℕ) → (IsReadyToBind (queue_at w n) → ⊥) → CanBind w n → ⊥
not_bound w n never can = never (record { hand = can.has.hand; is = can.has.is; reached = can.reached })

abbrev pub may_bind : (w : WorldState) (n : ℕ) (hand : HandState) → n < length w.queues → (queue_at w n).hand ≡ Some hand → next_wait hand ≡ None → CanBind w n
may_bind w n hand less is all = record { has = record { there = less; hand = hand; is = is }; reached = all }

-- a world with another machine and another queue
abbrev pub with_vm : WorldState → VmState → ℕ → QueueState → WorldState
with_vm w v n q = with_queue (record w { vm = v }) n q

pub bound : (w : WorldState) (v : VmState) (n : ℕ) (hand : HandState) (outcome : Outcome) (q : QueueState) → n < length w.queues → (queue_at w n).hand ≡ Some hand → next_wait hand ≡ None →
    IsBoundAndTold w.vm v n (next_number w n) hand.request (seen_by hand.reached) outcome → q ≡ record (queue_at w n) { hand = None; owed = owed_for hand.request outcome } →
    step w (Bind n) (Told (next_number w n) outcome) (with_vm w v n q)
bound w v n hand outcome q less is all carried new = record {
  enabled = may_bind w n hand less is all;
  number_is = refl;
  vm = carried;
  state = ap (λ (x : QueueState). with_vm w v n x) new;
}

pub not_given_up : (w : WorldState) (n : ℕ) → (IsLacking (queue_at w n) → ⊥) → CanGiveUp w n → ⊥
not_given_up w n never can = never (record { hand = can.has.hand; is = can.has.is; saw = can.saw; lacked = can.lacked })

pub given_up : (w : WorldState) (v : VmState) (n : ℕ) (hand : HandState) (outcome : Outcome) (q : QueueState) → n < length w.queues → (queue_at w n).hand ≡ Some hand →
    IsToldLacking w.vm v n hand outcome → q ≡ without_hand (queue_at w n) → step w (GiveUp n) (Told (next_number w n) outcome) (with_vm w v n q)
given_up w v n hand outcome q less is told new = record {
  enabled = record { has = record { there = less; hand = hand; is = is }; saw = told.saw; lacked = told.lacked };
  number_is = refl;
  outcome_is = told.outcome_is;
  state = ap (λ (x : VmState). with_vm w x n q) told.state ∙ ap (λ (x : QueueState). with_queue (record w { vm = record w.vm { told = with_outcome w.vm.told n outcome } }) n x) new;
}

pub not_paid : (w : WorldState) (n : ℕ) → (queue_at w n).owed ≡ [] → CanPay w n → ⊥
not_paid w n none can = let some : [] ≡ can.point ∷ can.later = sym none ∙ can.owed in cc

pub paid : (w : WorldState) (n : ℕ) (point : Point) (numbers : List ℕ) (now : ℕ) (q : QueueState) → n < length w.queues → PaidFirst (queue_at w n) point q → numbers ≡ with_raise w.numbers point →
    now ≡ slice_index numbers point.timeline → step w (Pay n) (Raised point now) (with_queue (record w { numbers = numbers }) n q)
paid w n point numbers now q less first raised now_is = record {
  enabled = record { there = less; point = point; later = q.owed; owed = first.owed };
  point_is = refl;
  now_is = now_is;
  state = ap (λ (ns : List ℕ). with_queue (record w { numbers = ns }) n q) raised ∙ ap (λ (x : QueueState). with_queue (record w { numbers = with_raise w.numbers point }) n x) first.state;
}

-- why a request is put, or is not
allowed_where_ok : (o : Option Fault) (number : ℕ) → MatchOption o (IfErr (put_ok number) (λ n. n.fault ≡ OutOfMemory)) (λ fault. IsErrAnd (put_ok number) (λ n. n.fault ≡ fault)) → o ≡ None
allowed_where_ok None number h = refl
allowed_where_ok (Some fault) number h = absurd h

-- no fault of a put is want of memory
put_named : (limit depth : ℕ) (q : QueueState) → put_fault_of limit depth q ≡ Some OutOfMemory → ⊥
put_named limit depth q h = grind arith

pub put_allowed : (limit depth : ℕ) (q : QueueState) (n : NotTold) → n.fault ≡ OutOfMemory →
    MatchOption (put_fault_of limit depth q) (IfErr (put_err n) (λ n. n.fault ≡ OutOfMemory)) (λ fault. IsErrAnd (put_err n) (λ n. n.fault ≡ fault)) → put_fault_of limit depth q ≡ None
put_allowed limit depth q n is h =
    elim (put_fault_of limit depth q) as (λ o. put_fault_of limit depth q ≡ o → MatchOption o (IfErr (put_err n) (λ n. n.fault ≡ OutOfMemory)) (λ fault. IsErrAnd (put_err n) (λ n. n.fault ≡ fault)) → put_fault_of limit depth q ≡ None) [
      | None ↦ (λ same _. same)
      | Some fault ↦ (λ same g. absurd (put_named limit depth q (same ∙ ap (λ (f : Fault). Some f) (sym g ∙ is))))
    ] refl h

pub put_refused : (limit depth : ℕ) (q : QueueState) (n : NotTold) → n.fault ≢ OutOfMemory →
    MatchOption (put_fault_of limit depth q) (IfErr (put_err n) (λ n. n.fault ≡ OutOfMemory)) (λ fault. IsErrAnd (put_err n) (λ n. n.fault ≡ fault)) → put_fault_of limit depth q ≡ Some n.fault
put_refused limit depth q n isnt h =
    elim (put_fault_of limit depth q) as (λ o. MatchOption o (IfErr (put_err n) (λ n. n.fault ≡ OutOfMemory)) (λ fault. IsErrAnd (put_err n) (λ n. n.fault ≡ fault)) → o ≡ Some n.fault) [
      | None ↦ (λ g. absurd (isnt g))
      | Some fault ↦ (λ g. ap (λ (f : Fault). Some f) (sym g))
    ] h

-- what a put makes of a queue, and what it is told
pub record PutCameTo (limit depth : ℕ) (request : Request) (old new : QueueState) (r : Result ℕ NotTold) : Type 0 where
  pub fault : MatchOption (put_fault_of limit depth old) (IfErr r (λ n. n.fault ≡ OutOfMemory)) (λ fault. IsErrAnd r (λ n. n.fault ≡ fault))
  pub back : IfOk r (λ number. new ≡ record old { put = number + 1; waiting = old.waiting ++ request ∷ [] })
  pub number : IfOk r (λ number. number ≡ old.put)
  pub err : OnErr r (new ≡ old)

pub put_keeps : (w : WorldState) (n : ℕ) (request : Request) (q : QueueState) (r : Result ℕ NotTold) → AreQueues w → n < length w.queues → Fits (length w.numbers) request →
    PutCameTo (told_limit w.vm n) w.depth request (queue_at w n) q r → AreQueues (with_queue w n q)
put_keeps w n request q (Ok number) holds less fits came =
    let old : QueueState = queue_at w n in
    let is : q ≡ record old { put = old.put + 1; waiting = old.waiting ++ request ∷ [] } = came.back ∙ ap (λ (k : ℕ). record old { put = k + 1; waiting = old.waiting ++ request ∷ [] }) came.number in
    AreQueues-with_queue w n q holds less (subst (IsQueueOf (told_limit w.vm n) (length w.numbers) (next_number w n)) (sym is)
    (IsQueueOf-put (told_limit w.vm n) (length w.numbers) (next_number w n) w.depth old request (allowed_where_ok _ number came.fault) fits (holds.each n less)))
put_keeps w n request q (Err e) holds less fits came = subst AreQueues (sym (same_world w n q came.err)) holds

pub was_put : (w : WorldState) (n : ℕ) (request : Request) (q : QueueState) (number : ℕ) → n < length w.queues → Fits (length w.numbers) request →
    PutCameTo (told_limit w.vm n) w.depth request (queue_at w n) q (Ok number) → step w (Put n request) (IsPut number) (with_queue w n q)
was_put w n request q number less fits came = record {
  enabled = (less, fits);
  allowed = allowed_where_ok _ number came.fault;
  number_is = came.number;
  state = ap (λ (x : QueueState). with_queue w n x) came.back;
}

pub was_not_put : (w : WorldState) (n : ℕ) (request : Request) (q : QueueState) (e : NotTold) → n < length w.queues → Fits (length w.numbers) request → e.fault ≢ OutOfMemory → e.request ≡ request →
    PutCameTo (told_limit w.vm n) w.depth request (queue_at w n) q (Err e) → step w (Put n request) (NotPut e.fault e.request) (with_queue w n q)
was_not_put w n request q e less fits named back came = record {
  enabled = (less, fits);
  refused = put_refused (told_limit w.vm n) w.depth (queue_at w n) e named came.fault;
  returned = back;
  state = same_world w n q came.err;
}

pub put_wanted : (w : WorldState) (n : ℕ) (request : Request) (q : QueueState) (e : NotTold) → n < length w.queues → Fits (length w.numbers) request → e.fault ≡ OutOfMemory →
    PutCameTo (told_limit w.vm n) w.depth request (queue_at w n) q (Err e) → MayGrow w (Put n request) × (with_queue w n q ≡ w)
put_wanted w n request q e less fits memory came =
    (((less, fits), put_allowed (told_limit w.vm n) w.depth (queue_at w n) e memory came.fault), same_world w n q came.err)

wanted : (w new : WorldState) (event : Event) (a : Result Reply WantOfMemory) → IsErr a → MayGrow w event × (new ≡ w) → IsStep w event a new
wanted w new event (Ok reply) is h = cc
wanted w new event (Err e) is h = h

pub put_answers : (w : WorldState) (n : ℕ) (request : Request) (q : QueueState) (r : Result ℕ NotTold) (a : Result Reply WantOfMemory) → n < length w.queues → Fits (length w.numbers) request →
    PutCameTo (told_limit w.vm n) w.depth request (queue_at w n) q r → IfErr r (λ e. e.request ≡ request) → IsPutReply r a → IsStep w (Put n request) a (with_queue w n q)
put_answers w n request q (Ok number) a less fits came back is =
    subst (λ (x : Result Reply WantOfMemory). IsStep w (Put n request) x (with_queue w n q)) (sym is) (was_put w n request q number less fits came)
put_answers w n request q (Err e) a less fits came back (inl memory) = wanted w (with_queue w n q) (Put n request) a memory.0 (put_wanted w n request q e less fits memory.1 came)
put_answers w n request q (Err e) a less fits came back (inr named) =
    subst (λ (x : Result Reply WantOfMemory). IsStep w (Put n request) x (with_queue w n q)) (sym named.0) (was_not_put w n request q e less fits named.1 back came)

-- what an accepted request makes its queue owe
pub owed_last_first : (request : Request) (outcome : Outcome) (signals : List Point) → signals ≡ reverse request.signals.items → reverse (owed_in outcome signals) ≡ owed_for request outcome
owed_last_first request (Accepted entry) signals is = ap (λ (ps : List Point). reverse ps) is ∙ reverse-reverse request.signals.items
owed_last_first request (Refused op fault) signals is = refl
owed_last_first request (NotReady point have) signals is = refl

-- no fault stands in the way of the request in hand
pub tell_none : (limit : ℕ) (told : List (List Outcome)) (queue number : ℕ) → number ≡ length (told_to told queue) → length (told_to told queue) < limit → tell_fault limit told queue number ≡ None
tell_none limit told queue number is less = grind arith

owed_fit : (timelines : ℕ) (request : Request) (outcome : Outcome) → All (λ p. p.timeline < timelines) request.signals.items → All (λ p. p.timeline < timelines) (owed_for request outcome)
owed_fit timelines request (Accepted entry) all = all
owed_fit timelines request (Refused op fault) all = All-nil (λ p. p.timeline < timelines)
owed_fit timelines request (NotReady point have) all = All-nil (λ p. p.timeline < timelines)

-- nothing came of it
pub came_back : (w : WorldState) (v : VmState) (n : ℕ) (q : QueueState) → q ≡ queue_at w n → v ≡ w.vm → with_vm w v n q ≡ w
came_back w v n q same vm = ap (λ (x : VmState). with_vm w x n q) vm ∙ same_world w n q same

pub bound_keeps : (w : WorldState) (v : VmState) (n number : ℕ) (hand : HandState) (outcome : Outcome) → AreQueues w → n < length w.queues → (queue_at w n).hand ≡ Some hand →
    IsBoundAndTold w.vm v n number hand.request (seen_by hand.reached) outcome → AreQueues (with_vm w v n (record (queue_at w n) { hand = None; owed = owed_for hand.request outcome }))
bound_keeps w v n number hand outcome holds less is carried =
    AreQueues-told w v n hand outcome (owed_for hand.request outcome) holds less is
    (limits-came w.vm.space v.space w.vm.journal v.journal n number hand.request (seen_by hand.reached) outcome carried.came) carried.told carried.forgotten
    (owed_fit (length w.numbers) hand.request outcome (signals_fit (told_limit w.vm n) (length w.numbers) (next_number w n) (queue_at w n) hand is (holds.each n less)))

pub may_give_up : (w : WorldState) (n : ℕ) (hand : HandState) → n < length w.queues → (queue_at w n).hand ≡ Some hand → hand.lacked ≢ None → CanGiveUp w n
may_give_up w n hand less is lacks =
    elim hand.lacked as (λ o. hand.lacked ≡ o → CanGiveUp w n) [
      | None ↦ (λ none. absurd (lacks none))
      | Some saw ↦ (λ same. record { has = record { there = less; hand = hand; is = is }; saw = saw; lacked = same })
    ] refl

pub given_up_keeps : (w : WorldState) (v : VmState) (n : ℕ) (hand : HandState) (outcome : Outcome) → AreQueues w → n < length w.queues → (queue_at w n).hand ≡ Some hand →
    IsToldLacking w.vm v n hand outcome → AreQueues (with_vm w v n (without_hand (queue_at w n)))
given_up_keeps w v n hand outcome holds less is told =
    AreQueues-told w v n hand outcome (queue_at w n).owed holds less is (ap (λ (x : VmState). x.space.limits) told.state) (ap (λ (x : VmState). x.told) told.state) (ap (λ (x : VmState). x.forgotten) told.state) (holds.each n less).owed
