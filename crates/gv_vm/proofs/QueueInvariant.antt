-- What holds of a queue still holds after each of its events (`IsQueueOf`).
use Rattle.std.proofs.Common.{◌≡◌, ℕ, zero, suc, ◌+◌, ◌<◌, List, [], ◌∷◌, ◌++◌, length, map, refl, take, arith, sym, ◌∙◌, ap, subst, Some, None, Option}
use Rattle.std.specs.Prelude.{slice_get}
use Rattle.std.specs.List.{All}
use Rattle.std.proofs.lemmas.Option.{same_Some}
use Rattle.std.proofs.lemmas.List.{length-append, map-append}
use Rattle.std.proofs.lemmas.List.Elements.{All-push, All-head, All-tail}
use Rattle.gv_types.specs.Request.{Fits}
use Rattle.gv_types.specs.declared.request.Point.{Point}
use Rattle.gv_types.specs.declared.request.Request.{Request}
use Rattle.gv_vm.specs.World.{HandState, QueueState, put_fault_of, next_wait}
use Rattle.gv_vm.specs.Queues.{IsQueueOf, HandFits, IsInOrder, in_hand}
use Rattle.gv_vm.specs.QueueEvents.{TookFront, wait_in, wait_of, with_reached, with_lacked, PaidFirst}
use Rattle.gv_sync.specs.Sights.{Sight}

few_from_none : (limit depth : ℕ) (q : QueueState) → put_fault_of limit depth q ≡ None → q.put < limit
few_from_none limit depth q none = grind arith

pub IsQueueOf-put : (limit timelines told depth : ℕ) (q : QueueState) (request : Request) → put_fault_of limit depth q ≡ None → Fits timelines request → IsQueueOf limit timelines told q →
    IsQueueOf limit timelines told (record q { put = q.put + 1; waiting = q.waiting ++ request ∷ [] })
IsQueueOf-put limit timelines told depth q request none fits h = record {
  put = omega (arith, h.put, length-append q.waiting (request ∷ []));
  few = omega (arith, few_from_none limit depth q none);
  waiting = All-push (Fits timelines) q.waiting request h.waiting fits;
  hand = h.hand;
  owed = h.owed;
}

pub IsQueueOf-took : (limit timelines told : ℕ) (old new : QueueState) → TookFront old new → IsQueueOf limit timelines told old → IsQueueOf limit timelines told new
IsQueueOf-took limit timelines told old new took h =
    let all : All (Fits timelines) (took.request ∷ took.later) = subst (λ (rs : List Request). All (Fits timelines) rs) took.front h.waiting in
    let count : told + 0 + length (took.request ∷ took.later) ≡ old.put = subst (λ (rs : List Request). told + 0 + length rs ≡ old.put) took.front
    (subst (λ (o : Option HandState). told + in_hand o + length old.waiting ≡ old.put) took.may.free h.put) in
    subst (IsQueueOf limit timelines told) (sym took.state) (record {
      put = omega (arith, count);
      few = h.few;
      waiting = All-tail (Fits timelines) took.request took.later all;
      hand = All-head (Fits timelines) took.request took.later all;
      owed = h.owed;
    })

pub IsQueueOf-reached : (limit timelines told : ℕ) (q : QueueState) (s : Sight) → IsQueueOf limit timelines told q → IsQueueOf limit timelines told (with_reached s q)
IsQueueOf-reached limit timelines told q s h =
    elim q.hand as (λ o. IsQueueOf limit timelines told (record q { hand = o }) → IsQueueOf limit timelines told (with_reached s (record q { hand = o }))) [
      | None ↦ (λ g. g)
      | Some hand ↦ (λ g. record { put = g.put; few = g.few; waiting = g.waiting; hand = g.hand; owed = g.owed })
    ] h

pub IsQueueOf-lacked : (limit timelines told : ℕ) (q : QueueState) (s : Sight) → IsQueueOf limit timelines told q → IsQueueOf limit timelines told (with_lacked s q)
IsQueueOf-lacked limit timelines told q s h =
    elim q.hand as (λ o. IsQueueOf limit timelines told (record q { hand = o }) → IsQueueOf limit timelines told (with_lacked s (record q { hand = o }))) [
      | None ↦ (λ g. g)
      | Some hand ↦ (λ g. record { put = g.put; few = g.few; waiting = g.waiting; hand = g.hand; owed = g.owed })
    ] h

-- the request in hand was told
pub IsQueueOf-told : (limit timelines told : ℕ) (q : QueueState) (hand : HandState) (owed : List Point) → q.hand ≡ Some hand → All (λ p. p.timeline < timelines) owed → IsQueueOf limit timelines told q →
    IsQueueOf limit timelines (told + 1) (record q { hand = None; owed = owed })
IsQueueOf-told limit timelines told q hand owed is all h =
    let count : told + 1 + length q.waiting ≡ q.put = subst (λ (o : Option HandState). told + in_hand o + length q.waiting ≡ q.put) is h.put in
    record { put = omega (arith, count); few = h.few; waiting = h.waiting; hand = tt; owed = all }

pub IsQueueOf-paid : (limit timelines told : ℕ) (old new : QueueState) (point : Point) → PaidFirst old point new → IsQueueOf limit timelines told old → IsQueueOf limit timelines told new
IsQueueOf-paid limit timelines told old new point paid h =
    let all : All (λ p. p.timeline < timelines) (point ∷ new.owed) = subst (All (λ p. p.timeline < timelines)) paid.owed h.owed in
    subst (IsQueueOf limit timelines told) (sym paid.state)
    (record { put = h.put; few = h.few; waiting = h.waiting; hand = h.hand; owed = All-tail (λ p. p.timeline < timelines) point new.owed all })

-- the timelines of points
pub paid_timeline : (limit timelines told : ℕ) (old new : QueueState) (point : Point) → PaidFirst old point new → IsQueueOf limit timelines told old → point.timeline < timelines
paid_timeline limit timelines told old new point paid h =
    All-head (λ p. p.timeline < timelines) point new.owed (subst (All (λ p. p.timeline < timelines)) paid.owed h.owed)

All-at : {X : Type 0} (P : X → Type 0) (xs : List X) (n : ℕ) (x : X) → All P xs → slice_get xs n ≡ Some x → P x
All-at P [] n x all is = cc
All-at P (y ∷ ys) zero x all is = subst P (same_Some y x is) (All-head P y ys all)
All-at P (y ∷ ys) (suc n) x all is = All-at P ys n x (All-tail P y ys all) is

pub wait_timeline : (limit timelines told : ℕ) (q : QueueState) (point : Point) → wait_of q ≡ Some point → IsQueueOf limit timelines told q → point.timeline < timelines
wait_timeline limit timelines told q point is h =
    elim q.hand as (λ o. wait_in o ≡ Some point → HandFits timelines o → point.timeline < timelines) [
      | None ↦ (λ g _. cc)
      | Some hand ↦ (λ g fits. All-at (λ p. p.timeline < timelines) hand.request.waits.items (length hand.reached) point fits.0 g)
    ] is h.hand

-- the one in hand may be told
pub told_below : (limit timelines told : ℕ) (q : QueueState) (hand : HandState) → q.hand ≡ Some hand → IsQueueOf limit timelines told q → told < limit
told_below limit timelines told q hand is h =
    let count : told + 1 + length q.waiting ≡ q.put = subst (λ (o : Option HandState). told + in_hand o + length q.waiting ≡ q.put) is h.put in
    omega (arith, count, h.few)

pub signals_fit : (limit timelines told : ℕ) (q : QueueState) (hand : HandState) → q.hand ≡ Some hand → IsQueueOf limit timelines told q → All (λ p. p.timeline < timelines) hand.request.signals.items
signals_fit limit timelines told q hand is h =
    let fits : HandFits timelines (Some hand) = subst (HandFits timelines) is h.hand in fits.1

-- one wait more
take-one : {X : Type 0} (xs : List X) (n : ℕ) (x : X) → slice_get xs n ≡ Some x → take n xs ++ x ∷ [] ≡ take (n + 1) xs
take-one {X = X} [] n x is = cc
take-one {X = X} (y ∷ ys) zero x is = ap (λ (z : X). z ∷ []) (sym (same_Some y x is))
take-one {X = X} (y ∷ ys) (suc n) x is =
    let count : suc (n + 1) ≡ suc n + 1 = omega arith in
    ap (λ (zs : List X). y ∷ zs) (take-one ys n x is) ∙ ap (λ (k : ℕ). take k (y ∷ ys)) count

pub points_more : (h : HandState) (s : Sight) → map (λ (x : Sight). x.point) h.reached ≡ take (length h.reached) h.request.waits.items → next_wait h ≡ Some s.point →
    map (λ (x : Sight). x.point) (h.reached ++ s ∷ []) ≡ take (length (h.reached ++ s ∷ [])) h.request.waits.items
points_more h s first is =
    let count : length (h.reached ++ s ∷ []) ≡ length h.reached + 1 = omega (arith, length-append h.reached (s ∷ [])) in
    map-append (λ (x : Sight). x.point) h.reached (s ∷ []) ∙ ap (λ (ps : List Point). ps ++ s.point ∷ []) first
    ∙ take-one h.request.waits.items (length h.reached) s.point is ∙ ap (λ (n : ℕ). take n h.request.waits.items) (sym count)

pub IsInOrder-reached : (h : HandState) (s : Sight) → IsInOrder h → next_wait h ≡ Some s.point → IsInOrder (record h { reached = h.reached ++ s ∷ []; lacked = None })
IsInOrder-reached h s order is = record { first = points_more h s order.first is; lacked = tt }

-- where no wait is left, they are all of them
all_taken : {X : Type 0} (xs : List X) (n : ℕ) → slice_get xs n ≡ None → take n xs ≡ xs
all_taken [] zero none = refl
all_taken [] (suc n) none = refl
all_taken (x ∷ xs) zero none = cc
all_taken {X = X} (x ∷ xs) (suc n) none = ap (λ (ys : List X). x ∷ ys) (all_taken xs n none)

pub all_reached : (h : HandState) → map (λ (x : Sight). x.point) h.reached ≡ take (length h.reached) h.request.waits.items → next_wait h ≡ None → map (λ (x : Sight). x.point) h.reached ≡ h.request.waits.items
all_reached h first none = first ∙ all_taken h.request.waits.items (length h.reached) none
