-- The ends of queues, one by one.
use Rattle.std.proofs.Common.{◌≡◌, ℕ, zero, suc, ◌+◌, ◌<◌, Option, Some, None, IfNone, IfSome, false, true≢false, Result, Ok, Err, IfOk, List, [], ◌∷◌, ◌++◌, length, take, refl, map, get_or, sym, ap, ◌∙◌, subst, arith}
use Rattle.std.proofs.lemmas.List.{get_or_append_left, get_or-map, length-append, length-drop, length-map}
use Rattle.std.proofs.Math.Seq.{get_or-append_seam}
use Rattle.std.specs.Option.{is_some}
use native.Mathlib.Decide.{dec_lt}
use Rattle.gv_types.specs.declared.request.Request.{Request}
use Rattle.gv_vm.specs.Outcomes.{told_to}
use Rattle.gv_vm.specs.declared.outcome.Outcome.{Outcome}
use Rattle.gv_vm.specs.State.{VmState}
use Rattle.gv_queues.specs.declared.finishing.QueueEnd.{QueueEnd}
use Rattle.gv_queues.specs.Driving.{ArePut}
use Rattle.gv_queues.specs.Ending.{AreCountedEnds, AreEndsOf, AreInOrder, ArePuts, IsEndOf, no_put, put_at}
use Rattle.gv_queues.specs.Submitting.{AreCounted, AreOpened, AreSameSubmitters, IsOpened, PutEndState, SubmitterState, no_submitter, put_end_of, submitter_at}
use Rattle.gv_queues.specs.Working.{AreLeft, WorkerEndState, end_at, no_end}

-- what holds at each place of a list and at its end holds at each place of the longer list
pub one_more : {X : Type 0} (P : ℕ → X → Type 0) (xs ys : List X) (x d : X) → ys ≡ xs ++ x ∷ [] → P (length xs) x
    → ((k : ℕ) → k < length xs → P k (get_or xs k d)) → (k : ℕ) → k < length ys → P k (get_or ys k d)
one_more {X} P xs ys x d is here each = subst (λ (l : List X). (k : ℕ) → k < length l → P k (get_or l k d)) (sym is) longer
  where
    longer : (k : ℕ) → k < length (xs ++ x ∷ []) → P k (get_or (xs ++ x ∷ []) k d)
    longer k lt = elim (dec_lt k (length xs)) [
      | yes low ↦ subst (λ (e : X). P k e) (sym (get_or_append_left xs (x ∷ []) d k low)) (each k low)
      | no high ↦ (
          let end : k ≡ length xs = omega (arith, length-append xs (x ∷ [])) in
          let at : get_or (xs ++ x ∷ []) k d ≡ x = ap (λ (i : ℕ). get_or (xs ++ x ∷ []) i d) end ∙ get_or-append_seam xs x [] d in
          subst (λ (e : X). P k e) (sym at) (subst (λ (i : ℕ). P i x) (sym end) here))
    ]

pub each_more : {X : Type 0} (P : ℕ → X → Type 0) (xs ys : List X) (x : X) → ys ≡ xs ++ x ∷ [] → P (length xs) x
    → ((k : ℕ) (d : X) → k < length xs → P k (get_or xs k d)) → (k : ℕ) (d : X) → k < length ys → P k (get_or ys k d)
each_more P xs ys x is here each k d lt = one_more P xs ys x d is here (λ k' lt'. each k' d lt') k lt

pub in_order_more : {X : Type 0} (queue : X → ℕ) (xs ys : List X) (x : X) → AreInOrder queue xs → queue x ≡ length xs → ys ≡ xs ++ x ∷ [] → AreInOrder queue ys
in_order_more queue xs ys x order here is = each_more (λ k e. queue e ≡ k) xs ys x is here order

pub ends_more : (vm : VmState) (puts : List PutEndState) (workers : List WorkerEndState) (ends longer : List QueueEnd) (end : QueueEnd)
    → longer ≡ ends ++ end ∷ [] → IsEndOf vm (put_at puts (length ends)) (end_at workers (length ends)) end → AreEndsOf vm puts workers ends → AreEndsOf vm puts workers longer
ends_more vm puts workers ends longer end is here each = each_more (λ k e. IsEndOf vm (put_at puts k) (end_at workers k) e) ends longer end is here each

-- the closed submitters are those that were opened, each with what the driver put
pub puts_of : (count : ℕ → ℕ) (may_put : ℕ → List Request → Type 0) (limit depth timelines : ℕ) (old new : List SubmitterState) (puts : List PutEndState)
    → puts ≡ map put_end_of new → length new ≡ length old → AreOpened limit depth timelines old → AreSameSubmitters old new → AreCounted count new → ArePut may_put new → ArePuts count may_put puts
puts_of count may_put limit depth timelines old new puts is even opened same counted allowed = record {
  order = λ k d lt.
      let low : k < length new = below k lt in
      let there : get_or puts k d ≡ put_end_of (submitter_at new k) = ap (λ (l : List PutEndState). get_or l k d) is ∙ get_or-map put_end_of new k no_submitter d low in
      ap (λ (p : PutEndState). p.queue) there ∙ (ap (λ (s : SubmitterState). s.queue) (same k (old_low k low)) ∙ (opened k (old_low k low)).queue);
  counted = λ k lt.
      let low : k < length new = below k lt in
      let there : put_at puts k ≡ put_end_of (submitter_at new k) = ap (λ (l : List PutEndState). put_at l k) is ∙ get_or-map put_end_of new k no_submitter no_put low in
      counted k low ∙ ap (λ (p : PutEndState). length p.put) (sym there);
  allowed = λ k lt.
      let low : k < length new = below k lt in
      let there : put_at puts k ≡ put_end_of (submitter_at new k) = ap (λ (l : List PutEndState). put_at l k) is ∙ get_or-map put_end_of new k no_submitter no_put low in
      subst (λ (p : PutEndState). may_put k p.put) (sym there) (allowed k low);
}
  where
    below : (k : ℕ) → k < length puts → k < length new
    below k lt = subst (λ (n : ℕ). k < n) (ap (λ (l : List PutEndState). length l) is ∙ length-map new put_end_of) lt

    old_low : (k : ℕ) → k < length new → k < length old
    old_low k lt = subst (λ (n : ℕ). k < n) even lt

-- what was lent whole comes back whole
pub taken_whole : {X : Type 0} (xs ys : List X) (n : ℕ) → n ≡ length xs → take n (xs ++ ys) ≡ xs
taken_whole [] ys zero e = refl
taken_whole [] ys (suc n) e = absurd (omega (arith, e))
taken_whole (x ∷ xs) ys zero e = absurd (omega (arith, e))
taken_whole (x ∷ xs) ys (suc n) e = ap (λ l. x ∷ l) (taken_whole xs ys n (omega (arith, e)))

pub opened_more : (limit depth timelines : ℕ) (xs ys : List SubmitterState) (x : SubmitterState) → ys ≡ xs ++ x ∷ []
    → IsOpened (length xs) limit depth timelines x → AreOpened limit depth timelines xs → AreOpened limit depth timelines ys
opened_more limit depth timelines xs ys x is here each = one_more (λ k s. IsOpened k limit depth timelines s) xs ys x no_submitter is here each

-- the requests of a worker that got no outcome are left
pub left_count : (taken : List Request) (gave : List Outcome) (left : List Request) → AreLeft taken gave left → length taken ≡ length gave + length left
left_count taken gave left h =
    let few = h.few in let d = length-drop (length gave) taken in let e = ap (λ (l : List Request). length l) h.left_is in omega (arith, few, d, e)

-- the ends of queues whose requests the driver counted
pub counted_ends : (vm : VmState) (count : ℕ → ℕ) (may_put : ℕ → List Request → Type 0) (puts : List PutEndState) (workers : List WorkerEndState) (ends : List QueueEnd)
    → length ends ≡ length puts → length workers ≡ length puts → ArePuts count may_put puts → AreInOrder (λ (w : WorkerEndState). w.queue) workers
    → AreEndsOf vm puts workers ends → AreCountedEnds vm count may_put ends
counted_ends vm count may_put puts workers ends even same were order each queue d lt =
    let end = each queue d lt in
    let low : queue < length puts = subst (λ (n : ℕ). queue < n) even lt in
    let low' : queue < length workers = subst (λ (n : ℕ). queue < n) (sym same) low in record {
      each = end.each;
      driven = end.put ∙ sym (were.counted queue low);
      put = (put_at puts queue).put;
      allowed = were.allowed queue low;
      many = end.put;
      told = end.told ∙ ap (λ (q : ℕ). length (told_to vm.told q)) (order queue no_end low');
    }

pub if_ok : {A E : Type 0} (P Q : A → Type 0) (r : Result A E) → ((a : A) → P a → Q a) → IfOk r P → IfOk r Q
if_ok P Q (Ok a) f p = f a p
if_ok P Q (Err e) f p = tt

pub if_ok_both : {A E : Type 0} (P Q : A → Type 0) (r : Result A E) → IfOk r P → IfOk r Q → IfOk r (λ a. P a × Q a)
if_ok_both P Q (Ok a) p q = (p, q)
if_ok_both P Q (Err e) p q = tt

pub if_none : {A : Type 0} (r : Option A) (P : Type 0) → P → IfNone r P
if_none None P p = p
if_none (Some x) P p = tt

pub if_none_of : {A : Type 0} (r : Option A) (P Q : Type 0) → IfNone r P → (P → Q) → IfNone r Q
if_none_of None P Q p f = f p
if_none_of (Some x) P Q p f = tt

pub if_some_none : (r : Option ℕ) (P : ℕ → Type 0) → is_some r ≡ false → IfSome r P
if_some_none None P e = tt
if_some_none (Some x) P e = absurd (true≢false e)

pub if_some_of : (r : Option ℕ) (x : ℕ) (P : ℕ → Type 0) → r ≡ Some x → P x → IfSome r P
if_some_of r x P e p = subst (λ (o : Option ℕ). IfSome o P) (sym e) p

-- what is there is below the same bound, and two facts stand beside
pub if_some_with : (r : Option ℕ) (n m : ℕ) (A B : Type 0) → n ≡ m → A → B → IfSome r (λ x. x < n) → IfSome r (λ x. (x < m) × A × B)
if_some_with None n m A B e a b lt = tt
if_some_with (Some x) n m A B e a b lt = (subst (λ (k : ℕ). x < k) e lt, a, b)

-- what is left of a list when its first element is taken
pub head_at : {X : Type 0} (xs rest : List X) (x : X) → xs ≡ x ∷ rest → (d : X) → get_or xs 0 d ≡ x
head_at xs rest x e d = ap (λ l. get_or l 0 d) e

pub tail_at : {X : Type 0} (xs rest : List X) (x : X) → xs ≡ x ∷ rest → (k : ℕ) (d : X) → get_or rest k d ≡ get_or xs (k + 1) d
tail_at xs rest x e k d = let on : k + 1 ≡ suc k = omega arith in sym (ap (λ l. get_or l (k + 1) d) e ∙ ap (λ (n : ℕ). get_or (x ∷ rest) n d) on)

pub plus_none : (n : ℕ) → n + 0 ≡ n
plus_none n = omega arith

pub one_further : (done k next : ℕ) → next ≡ done + 1 → done + (k + 1) ≡ next + k
one_further done k next e = omega (arith, e)
