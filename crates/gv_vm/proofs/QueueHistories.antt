-- What a queue remembers of the events before, step by step.
use Rattle.std.proofs.Common.{◌≡◌, ◌≢◌, ℕ, zero, suc, ◌+◌, ◌<◌, ◌≤◌, true, false, cond, eqb, List, [], ◌∷◌, ◌++◌, length, map, drop, take, arith, refl, sym, ◌∙◌, ap, subst, append_assoc, append-nil, Some, None, Option}
use Rattle.std.specs.Prelude.{slice_get, slice_set, slice_index_or}
use Rattle.std.proofs.lemmas.Bool.{eqb-true, eqb-false}
use Rattle.std.proofs.lemmas.List.{get_or-set_same, get_or-set_other, length-set, length-append}
use Rattle.std.proofs.lemmas.List.Elements.{All-nil, All-push, All-weaker}
use Rattle.gv_types.specs.declared.request.Point.{Point}
use Rattle.gv_types.specs.declared.request.Request.{Request}
use Rattle.gv_sync.specs.Sights.{Sight}
use Rattle.gv_journal.specs.declared.item.Item.{Item}
use Rattle.gv_journal.specs.declared.item.ItemKind.{ItemKind}
use Rattle.gv_journal.specs.declared.item.ItemKind.TheVariants.{Bind as BindItem, Withdrawal}
use Rattle.gv_vm.specs.World.{HandState, QueueState, new_queue, taken, next_wait}
use Rattle.gv_vm.specs.Outcomes.{told_to}
use Rattle.gv_vm.specs.Step.{owed_for}
use Rattle.gv_vm.specs.QueueHistory.{QueueHistory, signals_asked, due_for, held_in, HasReached, IsInTurn, HasNoDebt, HoldsPut, IsQueueAfter, AreHeldAsPut, AreAfter}
use Rattle.gv_vm.specs.declared.outcome.Outcome.{Outcome}
use Rattle.gv_vm.proofs.QueueInvariant.{points_more}
use Rattle.gv_vm.specs.declared.outcome.Outcome.TheVariants.{Accepted, Refused, NotReady}

drop-push : {X : Type 0} (xs : List X) (n : ℕ) (x : X) → n ≤ length xs → drop n (xs ++ x ∷ []) ≡ drop n xs ++ x ∷ []
drop-push xs zero x few = refl
drop-push [] (suc n) x few = absurd (omega (arith, few))
drop-push (y ∷ ys) (suc n) x few = drop-push ys n x (omega (arith, few))

drop-one : {X : Type 0} (xs : List X) (n : ℕ) (y : X) (ys : List X) → drop n xs ≡ y ∷ ys → drop (n + 1) xs ≡ ys
drop-one {X = X} xs zero y ys is = ap (λ (zs : List X). drop 1 zs) is
drop-one [] (suc n) y ys is = cc
drop-one {X = X} (x ∷ xs) (suc n) y ys is =
    let count : suc n + 1 ≡ suc (n + 1) = omega arith in
    ap (λ (k : ℕ). drop k (x ∷ xs)) count ∙ drop-one xs n y ys is

pub get-drop : {X : Type 0} (xs : List X) (n : ℕ) (y : X) (ys : List X) → drop n xs ≡ y ∷ ys → slice_get xs n ≡ Some y
get-drop {X = X} xs zero y ys is = ap (λ (zs : List X). slice_get zs 0) is
get-drop [] (suc n) y ys is = cc
get-drop (x ∷ xs) (suc n) y ys is = get-drop xs n y ys is

few-drop : {X : Type 0} (xs : List X) (n : ℕ) (y : X) (ys : List X) → drop n xs ≡ y ∷ ys → n + 1 ≤ length xs
few-drop [] zero y ys is = cc
few-drop (x ∷ xs) zero y ys is = omega arith
few-drop [] (suc n) y ys is = cc
few-drop (x ∷ xs) (suc n) y ys is = omega (arith, few-drop xs n y ys is)

get-push : {X : Type 0} (xs : List X) (n : ℕ) (x y : X) → slice_get xs n ≡ Some x → slice_get (xs ++ y ∷ []) n ≡ Some x
get-push [] n x y is = cc
get-push (z ∷ xs) zero x y is = is
get-push (z ∷ xs) (suc n) x y is = get-push xs n x y is

held-push : (o : Option HandState) (waiting : List Request) (r : Request) → held_in o waiting ++ r ∷ [] ≡ held_in o (waiting ++ r ∷ [])
held-push None waiting r = refl
held-push (Some h) waiting r = refl

-- a request more at the back
pub after_put : (p : QueueHistory) (told : ℕ) (q : QueueState) (r : Request) → IsQueueAfter p told q →
    IsQueueAfter (record p { puts = p.puts ++ r ∷ [] }) told (record q { put = q.put + 1; waiting = q.waiting ++ r ∷ [] })
after_put p told q r h = record {
  few = omega (arith, h.few, length-append p.puts (r ∷ []));
  rest = drop-push p.puts told r h.few ∙ ap (λ (rs : List Request). rs ++ r ∷ []) h.rest ∙ held-push q.hand q.waiting r;
  put = omega (arith, h.put, length-append p.puts (r ∷ []));
  looked = h.looked;
  in_turn = h.in_turn;
  reached = h.reached;
  free = h.free;
  signals = h.signals;
}

-- the front came in hand
pub after_take : (p : QueueHistory) (told : ℕ) (q : QueueState) (r : Request) (later : List Request) → q.waiting ≡ r ∷ later → q.hand ≡ None → q.owed ≡ [] → IsQueueAfter p told q →
    IsQueueAfter (record p { looked = [] }) told (record q { waiting = later; hand = Some (taken r) })
after_take p told q r later front none paid h = record {
  few = h.few;
  rest = h.rest ∙ ap (λ (o : Option HandState). held_in o q.waiting) none ∙ front;
  put = h.put;
  looked = refl;
  in_turn = refl;
  reached = All-nil (λ s. s.point.value ≤ s.number);
  free = paid;
  signals = h.signals;
}

-- one wait more is reached
pub after_reach : (p : QueueHistory) (told : ℕ) (q : QueueState) (hand : HandState) (s : Sight) → q.hand ≡ Some hand → next_wait hand ≡ Some s.point → s.point.value ≤ s.number → IsQueueAfter p told q →
    IsQueueAfter (record p { looked = p.looked ++ s ∷ [] }) told (record q { hand = Some (record hand { reached = hand.reached ++ s ∷ []; lacked = None }) })
after_reach p told q hand s is wait enough h =
    let turn : map (λ (x : Sight). x.point) hand.reached ≡ take (length hand.reached) hand.request.waits.items = subst IsInTurn is h.in_turn in
    let looked : hand.reached ≡ p.looked = subst (λ (o : Option HandState). HasReached o p.looked) is h.looked in
    record {
      few = h.few;
      rest = h.rest ∙ ap (λ (o : Option HandState). held_in o q.waiting) is;
      put = h.put;
      looked = ap (λ (ss : List Sight). ss ++ s ∷ []) looked;
      in_turn = points_more hand s turn wait;
      reached = All-push (λ s. s.point.value ≤ s.number) p.looked s h.reached enough;
      free = subst (λ (o : Option HandState). HasNoDebt o q.owed) is h.free;
      signals = h.signals;
    }

-- it lacks
pub after_lack : (p : QueueHistory) (told : ℕ) (q : QueueState) (hand : HandState) (s : Sight) → q.hand ≡ Some hand → IsQueueAfter p told q →
    IsQueueAfter p told (record q { hand = Some (record hand { lacked = Some s }) })
after_lack p told q hand s is h = record {
  few = h.few;
  rest = h.rest ∙ ap (λ (o : Option HandState). held_in o q.waiting) is;
  put = h.put;
  looked = subst (λ (o : Option HandState). HasReached o p.looked) is h.looked;
  in_turn = subst IsInTurn is h.in_turn;
  reached = h.reached;
  free = subst (λ (o : Option HandState). HasNoDebt o q.owed) is h.free;
  signals = h.signals;
}

-- which request is in hand
pub put_in_hand : (p : QueueHistory) (told : ℕ) (q : QueueState) (hand : HandState) → q.hand ≡ Some hand → IsQueueAfter p told q → slice_get p.puts told ≡ Some hand.request
put_in_hand p told q hand is h = get-drop p.puts told hand.request q.waiting (h.rest ∙ ap (λ (o : Option HandState). held_in o q.waiting) is)

-- it was told
pub after_told : (p : QueueHistory) (told : ℕ) (q : QueueState) (hand : HandState) (owed due : List Point) → q.hand ≡ Some hand → p.paid ++ owed ≡ due → IsQueueAfter p told q →
    IsQueueAfter (record p { due = due }) (told + 1) (record q { hand = None; owed = owed })
after_told p told q hand owed due is signals h =
    let rest : drop told p.puts ≡ hand.request ∷ q.waiting = h.rest ∙ ap (λ (o : Option HandState). held_in o q.waiting) is in
    record {
      few = few-drop p.puts told hand.request q.waiting rest;
      rest = drop-one p.puts told hand.request q.waiting rest;
      put = h.put;
      looked = tt;
      in_turn = tt;
      reached = h.reached;
      free = tt;
      signals = signals;
    }

due_is : (puts : List Request) (told : ℕ) (request : Request) (outcome : Outcome) → slice_get puts told ≡ Some request → owed_for request outcome ≡ due_for puts told outcome
due_is puts told request (Accepted entry) is = sym (ap (λ (o : Option Request). signals_asked o) is)
due_is puts told request (Refused op fault) is = refl
due_is puts told request (NotReady point have) is = refl

pub after_bind : (p : QueueHistory) (told : ℕ) (q : QueueState) (hand : HandState) (outcome : Outcome) → q.hand ≡ Some hand → IsQueueAfter p told q →
    IsQueueAfter (record p { due = p.due ++ due_for p.puts told outcome }) (told + 1) (record q { hand = None; owed = owed_for hand.request outcome })
after_bind p told q hand outcome is h =
    let none : q.owed ≡ [] = subst (λ (o : Option HandState). HasNoDebt o q.owed) is h.free in
    let all : p.paid ≡ p.due = sym (append-nil p.paid) ∙ ap (λ (ps : List Point). p.paid ++ ps) (sym none) ∙ h.signals in
    after_told p told q hand (owed_for hand.request outcome) (p.due ++ due_for p.puts told outcome) is
    (ap (λ (ps : List Point). ps ++ owed_for hand.request outcome) all ∙ ap (λ (ps : List Point). p.due ++ ps) (due_is p.puts told hand.request outcome (put_in_hand p told q hand is h))) h

pub after_give_up : (p : QueueHistory) (told : ℕ) (q : QueueState) (hand : HandState) → q.hand ≡ Some hand → IsQueueAfter p told q → IsQueueAfter p (told + 1) (record q { hand = None })
after_give_up p told q hand is h = after_told p told q hand q.owed p.due is h.signals h

-- the first signal owed is paid
pub after_pay : (p : QueueHistory) (told : ℕ) (q : QueueState) (point : Point) (later : List Point) → q.owed ≡ point ∷ later → IsQueueAfter p told q →
    IsQueueAfter (record p { paid = p.paid ++ point ∷ [] }) told (record q { owed = later })
after_pay p told q point later owed h = record {
  few = h.few;
  rest = h.rest;
  put = h.put;
  looked = h.looked;
  in_turn = h.in_turn;
  reached = h.reached;
  free = elim q.hand as (λ o. HasNoDebt o q.owed → HasNoDebt o later) [
    | None ↦ (λ _. tt)
    | Some hand ↦ (λ none. cc)
  ] h.free;
  signals = append_assoc p.paid (point ∷ []) later ∙ ap (λ (ps : List Point). p.paid ++ ps) (sym owed) ∙ h.signals;
}

-- one queue had its turn
pub after_turn : (queue n : ℕ) (p more : QueueHistory) (told tells : List (List Outcome)) (queues : List QueueState) (q : QueueState) (items now : List Item) → n < length queues →
    length tells ≡ length told → ((m : ℕ) → m ≢ n → told_to tells m ≡ told_to told m) → (n ≢ queue → AreHeldAsPut queue p.puts now) → (n ≡ queue → AreHeldAsPut queue more.puts now) →
    (n ≡ queue → IsQueueAfter p (length (told_to told n)) (slice_index_or queues n new_queue) → IsQueueAfter more (length (told_to tells n)) q) →
    AreAfter queue p told queues items → AreAfter queue (cond (eqb n queue) more p) tells (slice_set queues n q) now
after_turn queue n p more told tells queues q items now less count same others here turned h =
    let there : length (slice_set queues n q) ≤ length tells = omega (arith, length-set queues n q, count, h.there) in
    elim (eqb n queue) as (λ t. eqb n queue ≡ t → AreAfter queue (cond t more p) tells (slice_set queues n q) now) [
      | true ↦ (λ is.
          let n_is : n ≡ queue = eqb-true n queue is in
          let before : IsQueueAfter p (length (told_to told n)) (slice_index_or queues n new_queue) =
          subst (λ (k : ℕ). IsQueueAfter p (length (told_to told k)) (slice_index_or queues k new_queue)) (sym n_is) h.queue_is in
          let after : IsQueueAfter more (length (told_to tells n)) (slice_index_or (slice_set queues n q) n new_queue) =
          subst (λ (x : QueueState). IsQueueAfter more (length (told_to tells n)) x) (sym (get_or-set_same queues n q new_queue less)) (turned n_is before) in
          record {
            there = there;
            queue_is = subst (λ (k : ℕ). IsQueueAfter more (length (told_to tells k)) (slice_index_or (slice_set queues n q) k new_queue)) n_is after;
            items_are = here n_is;
          })
      | false ↦ (λ isnt.
          let apart : n ≢ queue = eqb-false n queue isnt in
          let other : queue ≢ n = λ e. apart (sym e) in
          record {
            there = there;
            queue_is = subst (λ (k : ℕ). IsQueueAfter p k (slice_index_or (slice_set queues n q) queue new_queue)) (sym (ap (λ (os : List Outcome). length os) (same queue other)))
                (subst (λ (x : QueueState). IsQueueAfter p (length (told_to told queue)) x) (sym (get_or-set_other queues n queue q new_queue other)) h.queue_is);
            items_are = others apart;
          })
    ] refl

-- items stay as they were put
holds_more : (queue : ℕ) (puts : List Request) (r : Request) (kind : ItemKind) → HoldsPut queue puts kind → HoldsPut queue (puts ++ r ∷ []) kind
holds_more queue puts r (BindItem n number request seen done) h = λ is. get-push puts number request r (h is)
holds_more queue puts r (Withdrawal of) h = tt

pub held_more : (queue : ℕ) (puts : List Request) (r : Request) (items : List Item) → AreHeldAsPut queue puts items → AreHeldAsPut queue (puts ++ r ∷ []) items
held_more queue puts r items all = All-weaker (λ x. HoldsPut queue puts x.kind) (λ x. HoldsPut queue (puts ++ r ∷ []) x.kind) (λ x h. holds_more queue puts r x.kind h) items all
