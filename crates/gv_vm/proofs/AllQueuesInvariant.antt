-- What holds of the queues of a world still holds where one of them, or the rest of the world, changed.
use Rattle.std.proofs.Common.{◌≡◌, ◌≢◌, ℕ, ◌<◌, ◌≤◌, true, false, eqb, ◌+◌, List, [], ◌∷◌, ◌++◌, length, arith, refl, sym, ◌∙◌, ap, subst, Some, None}
use Rattle.std.specs.Prelude.{min, slice_set, slice_index_or}
use Rattle.std.specs.List.{All}
use Rattle.std.proofs.lemmas.Bool.{eqb-true, eqb-false}
use Rattle.std.proofs.lemmas.List.{get_or-set_same, get_or-set_other, length-set, length-append}
use Rattle.gv_types.specs.Limits.{LimitsState}
use Rattle.gv_types.specs.declared.request.Point.{Point}
use Rattle.gv_vm.specs.Outcomes.{lifetime_told, told_to, with_outcome}
use Rattle.gv_vm.specs.State.{VmState, forgotten_of, told_limit}
use Rattle.gv_vm.specs.declared.outcome.Outcome.{Outcome}
use Rattle.gv_vm.specs.World.{WorldState, HandState, QueueState, new_queue, queue_at, with_queue, next_number}
use Rattle.gv_vm.specs.Queues.{IsQueueOf, AreQueues}
use Rattle.gv_vm.proofs.QueueInvariant.{IsQueueOf-told}

-- what is said of a queue, in a world of the same limit and as many timelines, which was told as much
along : (l l2 t t2 k k2 : ℕ) (q : QueueState) → l2 ≡ l → t2 ≡ t → k2 ≡ k → IsQueueOf l t k q → IsQueueOf l2 t2 k2 q
along l l2 t t2 k k2 q same_limit same_timelines same_told h =
    subst (λ (n : ℕ). IsQueueOf n t2 k2 q) (sym same_limit)
    (subst (λ (n : ℕ). IsQueueOf l n k2 q) (sym same_timelines)
    (subst (λ (n : ℕ). IsQueueOf l t n q) (sym same_told) h))

-- A world in which each queue may be told as much, of as many timelines.
pub record IsLike (w new : WorldState) : Type 0 where
  pub limit : new.vm.space.limits.told ≡ w.vm.space.limits.told
  pub forgotten : new.vm.forgotten ≡ w.vm.forgotten
  pub timelines : length new.numbers ≡ length w.numbers
  pub told : length new.vm.told ≡ length w.vm.told

-- so the limit of each queue is the same
limit_like : (w new : WorldState) (n : ℕ) → IsLike w new → told_limit new.vm n ≡ told_limit w.vm n
limit_like w new n like =
    ap (λ (ls : List ℕ). min lifetime_told (slice_index_or ls n 0 + new.vm.space.limits.told)) like.forgotten
    ∙ ap (λ k. min lifetime_told (forgotten_of w.vm n + k)) like.limit

-- what is said of the queue with this number
abbrev pub IsOf : WorldState → ℕ → QueueState → Type 0
IsOf w n q = IsQueueOf (told_limit w.vm n) (length w.numbers) (next_number w n) q

-- one queue changed, and what it was told
pub AreQueues-one : (w new : WorldState) (n : ℕ) (q : QueueState) → AreQueues w → n < length w.queues → new.queues ≡ slice_set w.queues n q → IsLike w new →
    ((m : ℕ) → m ≢ n → next_number new m ≡ next_number w m) → IsQueueOf (told_limit new.vm n) (length new.numbers) (next_number new n) q → AreQueues new
AreQueues-one w new n q holds less is like told here =
    let count : length new.queues ≡ length w.queues = ap (λ (qs : List QueueState). length qs) is ∙ length-set w.queues n q in
    record {
      few = omega (arith, holds.few);
      told = like.told ∙ holds.told;
      each = λ m below.
          let within : m < length w.queues = omega arith in
          elim (eqb m n) as (λ t. eqb m n ≡ t → IsQueueOf (told_limit new.vm m) (length new.numbers) (next_number new m) (queue_at new m)) [
            | true ↦ (λ same.
                let m_is : m ≡ n = eqb-true m n same in
                let queue_is : queue_at new n ≡ q = ap (λ (qs : List QueueState). queue_at (record new { queues = qs }) n) is ∙ get_or-set_same w.queues n q new_queue less in
                subst (λ (k : ℕ). IsQueueOf (told_limit new.vm k) (length new.numbers) (next_number new k) (queue_at new k)) (sym m_is)
                (subst (λ (x : QueueState). IsQueueOf (told_limit new.vm n) (length new.numbers) (next_number new n) x) (sym queue_is) here))
            | false ↦ (λ apart.
                let other : m ≢ n = eqb-false m n apart in
                let queue_is : queue_at new m ≡ queue_at w m = ap (λ (qs : List QueueState). queue_at (record new { queues = qs }) m) is ∙ get_or-set_other w.queues n m q new_queue other in
                subst (λ (x : QueueState). IsQueueOf (told_limit new.vm m) (length new.numbers) (next_number new m) x) (sym queue_is)
                (along _ _ _ _ _ _ (queue_at w m) (limit_like w new m like) like.timelines (told m other) (holds.each m within)))
          ] refl;
    }

-- one queue changed, and nothing else
pub AreQueues-with_queue : (w : WorldState) (n : ℕ) (q : QueueState) → AreQueues w → n < length w.queues → IsQueueOf (told_limit w.vm n) (length w.numbers) (next_number w n) q → AreQueues (with_queue w n q)
AreQueues-with_queue w n q holds less here = AreQueues-one w (with_queue w n q) n q holds less refl (record { limit = refl; forgotten = refl; timelines = refl; told = refl }) (λ m other. refl) here

-- no queue changed, and none was told anything
pub AreQueues-rest : (w new : WorldState) → AreQueues w → new.queues ≡ w.queues → IsLike w new → new.vm.told ≡ w.vm.told → AreQueues new
AreQueues-rest w new holds is like told = record {
  few = subst (λ (qs : List QueueState). length qs ≤ 16) (sym is) holds.few;
  told = like.told ∙ holds.told;
  each = λ m below.
      let within : m < length w.queues = subst (λ (qs : List QueueState). m < length qs) is below in
      subst (λ (qs : List QueueState). IsQueueOf (told_limit new.vm m) (length new.numbers) (next_number new m) (queue_at (record new { queues = qs }) m)) (sym is)
      (along _ _ _ _ _ _ (queue_at w m) (limit_like w new m like) like.timelines (ap (λ ls. next_number (record w { vm = record w.vm { told = ls } }) m) told) (holds.each m within));
}

-- the request in hand was told
pub AreQueues-told : (w : WorldState) (v : VmState) (n : ℕ) (hand : HandState) (outcome : Outcome) (owed : List Point) → AreQueues w → n < length w.queues → (queue_at w n).hand ≡ Some hand →
    v.space.limits ≡ w.vm.space.limits → v.told ≡ with_outcome w.vm.told n outcome → v.forgotten ≡ w.vm.forgotten → All (λ p. p.timeline < length w.numbers) owed →
    AreQueues (with_queue (record w { vm = v }) n (record (queue_at w n) { hand = None; owed = owed }))
AreQueues-told w v n hand outcome owed holds less is limits told forgotten all =
    let q : QueueState = record (queue_at w n) { hand = None; owed = owed } in
    let new : WorldState = with_queue (record w { vm = v }) n q in
    let within : n < length w.vm.told = omega (arith, holds.few, holds.told) in
    let list : List Outcome = told_to w.vm.told n ++ outcome ∷ [] in
    let count : length v.told ≡ length w.vm.told = ap (λ (ls : List (List Outcome)). length ls) told ∙ length-set w.vm.told n list in
    let next : length (told_to v.told n) ≡ next_number w n + 1 =
    ap (λ (ls : List (List Outcome)). length (told_to ls n)) told
    ∙ ap (λ (xs : List Outcome). length xs) (get_or-set_same w.vm.told n list [] within)
    ∙ omega (arith, length-append (told_to w.vm.told n) (outcome ∷ [])) in
    let like : IsLike w new = record { limit = ap (λ (l : LimitsState). l.told) limits; forgotten = forgotten; timelines = refl; told = count } in
    AreQueues-one w new n q holds less refl like
    (λ m other. ap (λ (ls : List (List Outcome)). length (told_to ls m)) told ∙ ap (λ (xs : List Outcome). length xs) (get_or-set_other w.vm.told n m list [] other))
    (subst (λ (k : ℕ). IsQueueOf k (length w.numbers) (length (told_to v.told n)) q) (sym (limit_like w new n like))
    (subst (λ (k : ℕ). IsQueueOf (told_limit w.vm n) (length w.numbers) k q) (sym next)
    (IsQueueOf-told (told_limit w.vm n) (length w.numbers) (next_number w n) (queue_at w n) hand owed is all (holds.each n less))))
