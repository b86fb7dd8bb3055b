-- What a driver that puts all has put, one request more.
use Rattle.std.proofs.Common.{◌≡◌, ◌≢◌, ◌⊎◌, ℕ, ◌<◌, List, [], ◌∷◌, ◌++◌, Bool, true, false, nat_eq, cond, length, map, filter, refl, sym, ap, ◌∙◌, subst, inl, inr, ⊎_elim}
use Rattle.std.proofs.lemmas.Bool.Decides.{eqb_tells}
use Rattle.std.proofs.lemmas.List.{map-append}
use Rattle.std.proofs.lemmas.List.Elements.{filter-append}
use Rattle.gv_types.specs.declared.request.Request.{Request}
use Rattle.gv_queues.specs.Driving.{AreSomeOf, AreSomePut, MayPutOne, requests_on}
use Rattle.gv_queues.specs.Submitting.{SubmitterState, submitter_at}

-- some of a list are some of a longer list
some_longer : {X : Type 0} (all some more : List X) → AreSomeOf all some → AreSomeOf (all ++ more) some
some_longer all [] more h = tt
some_longer [] (x ∷ some) more h = absurd h
some_longer (y ∷ all) (x ∷ some) more h =
    ⊎_elim (λ (w : (x ≡ y) × AreSomeOf all some). inl (w.0, some_longer all some more w.1)) (λ (w : AreSomeOf all (x ∷ some)). inr (some_longer all (x ∷ some) more w)) h

-- one more of both
some_added : {X : Type 0} (all some : List X) (z : X) → AreSomeOf all some → AreSomeOf (all ++ z ∷ []) (some ++ z ∷ [])
some_added [] [] z h = inl (refl, tt)
some_added (y ∷ all) [] z h = inr (some_added all [] z tt)
some_added [] (x ∷ some) z h = absurd h
some_added (y ∷ all) (x ∷ some) z h =
    ⊎_elim (λ (w : (x ≡ y) × AreSomeOf all some). inl (w.0, some_added all some z w.1)) (λ (w : AreSomeOf all (x ∷ some)). inr (some_added all (x ∷ some) z w)) h

requests_more : (queue : ℕ) (entries : List (ℕ × Request)) (e : ℕ × Request)
    → requests_on queue (entries ++ e ∷ []) ≡ requests_on queue entries ++ map (λ (x : ℕ × Request). x.1) (cond (nat_eq e.0 queue) (e ∷ []) [])
requests_more queue entries e =
    ap (λ (es : List (ℕ × Request)). map (λ (x : ℕ × Request). x.1) es) (filter-append (λ (x : ℕ × Request). nat_eq x.0 queue) entries (e ∷ []))
    ∙ map-append (λ (x : ℕ × Request). x.1) (filter (λ (x : ℕ × Request). nat_eq x.0 queue) entries) (cond (nat_eq e.0 queue) (e ∷ []) [])

requests_there : (queue : ℕ) (entries : List (ℕ × Request)) (e : ℕ × Request) → nat_eq e.0 queue ≡ true
    → requests_on queue (entries ++ e ∷ []) ≡ requests_on queue entries ++ e.1 ∷ []
requests_there queue entries e is =
    requests_more queue entries e ∙ ap (λ (b : Bool). requests_on queue entries ++ map (λ (x : ℕ × Request). x.1) (cond b (e ∷ []) [])) is

-- what was put on one queue, one request more
put_there : (queue : ℕ) (entries : List (ℕ × Request)) (e : ℕ × Request) (old new : List Request) → AreSomeOf (requests_on queue entries) old
    → (new ≡ old) ⊎ ((e.0 ≡ queue) × (new ≡ old ++ e.1 ∷ [])) → AreSomeOf (requests_on queue (entries ++ e ∷ [])) new
put_there queue entries e old new were =
    ⊎_elim
    (λ (same : new ≡ old).
    subst (λ (l : List Request). AreSomeOf l new) (sym (requests_more queue entries e))
    (some_longer (requests_on queue entries) new (map (λ (x : ℕ × Request). x.1) (cond (nat_eq e.0 queue) (e ∷ []) []))
    (subst (λ (l : List Request). AreSomeOf (requests_on queue entries) l) (sym same) were)))
    (λ (w : (e.0 ≡ queue) × (new ≡ old ++ e.1 ∷ [])).
    ⊎_elim
    (λ (yes : (nat_eq e.0 queue ≡ true) × (e.0 ≡ queue)).
    subst (λ (l : List Request). AreSomeOf l new) (sym (requests_there queue entries e yes.0))
    (subst (λ (l : List Request). AreSomeOf (requests_on queue entries ++ e.1 ∷ []) l) (sym w.1) (some_added (requests_on queue entries) old e.1 were)))
    (λ (no : (nat_eq e.0 queue ≡ false) × (e.0 ≢ queue)). absurd (no.1 w.0))
    (eqb_tells e.0 queue))

pub put_more : (entries : List (ℕ × Request)) (to : ℕ) (request : Request) (old new : List SubmitterState) → length new ≡ length old
    → AreSomePut entries old → MayPutOne to request old new → AreSomePut (entries ++ (to, request) ∷ []) new
put_more entries to request old new even were puts queue below =
    let low : queue < length old = subst (λ (n : ℕ). queue < n) even below in
    put_there queue entries (to, request) (submitter_at old queue).put (submitter_at new queue).put (were queue low) (puts queue low)
