-- What the queues were told, with one of them changed.
use Rattle.std.proofs.Common.{◌≡◌, ℕ, zero, suc, ◌+◌, ◌-◌, ◌<◌, ◌≤◌, List, [], ◌∷◌, ◌++◌, min, length, map, take, drop, replicate, get_or, set, arith, refl, sym, ◌∙◌, ap, subst}
use Rattle.std.proofs.lemmas.List.{map-set, get_or-map, get_or-set_same, drop-drop, take_min}
use Rattle.std.proofs.Math.Seq.{map-set_same}
use Rattle.gv_vm.specs.Outcomes.{with_outcome, told_to, forgotten_outcome}
use Rattle.gv_vm.specs.QueueOutcomes.{QueueOutcomesState, HasSlot}
use Rattle.gv_vm.specs.declared.outcome.Outcome.{Outcome}

abbrev pub list_of : QueueOutcomesState → List Outcome
list_of t = t.list

abbrev pub gone_of : QueueOutcomesState → ℕ
gone_of t = t.forgotten

-- one that has more room now
pub same_lists : (told : List QueueOutcomesState) (queue : ℕ) (t d : QueueOutcomesState) → t.list ≡ (get_or told queue d).list → map list_of (set told queue t) ≡ map list_of told
same_lists told queue t d same = map-set_same list_of told queue t d same

pub same_forgotten : (told : List QueueOutcomesState) (queue : ℕ) (t d : QueueOutcomesState) → t.forgotten ≡ (get_or told queue d).forgotten → map gone_of (set told queue t) ≡ map gone_of told
same_forgotten told queue t d same = map-set_same gone_of told queue t d same

pub room_there : (told : List QueueOutcomesState) (queue : ℕ) (t d : QueueOutcomesState) → queue < length told → HasSlot t → HasSlot (get_or (set told queue t) queue d)
room_there told queue t d less room = subst HasSlot (sym (get_or-set_same told queue t d less)) room

-- one with an outcome more
pub outcome_there : (told : List QueueOutcomesState) (queue : ℕ) (t d : QueueOutcomesState) (outcome : Outcome) → queue < length told →
    t.list ≡ (get_or told queue d).list ++ outcome ∷ [] → map list_of (set told queue t) ≡ with_outcome (map list_of told) queue outcome
outcome_there told queue t d outcome less is =
    map-set list_of told queue t
    ∙ ap (λ (xs : List Outcome). set (map list_of told) queue xs)
    (is ∙ ap (λ (xs : List Outcome). xs ++ outcome ∷ []) (sym (get_or-map list_of told queue d [] less)))

-- one of which the first outcomes are forgotten
pub list_forgotten : (told : List QueueOutcomesState) (queue to : ℕ) (t d : QueueOutcomesState) → queue < length told →
    t.list ≡ replicate to forgotten_outcome ++ drop to (get_or told queue d).list →
    map list_of (set told queue t) ≡ set (map list_of told) queue (replicate to forgotten_outcome ++ drop to (told_to (map list_of told) queue))
list_forgotten told queue to t d less is =
    map-set list_of told queue t
    ∙ ap (λ (xs : List Outcome). set (map list_of told) queue xs)
    (is ∙ ap (λ (xs : List Outcome). replicate to forgotten_outcome ++ drop to xs) (sym (get_or-map list_of told queue d [] less)))

pub count_forgotten : (told : List QueueOutcomesState) (queue to : ℕ) (t : QueueOutcomesState) → t.forgotten ≡ to → map gone_of (set told queue t) ≡ set (map gone_of told) queue to
count_forgotten told queue to t is = map-set gone_of told queue t ∙ ap (λ (k : ℕ). set (map gone_of told) queue k) is

-- so many more of those that stand are forgotten
drop_blanks : (first to : ℕ) (xs : List Outcome) → first ≤ to → drop to (replicate first forgotten_outcome ++ xs) ≡ drop (to - first) xs
drop_blanks zero to xs low = let less : to - 0 ≡ to = omega arith in ap (λ (k : ℕ). drop k xs) (sym less)
drop_blanks (suc first) zero xs low = absurd (omega (arith, low))
drop_blanks (suc first) (suc to) xs low =
    let less : suc to - suc first ≡ to - first = omega arith in
    drop_blanks first to xs (omega (arith, low)) ∙ ap (λ (k : ℕ). drop k xs) (sym less)

pub gone_more : (first gone to : ℕ) (xs : List Outcome) → first ≤ to →
    replicate to forgotten_outcome ++ drop (gone + (to - first)) xs ≡ replicate to forgotten_outcome ++ drop to (replicate first forgotten_outcome ++ drop gone xs)
gone_more first gone to xs low =
    ap (λ (ys : List Outcome). replicate to forgotten_outcome ++ ys)
    (sym (drop-drop (to - first) gone xs) ∙ sym (drop_blanks first to (drop gone xs) low))

-- those below a number: the forgotten ones, and the first of the others
pub take_blanks : (first to : ℕ) (xs : List Outcome) → take to (replicate first forgotten_outcome ++ xs) ≡ replicate (min to first) forgotten_outcome ++ take (to - first) xs
take_blanks zero to xs =
    let none : min to 0 ≡ 0 = omega arith in
    let less : to - 0 ≡ to = omega arith in
    rw (none, less) refl
take_blanks (suc first) zero xs =
    let none : min 0 (suc first) ≡ 0 = omega arith in
    let less : 0 - suc first ≡ 0 = omega arith in
    rw (none, less) refl
take_blanks (suc first) (suc to) xs =
    let more : min (suc to) (suc first) ≡ suc (min to first) = omega arith in
    let less : suc to - suc first ≡ to - first = omega arith in
    rw (more, less) (ap (λ (ys : List Outcome). forgotten_outcome ∷ ys) (take_blanks first to xs))

pub blanks_then_rest : (first to count : ℕ) (list rest xs : List Outcome) → list ≡ replicate first forgotten_outcome ++ xs → rest ≡ drop first list → count ≡ min (to - first) (length rest) →
    take to list ≡ replicate (min to first) forgotten_outcome ++ take count rest
blanks_then_rest first to count list rest xs list_is rest_is count_is =
    let none : first - first ≡ 0 = omega arith in
    let same : first ≤ first = omega arith in
    let own : rest ≡ xs = rest_is ∙ ap (λ (ys : List Outcome). drop first ys) list_is ∙ drop_blanks first first xs same ∙ ap (λ (k : ℕ). drop k xs) none in
    ap (λ (ys : List Outcome). take to ys) list_is ∙ take_blanks first to xs
    ∙ ap (λ (ys : List Outcome). replicate (min to first) forgotten_outcome ++ ys)
    (ap (λ (ys : List Outcome). take (to - first) ys) (sym own) ∙ sym (take_min (to - first) rest) ∙ ap (λ (k : ℕ). take k rest) (sym count_is))
