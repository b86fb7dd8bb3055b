-- How many mappings of a list are of a buffer.
use Rattle.std.proofs.Common.{◌≡◌, ℕ, ◌+◌, ◌<◌, ◌≤◌, List, ◌++◌, length, get_or, take, drop, true, cond, not, eqb, arith, refl, sym, ◌∙◌, ap, ⊎_elim, length-append, take-append-drop, drop-drop, [], ◌∷◌, false}
use Rattle.std.specs.List.{All, filter, splice}
use Rattle.std.proofs.lemmas.Bool.{and_parts, eqb-true, cases_eq, ne_eqb, eq-eqb}
use Rattle.std.proofs.lemmas.List.Elements.{filter-append, All-nil, All-cons, All-head, All-tail}
use Rattle.std.proofs.lemmas.List.Filters.{length-filter_both, length-filter_more}
use Rattle.gv_types.specs.Mapping.{is_same_id, is_of}
use Rattle.gv_types.specs.declared.mapping.BufferId.{BufferId}
use Rattle.gv_types.specs.declared.mapping.Mapping.{Mapping}
use Rattle.gv_ranges.specs.List.{run}
use Rattle.gv_space.specs.Counts.{count_of}

eqb-symmetric : (a b : ℕ) → eqb a b ≡ eqb b a
eqb-symmetric a b =
    ⊎_elim (λ same. eq-eqb a b same ∙ sym (eq-eqb b a (sym same))) (λ apart. ne_eqb a b apart ∙ sym (ne_eqb b a (λ same. apart (sym same)))) (cases_eq a b)

-- an id is another's just where the other is its own
pub is_same_id-symmetric : (a b : BufferId) → is_same_id a b ≡ is_same_id b a
is_same_id-symmetric a b = rw (eqb-symmetric a.index b.index, eqb-symmetric a.generation b.generation) refl

-- one after another
pub count_of-append : (id : BufferId) (xs ys : List Mapping) → count_of id (xs ++ ys) ≡ count_of id xs + count_of id ys
count_of-append id xs ys =
    ap (λ (ms : List Mapping). length ms) (filter-append (λ m. is_of id m.backing) xs ys)
    ∙ length-append (filter (λ m. is_of id m.backing) xs) (filter (λ m. is_of id m.backing) ys)

-- no more than the list has
pub count_of-le-length : (id : BufferId) (ms : List Mapping) → count_of id ms ≤ length ms
count_of-le-length id ms = omega (arith, length-filter_both (λ (m : Mapping). is_of id m.backing) (λ m. not (is_of id m.backing)) (λ _. refl) ms)

-- one mapping more
pub count_of-more : (id : BufferId) (ms : List Mapping) (i : ℕ) (m : Mapping) → i < length ms →
    count_of id (take (i + 1) ms) ≡ count_of id (take i ms) + cond (is_of id (get_or ms i m).backing) 1 0
count_of-more id ms i m within = length-filter_more (λ m. is_of id m.backing) ms i m within

-- a front of the list and the rest
pub count_of-front : (id : BufferId) (ms : List Mapping) (i : ℕ) → count_of id (take i ms) + count_of id (drop i ms) ≡ count_of id ms
count_of-front id ms i =
    sym (count_of-append id (take i ms) (drop i ms)) ∙ ap (λ (xs : List Mapping). count_of id xs) (take-append-drop i ms)

-- before a mapping of the buffer there are fewer of it than in the whole list
pub count_of-front_lt : (id : BufferId) (ms : List Mapping) (i : ℕ) (m : Mapping) → i < length ms → m ≡ get_or ms i m → is_of id m.backing ≡ true →
    count_of id (take i ms) < count_of id ms
count_of-front_lt id ms i m within is of =
    let here : is_of id (get_or ms i m).backing ≡ true = rw (← is) of in
    let more : count_of id (take (i + 1) ms) ≡ count_of id (take i ms) + 1 = rw here at (count_of-more id ms i m within) in
    omega (arith, more, count_of-front id ms (i + 1))

-- a run and what lies around it
pub count_of-around : (id : BufferId) (ms : List Mapping) (index count : ℕ) →
    count_of id (take index ms) + count_of id (run ms index count) + count_of id (drop (index + count) ms) ≡ count_of id ms
count_of-around id ms index count =
    let rest : count_of id (drop count (drop index ms)) ≡ count_of id (drop (index + count) ms) = ap (λ (xs : List Mapping). count_of id xs) (drop-drop count index ms) in
    omega (arith, count_of-front id ms index, count_of-front id (drop index ms) count, rest)

-- what a splice takes out and puts in
pub count_of-splice : (id : BufferId) (ms pieces : List Mapping) (index count : ℕ) →
    count_of id (splice ms index (index + count) pieces) + count_of id (run ms index count) ≡ count_of id ms + count_of id pieces
count_of-splice id ms pieces index count =
    let outer = count_of-append id (take index ms) (pieces ++ drop (index + count) ms) in
    let inner = count_of-append id pieces (drop (index + count) ms) in
    omega (arith, outer, inner, count_of-around id ms index count)

-- a run has no more than the whole list
pub count_of-run-le : (id : BufferId) (ms : List Mapping) (index count : ℕ) → count_of id (run ms index count) ≤ count_of id ms
count_of-run-le id ms index count = omega (arith, count_of-around id ms index count)

-- two ids with the same numbers
pub same_from_is_same_id : (a b : BufferId) → is_same_id a b ≡ true → a ≡ b
same_from_is_same_id a b same =
    let parts = and_parts (eqb a.index b.index) (eqb a.generation b.generation) same in
    ap (λ (n : ℕ). record { index = n; generation = a.generation }) (eqb-true _ _ parts.0)
    ∙ ap (λ (n : ℕ). record { index = b.index; generation = n }) (eqb-true _ _ parts.1)

-- a list in which no mapping is of the buffer
pub count_of-none : (id : BufferId) (ms : List Mapping) → All (λ m. is_of id m.backing ≡ false) ms → count_of id ms ≡ 0
count_of-none id [] none = refl
count_of-none id (m ∷ ms) none =
    let head : is_of id m.backing ≡ false = All-head (λ x. is_of id x.backing ≡ false) m ms none in
    rw head (count_of-none id ms (All-tail (λ x. is_of id x.backing ≡ false) m ms none))

pub none_from_count_of : (id : BufferId) (ms : List Mapping) → count_of id ms ≡ 0 → All (λ m. is_of id m.backing ≡ false) ms
none_from_count_of id [] none = All-nil (λ m. is_of id m.backing ≡ false)
none_from_count_of id (m ∷ ms) none =
    elim (is_of id m.backing) as (λ t. is_of id m.backing ≡ t → length (cond t (m ∷ filter (λ x. is_of id x.backing) ms) (filter (λ x. is_of id x.backing) ms)) ≡ 0 → All (λ x. is_of id x.backing ≡ false) (m ∷ ms)) [
      | true ↦ (λ _ h. absurd (omega (arith, h)))
      | false ↦ (λ e h. All-cons (λ x. is_of id x.backing ≡ false) m ms e (none_from_count_of id ms h))
    ] refl none
