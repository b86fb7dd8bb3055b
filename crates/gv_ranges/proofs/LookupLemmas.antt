-- What a list in order holds at a page, found by its index.
use Rattle.std.proofs.Common.{◌≡◌, ℕ, zero, suc, ◌+◌, ◌-◌, ◌≤◌, ◌<◌, length, take, drop, List, [], ◌∷◌, true, false, cond, arith, refl, ◌∙◌, get_or, leb, ltb, ⊎_elim, ◌&&◌, Some, None}
use Rattle.std.proofs.lemmas.Bool.{lt-leb, le-leb, lt-ltb, le-ltb, and_from, cases_lt}
use Rattle.std.proofs.lemmas.List.{length-take-le, length-drop, get_or-take, get_or-drop}
use Rattle.std.proofs.lemmas.List.Elements.{All-from_get_or, All-get_or, All-head, All-tail}
use Rattle.std.specs.List.{All}
use Rattle.std.specs.List.Sorted.{IsNonDecreasingBy}
use Rattle.gv_types.specs.Page.{PAGES}
use Rattle.gv_types.specs.PageRange.{PageRangeState, end_of, meets, IsInSpace}
use Rattle.gv_types.specs.Mapping.{part, IsMapping}
use Rattle.gv_types.specs.declared.mapping.Mapping.{Mapping}
use Rattle.gv_ranges.specs.List.{at, IsLaidOutFrom, run}

-- nothing lies below the first page of a list
pub at_below : (ms : List Mapping) (low page : ℕ) → IsLaidOutFrom low ms → page < low → at ms page ≡ None
at_below [] low page laid below = refl
at_below (m ∷ ms) low page laid below =
    let rest : at ms page ≡ None = at_below ms (end_of m.range) page laid.2 (omega arith) in
    let above : leb m.range.first page ≡ false = lt-leb _ _ (omega arith) in
    rw above rest

-- the first mapping that ends past a page decides what the page holds
pub at_index : (ms : List Mapping) (low page : ℕ) (i : ℕ) (d : Mapping) → IsLaidOutFrom low ms → i ≤ length ms →
    ((k : ℕ) → k < i → end_of (get_or ms k d).range ≤ page) → at ms page ≡ at (drop i ms) page
at_index ms low page zero d laid within before = refl
at_index [] low page (suc i) d laid within before = refl
at_index (m ∷ ms) low page (suc i) d laid within before =
    let past : ltb page (end_of m.range) ≡ false = le-ltb _ _ (before 0 (omega arith)) in
    let rest : at ms page ≡ at (drop i ms) page = at_index ms (end_of m.range) page i d laid.2 (omega arith) (λ k below. before (suc k) (omega arith)) in
    elim (leb m.range.first page) as (λ b. cond (b && ltb page (end_of m.range)) (Some (part m page)) (at ms page) ≡ at (drop i ms) page)
    [ true ↦ rw past rest | false ↦ rest ]

-- an element of a list in order is a mapping
pub is_mapping : (ms : List Mapping) (low i : ℕ) (d : Mapping) → IsLaidOutFrom low ms → i < length ms → IsMapping (get_or ms i d)
is_mapping [] low i d laid within = absurd (omega arith)
is_mapping (m ∷ ms) low zero d laid within = laid.1
is_mapping (m ∷ ms) low (suc i) d laid within = is_mapping ms (end_of m.range) i d laid.2 (omega arith)

-- each element begins at the list's first page or later
pub first_above : (ms : List Mapping) (low i : ℕ) (d : Mapping) → IsLaidOutFrom low ms → i < length ms → low ≤ (get_or ms i d).range.first
first_above [] low i d laid within = absurd (omega arith)
first_above (m ∷ ms) low zero d laid within = laid.0
first_above (m ∷ ms) low (suc i) d laid within =
    let rest : end_of m.range ≤ (get_or ms i d).range.first = first_above ms (end_of m.range) i d laid.2 (omega arith) in omega arith

-- the mappings begin in ascending order
pub firsts_rise : (ms : List Mapping) (low : ℕ) → IsLaidOutFrom low ms → IsNonDecreasingBy (λ m. m.range.first) ms
firsts_rise [] low laid i j d up within = absurd (omega arith)
firsts_rise (m ∷ ms) low laid zero zero d up within = omega arith
firsts_rise (m ∷ ms) low laid zero (suc j) d up within =
    let rest : end_of m.range ≤ (get_or ms j d).range.first = first_above ms (end_of m.range) j d laid.2 (omega arith) in omega arith
firsts_rise (m ∷ ms) low laid (suc i) zero d up within = absurd (omega arith)
firsts_rise (m ∷ ms) low laid (suc i) (suc j) d up within = firsts_rise ms (end_of m.range) laid.2 i j d (omega arith) (omega arith)

-- and they end in ascending order
pub ends_rise : (ms : List Mapping) (low : ℕ) → IsLaidOutFrom low ms → IsNonDecreasingBy (λ m. end_of m.range) ms
ends_rise [] low laid i j d up within = absurd (omega arith)
ends_rise (m ∷ ms) low laid zero zero d up within = omega arith
ends_rise (m ∷ ms) low laid zero (suc j) d up within =
    let rest : end_of m.range ≤ (get_or ms j d).range.first = first_above ms (end_of m.range) j d laid.2 (omega arith) in
    omega arith
ends_rise (m ∷ ms) low laid (suc i) zero d up within = absurd (omega arith)
ends_rise (m ∷ ms) low laid (suc i) (suc j) d up within = ends_rise ms (end_of m.range) laid.2 i j d (omega arith) (omega arith)

-- a mapping that ends at a page or before it says nothing of the page
pub at_skip : (m : Mapping) (ms : List Mapping) (page : ℕ) → end_of m.range ≤ page → at (m ∷ ms) page ≡ at ms page
at_skip m ms page ended =
    let past : ltb page (end_of m.range) ≡ false = le-ltb _ _ ended in
    elim (leb m.range.first page) as (λ b. cond (b && ltb page (end_of m.range)) (Some (part m page)) (at ms page) ≡ at ms page)
    [ true ↦ rw past refl | false ↦ refl ]

-- the first mapping that ends past a page, where it begins at the page or before it
pub at_found : (ms : List Mapping) (page i : ℕ) (d : Mapping) → i < length ms →
    ((k : ℕ) → k < i → end_of (get_or ms k d).range ≤ page) → (get_or ms i d).range.first ≤ page → page < end_of (get_or ms i d).range →
    at ms page ≡ Some (part (get_or ms i d) page)
at_found [] page i d within before begun ends = absurd (omega arith)
at_found (m ∷ ms) page zero d within before begun ends =
    let low : leb m.range.first page ≡ true = le-leb _ _ begun in
    let high : ltb page (end_of m.range) ≡ true = lt-ltb _ _ ends in
    rw (low, high) refl
at_found (m ∷ ms) page (suc i) d within before begun ends =
    at_skip m ms page (before 0 (omega arith)) ∙ at_found ms page i d (omega arith) (λ k below. before (suc k) (omega arith)) begun ends

-- the same where it begins behind the page
pub at_gap : (ms : List Mapping) (low page i : ℕ) (d : Mapping) → IsLaidOutFrom low ms → i < length ms →
    ((k : ℕ) → k < i → end_of (get_or ms k d).range ≤ page) → page < (get_or ms i d).range.first → at ms page ≡ None
at_gap [] low page i d laid within before behind = refl
at_gap (m ∷ ms) low page zero d laid within before behind = at_below (m ∷ ms) m.range.first page (omega arith, laid.1, laid.2) behind
at_gap (m ∷ ms) low page (suc i) d laid within before behind =
    at_skip m ms page (before 0 (omega arith)) ∙ at_gap ms (end_of m.range) page i d laid.2 (omega arith) (λ k below. before (suc k) (omega arith)) behind

-- the same where no mapping ends past the page
pub at_none : (ms : List Mapping) (page : ℕ) → All (λ m. end_of m.range ≤ page) ms → at ms page ≡ None
at_none [] page before = refl
at_none (m ∷ ms) page before =
    at_skip m ms page (All-head (λ (m : Mapping). end_of m.range ≤ page) m ms before) ∙
    at_none ms page (All-tail (λ (m : Mapping). end_of m.range ≤ page) m ms before)

-- what ends before a range stands before what begins behind it
pub ended_before_begun : (ms : List Mapping) (low : ℕ) (range : PageRangeState) (index behind : ℕ) → IsLaidOutFrom low ms → IsInSpace range →
    index ≤ length ms → behind ≤ length ms →
    All (λ m. end_of m.range ≤ range.first) (take index ms) → All (λ m. end_of range ≤ m.range.first) (drop behind ms) → index ≤ behind
ended_before_begun [] low range index behind laid some within within' ended later = omega arith
ended_before_begun (n ∷ ns) low range index behind laid some within within' ended later =
    ⊎_elim (λ less.
    let m : Mapping = get_or (n ∷ ns) behind n in
    let is : IsMapping m = is_mapping (n ∷ ns) low behind n laid (omega arith) in
    let ends : end_of (get_or (take index (n ∷ ns)) behind n).range ≤ range.first = All-get_or (λ (m : Mapping). end_of m.range ≤ range.first) _ behind n (omega (arith, length-take-le index (n ∷ ns) within)) ended in
    let ends' : end_of m.range ≤ range.first = rw (get_or-take index (n ∷ ns) behind n less) at ends in
    let begins : end_of range ≤ (get_or (drop behind (n ∷ ns)) 0 n).range.first = All-get_or (λ (m : Mapping). end_of range ≤ m.range.first) _ 0 n (omega (arith, length-drop behind (n ∷ ns))) later in
    let begins' : end_of range ≤ (get_or (n ∷ ns) (behind + 0) n).range.first = rw (get_or-drop behind (n ∷ ns) 0 n) at begins in
    let same : behind + 0 ≡ behind = omega arith in
    let begins'' : end_of range ≤ m.range.first = rw same at begins' in
    absurd (omega (arith, is.0, ends', begins'', some)))
    (λ h. h)
    (cases_lt behind index)

-- the mappings between the two indices meet the range
pub run_meets : (ms : List Mapping) (range : PageRangeState) (index behind : ℕ) → index ≤ behind → behind ≤ length ms →
    All (λ m. range.first < end_of m.range) (drop index ms) → All (λ m. m.range.first < end_of range) (take behind ms) →
    All (λ m. meets m.range range ≡ true) (run ms index (behind - index))
run_meets [] range index behind up within after' before' =
    let none : behind - index ≡ 0 = omega arith in rw none (λ k d below. absurd (omega arith))
run_meets (n ∷ ns) range index behind up within after' before' =
    All-from_get_or (λ (m : Mapping). meets m.range range ≡ true) (run (n ∷ ns) index (behind - index)) n (λ k below.
    let less : k < behind - index = omega (arith, length-take-le (behind - index) (drop index (n ∷ ns)) (omega (arith, length-drop index (n ∷ ns)))) in
    let a : range.first < end_of (get_or (drop index (n ∷ ns)) k n).range = All-get_or (λ (m : Mapping). range.first < end_of m.range) _ k n (omega (arith, length-drop index (n ∷ ns))) after' in
    let b : (get_or (take behind (n ∷ ns)) (index + k) n).range.first < end_of range = All-get_or (λ (m : Mapping). m.range.first < end_of range) _ (index + k) n (omega (arith, length-take-le behind (n ∷ ns) within)) before' in
    let a' : range.first < end_of (get_or (n ∷ ns) (index + k) n).range = rw (get_or-drop index (n ∷ ns) k n) at a in
    let b' : (get_or (n ∷ ns) (index + k) n).range.first < end_of range = rw (get_or-take behind (n ∷ ns) (index + k) n (omega arith)) at b in
    let is : get_or (run (n ∷ ns) index (behind - index)) k n ≡ get_or (n ∷ ns) (index + k) n = get_or-take _ _ k n less ∙ get_or-drop index (n ∷ ns) k n in
    rw is (and_from _ _ (lt-ltb _ _ b') (lt-ltb _ _ a')))

-- nothing lies past the end of the address space
pub at_past : (ms : List Mapping) (low page : ℕ) → IsLaidOutFrom low ms → PAGES ≤ page → at ms page ≡ None
at_past [] low page laid past = refl
at_past (m ∷ ms) low page laid past = at_skip m ms page (omega arith) ∙ at_past ms (end_of m.range) page laid.2 past

-- a mapping ends before a later one begins
pub end_before_first : (ms : List Mapping) (low i j : ℕ) (d : Mapping) → IsLaidOutFrom low ms → i < j → j < length ms →
    end_of (get_or ms i d).range ≤ (get_or ms j d).range.first
end_before_first [] low i j d laid less within = absurd (omega arith)
end_before_first (m ∷ ms) low i zero d laid less within = absurd (omega arith)
end_before_first (m ∷ ms) low zero (suc j) d laid less within = first_above ms (end_of m.range) j d laid.2 (omega arith)
end_before_first (m ∷ ms) low (suc i) (suc j) d laid less within = end_before_first ms (end_of m.range) i j d laid.2 (omega arith) (omega arith)
