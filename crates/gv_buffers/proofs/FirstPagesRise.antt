-- The pages at which the mappings of a buffer begin: where one comes between the others, and what is left once one has left.
use Rattle.std.proofs.Common.{◌≡◌, ◌≢◌, ℕ, zero, suc, ◌<◌, ◌≤◌, List, [], ◌∷◌, length, get_or, true, false, ◌&&◌, cond, eqb, nat_lt, take, drop, arith, refl, sym, ap, subst, ◌∙◌, ⊎_elim, Ok, Err, IsOk, OnOk}
use Rattle.std.specs.List.{All, insert, remove}
use Rattle.std.specs.List.Sorted.{IsBinarySearchResult, IsPartitionedBy, IsPartitionPoint}
use Rattle.std.specs.Ordering.{nat_cmp}
use Rattle.std.specs.declared.result.Result.{Result}
use Rattle.std.proofs.lemmas.Bool.{eq-eqb, ne_eqb, lt-ltb, le-ltb, ltb-true, ltb-false, cases_lt, false≢true}
use Rattle.std.proofs.lemmas.List.{get_or_default}
use Rattle.std.proofs.lemmas.List.Elements.{All-cons, All-append, All-take, All-drop}
use Rattle.std.proofs.lemmas.List.Folds.{list_any_none, list_any_at}
use Rattle.std.proofs.lemmas.List.Kept.{AllPairs-cons}
use Rattle.std.proofs.lemmas.List.Sorted.{searched, IsPartitionedBy-ltb, IsNonDecreasingBy-from_default}
use Rattle.gv_buffers.specs.FirstPages.{FirstPagesState, AreRising, most_first_pages, is_among, count_lower, page_added, page_removed}

-- a page stands at the index
pub record IsPageAt (pages : List ℕ) (page index : ℕ) : Type 0 where
  pub within : index < length pages
  pub here : get_or pages index 0 ≡ page

-- the pages before the index are lower than this one, and those from it on are not
pub record IsGap (pages : List ℕ) (page index : ℕ) : Type 0 where
  pub within : index ≤ length pages
  pub lower : (k : ℕ) → k < index → get_or pages k 0 < page
  pub higher : (k : ℕ) → index ≤ k → k < length pages → page ≤ get_or pages k 0

rising_tail : (x : ℕ) (pages : List ℕ) → AreRising (x ∷ pages) → AreRising pages
rising_tail x pages up i j d below within = up (suc i) (suc j) d (omega arith) (omega arith)

-- the first page is above none behind it
first_lowest : (x : ℕ) (pages : List ℕ) → AreRising (x ∷ pages) → All (λ b. x ≤ b) pages
first_lowest x pages up k d within = up 0 (suc k) d (omega arith) (omega arith)

gap_tail : (x : ℕ) (pages : List ℕ) (page index : ℕ) → IsGap (x ∷ pages) page (suc index) → IsGap pages page index
gap_tail x pages page index gap =
    record {
      within = omega (arith, gap.within);
      lower = λ k less. gap.lower (suc k) (omega arith);
      higher = λ k past within. gap.higher (suc k) (omega arith) (omega arith);
    }

-- where no page is lower, none of the others is
gap_behind : (x : ℕ) (pages : List ℕ) (page : ℕ) → IsGap (x ∷ pages) page 0 → IsGap pages page 0
gap_behind x pages page gap =
    record {
      within = omega arith;
      lower = λ k less. absurd (omega arith);
      higher = λ k past within. gap.higher (suc k) (omega arith) (omega arith);
    }

all_higher : (pages : List ℕ) (page : ℕ) → IsGap pages page 0 → All (λ b. page ≤ b) pages
all_higher pages page gap k d within = rw (get_or_default pages k d 0 within) (gap.higher k (omega arith) within)

-- the gap is behind as many pages as are lower
count_lower_gap : (pages : List ℕ) (page index : ℕ) → IsGap pages page index → count_lower page pages ≡ index
count_lower_gap [] page zero gap = refl
count_lower_gap [] page (suc index) gap = absurd (omega (arith, gap.within))
count_lower_gap (x ∷ pages) page zero gap =
    let past : nat_lt x page ≡ false = le-ltb _ _ (omega (arith, gap.higher 0 (omega arith) (omega arith))) in
    rw past (count_lower_gap pages page 0 (gap_behind x pages page gap))
count_lower_gap (x ∷ pages) page (suc index) gap =
    let below : nat_lt x page ≡ true = lt-ltb _ _ (gap.lower 0 (omega arith)) in
    rw below (ap suc (count_lower_gap pages page index (gap_tail x pages page index gap)))

-- a page that comes into its gap leaves the pages rising
pub rising_inserted : (pages : List ℕ) (page index : ℕ) → AreRising pages → IsGap pages page index → AreRising (insert pages index page)
rising_inserted [] page zero up gap = AllPairs-cons (λ a b. a ≤ b) page [] (all_higher [] page gap) up
rising_inserted [] page (suc index) up gap = absurd (omega (arith, gap.within))
rising_inserted (x ∷ pages) page zero up gap = AllPairs-cons (λ a b. a ≤ b) page (x ∷ pages) (all_higher (x ∷ pages) page gap) up
rising_inserted (x ∷ pages) page (suc index) up gap =
    let above : All (λ b. x ≤ b) pages = first_lowest x pages up in
    AllPairs-cons (λ a b. a ≤ b) x (insert pages index page)
    (All-append (λ b. x ≤ b) (take index pages) (page ∷ drop index pages) (All-take (λ b. x ≤ b) index pages above)
    (All-cons (λ b. x ≤ b) page (drop index pages) (omega (arith, gap.lower 0 (omega arith))) (All-drop (λ b. x ≤ b) index pages above)))
    (rising_inserted pages page index (rising_tail x pages up) (gap_tail x pages page index gap))

among_at : (pages : List ℕ) (page index : ℕ) → IsPageAt pages page index → is_among page pages ≡ true
among_at pages page index at = list_any_at (λ other. eqb other page) pages index 0 at.within (eq-eqb _ _ at.here)

-- the pages are known, and there is room for one more
pub record HaveRoom (first_pages : FirstPagesState) : Type 0 where
  pub few : first_pages.count < most_first_pages
  pub known : length first_pages.pages ≡ first_pages.count
  pub room : first_pages.count < first_pages.room

-- a page that comes into its gap is added
pub placed_in_gap : (page index : ℕ) (first_pages : FirstPagesState) → HaveRoom first_pages → IsGap first_pages.pages page index →
    insert first_pages.pages index page ≡ (page_added page first_pages).pages
placed_in_gap page index first_pages have gap =
    let few : nat_lt first_pages.count 64 ≡ true = lt-ltb _ _ have.few in
    let known : eqb (length first_pages.pages) first_pages.count ≡ true = eq-eqb _ _ have.known in
    let room : nat_lt first_pages.count first_pages.room ≡ true = lt-ltb _ _ have.room in
    rw (few, known, room, count_lower_gap first_pages.pages page index gap) refl

none_lower : (pages : List ℕ) (page : ℕ) → All (λ b. page ≤ b) pages → count_lower page pages ≡ 0
none_lower [] page above = refl
none_lower (x ∷ pages) page above =
    let past : nat_lt x page ≡ false = le-ltb _ _ (above 0 x (omega arith)) in
    rw past (none_lower pages page (λ k d within. above (suc k) d (omega arith)))

not_falling : (pages : List ℕ) → AreRising pages → (i j : ℕ) → i ≤ j → j < length pages → get_or pages i 0 ≤ get_or pages j 0
not_falling pages up i j le within = grind (arith, up i j 0, λ (same : i ≡ j). ap (λ (k : ℕ). get_or pages k 0) same)

put_back : (x : ℕ) (pages : List ℕ) → 0 < length pages → get_or pages 0 0 ≡ x → x ∷ drop 1 pages ≡ pages
put_back x [] some first = absurd (omega (arith, some))
put_back x (y ∷ pages) some first = ap (λ (z : ℕ). z ∷ pages) (sym first)

-- to remove a page at one index of several is to remove the first of them
removed_is_first : (pages : List ℕ) (page index : ℕ) → AreRising pages → IsPageAt pages page index →
    remove pages index ≡ remove pages (count_lower page pages)
removed_is_first [] page index up at = absurd (omega (arith, at.within))
removed_is_first (x ∷ pages) page zero up at =
    let past : nat_lt x page ≡ false = le-ltb _ _ (omega (arith, at.here)) in
    rw (past, none_lower pages page (λ k d within. omega (arith, first_lowest x pages up k d within, at.here))) refl
removed_is_first (x ∷ pages) page (suc index) up at =
    let behind : IsPageAt pages page index = record { within = omega (arith, at.within); here = at.here } in
    let rest = removed_is_first pages page index (rising_tail x pages up) behind in
    ⊎_elim
    (λ (lower : x < page). let below : nat_lt x page ≡ true = lt-ltb _ _ lower in rw below (ap (λ (ps : List ℕ). x ∷ ps) rest))
    (λ (higher : page ≤ x).
    let past : nat_lt x page ≡ false = le-ltb _ _ higher in
    let above : All (λ b. x ≤ b) pages = first_lowest x pages up in
    let none : count_lower page pages ≡ 0 = none_lower pages page (λ k d within. omega (arith, above k d within, higher)) in
    let some : 0 < length pages = omega (arith, behind.within) in
    let low : get_or pages 0 0 ≤ get_or pages index 0 = not_falling pages (rising_tail x pages up) 0 index (omega arith) behind.within in
    let first : get_or pages 0 0 ≡ x = omega (arith, low, behind.here, above 0 0 some, above index 0 behind.within, higher) in
    let drops : remove pages index ≡ drop 1 pages = rest ∙ rw none refl in
    rw (past, none, drops) (put_back x pages some first))
    (cases_lt x page)

-- a page that is removed where all are known is removed
pub displaced_at : (page index : ℕ) (first_pages : FirstPagesState) → AreRising first_pages.pages → length first_pages.pages ≡ first_pages.count →
    IsPageAt first_pages.pages page index → remove first_pages.pages index ≡ (page_removed page first_pages).pages
displaced_at page index first_pages up all at =
    let known : eqb (length first_pages.pages) first_pages.count ≡ true = eq-eqb _ _ all in
    rw (known, among_at first_pages.pages page index at) (removed_is_first first_pages.pages page index up at)

-- where not all are known, none is from here on
pub displaced_unknown : (page : ℕ) (first_pages : FirstPagesState) → length first_pages.pages ≢ first_pages.count → [] ≡ (page_removed page first_pages).pages
displaced_unknown page first_pages other =
    let unknown : eqb (length first_pages.pages) first_pages.count ≡ false = ne_eqb _ _ other in
    rw unknown refl

-- nor where the page is none of them
pub displaced_missing : (page : ℕ) (first_pages : FirstPagesState) → is_among page first_pages.pages ≡ false → [] ≡ (page_removed page first_pages).pages
displaced_missing page first_pages missing =
    rw missing
    (elim (eqb (length first_pages.pages) first_pages.count) as
    (λ t. [] ≡ cond (t && false) (remove first_pages.pages (count_lower page first_pages.pages)) [])
    [ true ↦ refl | false ↦ refl ])

-- what a binary search of the pages says
pub page_found : (seen pages : List ℕ) (page index : ℕ) → seen ≡ pages → AreRising pages →
    IsBinarySearchResult (λ y. nat_cmp y page) seen (Ok index) → IsPageAt pages page index
page_found seen pages page index same up found =
    let here = subst (λ (ps : List ℕ). IsBinarySearchResult (λ y. nat_cmp y page) ps (Ok index)) same found in
    let at = searched pages page (Ok index) here (not_falling pages up) in
    record { within = at.0; here = at.1 }

pub page_missed : (seen pages : List ℕ) (page index : ℕ) → seen ≡ pages → AreRising pages →
    IsBinarySearchResult (λ y. nat_cmp y page) seen (Err index) → is_among page pages ≡ false
page_missed seen pages page index same up missed =
    let here = subst (λ (ps : List ℕ). IsBinarySearchResult (λ y. nat_cmp y page) ps (Err index)) same missed in
    let at = searched pages page (Err index) here (not_falling pages up) in
    list_any_none (λ other. eqb other page) pages
    (λ k d within. ne_eqb _ _ (λ same.
    let here : get_or pages k 0 ≡ page = get_or_default pages k 0 d within ∙ same in
    let lower : k < index → get_or pages k 0 < page = at.1 k in
    let higher : index ≤ k → page < get_or pages k 0 = (λ past. at.2 k past within) in
    grind (arith, here, lower, higher)))

-- the pages part where a test for those that are lower does
lower_are_first : (pages : List ℕ) (page : ℕ) → AreRising pages → IsPartitionedBy (λ y. nat_lt y page) pages
lower_are_first pages page up =
    IsPartitionedBy-ltb (λ (y : ℕ). y) pages page (IsNonDecreasingBy-from_default (λ (y : ℕ). y) pages 0 (not_falling pages up))

pub gap_found : (seen pages : List ℕ) (page index : ℕ) → seen ≡ pages → AreRising pages → index ≤ length seen →
    (IsPartitionedBy (λ y. nat_lt y page) seen → IsPartitionPoint (λ y. nat_lt y page ≡ true) (λ y. nat_lt y page ≡ false) seen index) →
    IsGap pages page index
gap_found seen pages page index same up within parts =
    let parted = parts (lower_are_first seen page (subst AreRising (sym same) up)) in
    subst (λ (ps : List ℕ). IsGap ps page index) same (record {
      within = within;
      lower = λ k less. ltb-true _ _ (parted.0 k 0 (omega arith) less);
      higher = λ k past inside. ltb-false _ _ (parted.1 k 0 past inside);
    })

-- what holds of a result that is one holds
pub of_ok : {T E : Type 0} (P : Type 0) (r : Result T E) → IsOk r → OnOk r P → P
of_ok P (Ok x) ok holds = holds
of_ok P (Err e) ok holds = absurd (false≢true ok)
