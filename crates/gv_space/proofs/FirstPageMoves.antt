-- Where the mappings of a list begin, by the index of their buffers, as mappings come and leave.
use Rattle.std.proofs.Common.{◌≡◌, ◌≢◌, ℕ, ◌<◌, ◌≤◌, List, [], ◌∷◌, ◌++◌, map, filter, get_or, true, false, eqb, arith, refl, sym, ◌∙◌, ap, subst}
use Rattle.std.specs.List.{All}
use Rattle.std.proofs.lemmas.Bool.{eq-eqb, eqb-true, ne_eqb, false≢true}
use Rattle.std.proofs.lemmas.List.{map-append}
use Rattle.std.proofs.lemmas.List.Elements.{All-nil, All-cons, All-map, All-filter, filter-append}
use Rattle.gv_types.specs.PageRange.{end_of}
use Rattle.gv_types.specs.declared.mapping.Backing.TheVariants.{Buffer, Zero}
use Rattle.gv_types.specs.declared.mapping.BufferId.{BufferId}
use Rattle.gv_types.specs.declared.mapping.Mapping.{Mapping}
use Rattle.gv_ranges.specs.List.{IsLaidOut, IsLaidOutFrom}
use Rattle.gv_ranges.proofs.RestLemmas.{laid_out_lower}
use Rattle.gv_buffers.specs.FirstPages.{FirstPagesState, IsRowOf, page_added, page_removed, first_pages_at, AreSameElsewhere}
use Rattle.gv_buffers.proofs.FirstPageLemmas.{page_added_between, page_removed_between}
use Rattle.gv_space.specs.ListFirstPages.{has_index, firsts_of, AreFirstPages}

-- a mapping behind others begins no lower than they may
first_behind : (xs : List Mapping) (m : Mapping) (ys : List Mapping) (low : ℕ) → IsLaidOutFrom low (xs ++ m ∷ ys) → low ≤ m.range.first
first_behind [] m ys low laid = laid.0
first_behind (x ∷ xs) m ys low laid =
    let above : end_of x.range ≤ m.range.first = first_behind xs m ys (end_of x.range) laid.2 in
    let first : low ≤ x.range.first = laid.0 in
    omega (arith, above, first)

begin_before : (xs : List Mapping) (m : Mapping) (ys : List Mapping) (low : ℕ) → IsLaidOutFrom low (xs ++ m ∷ ys) → All (λ x. x.range.first < m.range.first) xs
begin_before [] m ys low laid = All-nil (λ x. x.range.first < m.range.first)
begin_before (x ∷ xs) m ys low laid =
    let above : end_of x.range ≤ m.range.first = first_behind xs m ys (end_of x.range) laid.2 in
    let some : 0 < x.range.count = laid.1.0.0 in
    All-cons (λ y. y.range.first < m.range.first) x xs (omega (arith, above, some)) (begin_before xs m ys (end_of x.range) laid.2)

pub all_above : (ys : List Mapping) (low : ℕ) → IsLaidOutFrom low ys → All (λ y. low ≤ y.range.first) ys
all_above [] low laid = All-nil (λ y. low ≤ y.range.first)
all_above (y ∷ ys) low laid =
    let first : low ≤ y.range.first = laid.0 in
    All-cons (λ z. low ≤ z.range.first) y ys first
    (λ k d within. (let above : end_of y.range ≤ (get_or ys k d).range.first = all_above ys (end_of y.range) laid.2 k d within in omega (arith, above, first)))

begin_behind : (xs : List Mapping) (m : Mapping) (ys : List Mapping) (low : ℕ) → IsLaidOutFrom low (xs ++ m ∷ ys) → All (λ y. m.range.first < y.range.first) ys
begin_behind [] m ys low laid =
    let some : 0 < m.range.count = laid.1.0.0 in
    λ k d within. (let above : end_of m.range ≤ (get_or ys k d).range.first = all_above ys (end_of m.range) laid.2 k d within in omega (arith, above, some))
begin_behind (x ∷ xs) m ys low laid = begin_behind xs m ys (end_of x.range) laid.2

-- a list in order stays so without some in its middle
laid_out-behind : (ys zs : List Mapping) (low : ℕ) → IsLaidOutFrom low (ys ++ zs) → IsLaidOutFrom low zs
laid_out-behind [] zs low laid = laid
laid_out-behind (y ∷ ys) zs low laid =
    let first : low ≤ y.range.first = laid.0 in
    laid_out_lower zs (end_of y.range) low (omega (arith, first)) (laid_out-behind ys zs (end_of y.range) laid.2)

pub laid_out-without : (xs ys zs : List Mapping) (low : ℕ) → IsLaidOutFrom low (xs ++ (ys ++ zs)) → IsLaidOutFrom low (xs ++ zs)
laid_out-without [] ys zs low laid = laid_out-behind ys zs low laid
laid_out-without (x ∷ xs) ys zs low laid = (laid.0, laid.1, laid_out-without xs ys zs (end_of x.range) laid.2)

-- what holds of each mapping's first page holds of those of an index
all_firsts : (P : ℕ → Type 0) (index : ℕ) (ms : List Mapping) → All (λ m. P m.range.first) ms → All P (firsts_of index ms)
all_firsts P index ms all =
    All-map P (λ (m : Mapping). m.range.first) (filter (λ m. has_index index m.backing) ms)
    (All-filter (λ (m : Mapping). has_index index m.backing) (λ m. P m.range.first) ms all)

firsts-append : (index : ℕ) (xs ys : List Mapping) → firsts_of index (xs ++ ys) ≡ firsts_of index xs ++ firsts_of index ys
firsts-append index xs ys =
    ap (map (λ (m : Mapping). m.range.first)) (filter-append (λ (m : Mapping). has_index index m.backing) xs ys)
    ∙ map-append (λ (m : Mapping). m.range.first) (filter (λ m. has_index index m.backing) xs) (filter (λ m. has_index index m.backing) ys)

-- one of the index, between others
firsts-of_one : (index : ℕ) (xs : List Mapping) (m : Mapping) (ys : List Mapping) → has_index index m.backing ≡ true →
    firsts_of index (xs ++ m ∷ ys) ≡ firsts_of index xs ++ m.range.first ∷ firsts_of index ys
firsts-of_one index xs m ys has = firsts-append index xs (m ∷ ys) ∙ rw has refl

-- one that is of another index, or of none
firsts-of_other : (index : ℕ) (xs : List Mapping) (m : Mapping) (ys : List Mapping) → has_index index m.backing ≡ false →
    firsts_of index (xs ++ m ∷ ys) ≡ firsts_of index (xs ++ ys)
firsts-of_other index xs m ys has = firsts-append index xs (m ∷ ys) ∙ rw has (sym (firsts-append index xs ys))

-- the first pages of a list, where one change of a mapping between others is told at its index and nowhere else
moved : (old new : List Mapping) (rows after : List FirstPagesState) (index : ℕ) → AreFirstPages old rows → AreSameElsewhere index rows after →
    IsRowOf (firsts_of index new) (first_pages_at after index) → ((other : ℕ) → other ≢ index → firsts_of other new ≡ firsts_of other old) → AreFirstPages new after
moved old new rows after index are others here same other =
    elim (eqb other index) as (λ t. eqb other index ≡ t → IsRowOf (firsts_of other new) (first_pages_at after other)) [
      | true ↦ (λ e. let is : other ≡ index = eqb-true _ _ e in subst (λ (i : ℕ). IsRowOf (firsts_of i new) (first_pages_at after i)) (sym is) here)
      | false ↦ (λ e.
          let apart : other ≢ index = (λ is. false≢true (sym e ∙ eq-eqb _ _ is)) in
          subst (λ (p : FirstPagesState). IsRowOf (firsts_of other new) p) (sym (others other apart))
          (subst (λ (ps : List ℕ). IsRowOf ps (first_pages_at rows other)) (sym (same other apart)) (are other)))
    ] refl

has_own : (m : Mapping) (id : BufferId) (page : ℕ) → m.backing ≡ Buffer id page → has_index id.index m.backing ≡ true
has_own m id page is = ap (has_index id.index) is ∙ eq-eqb _ _ refl

has_none : (m : Mapping) (id : BufferId) (page other : ℕ) → m.backing ≡ Buffer id page → other ≢ id.index → has_index other m.backing ≡ false
has_none m id page other is apart = ap (has_index other) is ∙ ne_eqb _ _ (λ same. apart (sym same))

-- a mapping leaves from between others
pub left_one : (xs : List Mapping) (m : Mapping) (ys : List Mapping) (id : BufferId) (page : ℕ) (rows after : List FirstPagesState) → m.backing ≡ Buffer id page →
    IsLaidOut (xs ++ m ∷ ys) → first_pages_at after id.index ≡ page_removed m.range.first (first_pages_at rows id.index) → AreSameElsewhere id.index rows after →
    AreFirstPages (xs ++ m ∷ ys) rows → AreFirstPages (xs ++ ys) after
left_one xs m ys id page rows after is laid here others are =
    let i : ℕ = id.index in
    let before = all_firsts (λ x. x < m.range.first) i xs (begin_before xs m ys 0 laid) in
    let behind = all_firsts (λ y. m.range.first < y) i ys (begin_behind xs m ys 0 laid) in
    let stood = subst (λ (ps : List ℕ). IsRowOf ps (first_pages_at rows i)) (firsts-of_one i xs m ys (has_own m id page is)) (are i) in
    let stands = page_removed_between m.range.first (firsts_of i xs) (firsts_of i ys) (first_pages_at rows i) before behind stood in
    moved (xs ++ m ∷ ys) (xs ++ ys) rows after i are others
    (subst (λ (p : FirstPagesState). IsRowOf (firsts_of i (xs ++ ys)) p) (sym here)
    (subst (λ (ps : List ℕ). IsRowOf ps (page_removed m.range.first (first_pages_at rows i))) (sym (firsts-append i xs ys)) stands))
    (λ other apart. sym (firsts-of_other other xs m ys (has_none m id page other is apart)))

pub left_zero : (xs : List Mapping) (m : Mapping) (ys : List Mapping) (rows : List FirstPagesState) → m.backing ≡ Zero → AreFirstPages (xs ++ m ∷ ys) rows → AreFirstPages (xs ++ ys) rows
left_zero xs m ys rows is are other =
    subst (λ (ps : List ℕ). IsRowOf ps (first_pages_at rows other)) (firsts-of_other other xs m ys (ap (has_index other) is)) (are other)

-- a mapping comes between others
pub came_one : (xs : List Mapping) (m : Mapping) (ys : List Mapping) (id : BufferId) (page : ℕ) (rows after : List FirstPagesState) → m.backing ≡ Buffer id page →
    IsLaidOut (xs ++ m ∷ ys) → first_pages_at after id.index ≡ page_added m.range.first (first_pages_at rows id.index) → AreSameElsewhere id.index rows after →
    AreFirstPages (xs ++ ys) rows → AreFirstPages (xs ++ m ∷ ys) after
came_one xs m ys id page rows after is laid here others are =
    let i : ℕ = id.index in
    let before = all_firsts (λ x. x < m.range.first) i xs (begin_before xs m ys 0 laid) in
    let behind = all_firsts (λ y. m.range.first < y) i ys (begin_behind xs m ys 0 laid) in
    let stood = subst (λ (ps : List ℕ). IsRowOf ps (first_pages_at rows i)) (firsts-append i xs ys) (are i) in
    let stands = page_added_between m.range.first (firsts_of i xs) (firsts_of i ys) (first_pages_at rows i) before behind stood in
    moved (xs ++ ys) (xs ++ m ∷ ys) rows after i are others
    (subst (λ (p : FirstPagesState). IsRowOf (firsts_of i (xs ++ m ∷ ys)) p) (sym here)
    (subst (λ (ps : List ℕ). IsRowOf ps (page_added m.range.first (first_pages_at rows i))) (sym (firsts-of_one i xs m ys (has_own m id page is))) stands))
    (λ other apart. firsts-of_other other xs m ys (has_none m id page other is apart))

pub came_zero : (xs : List Mapping) (m : Mapping) (ys : List Mapping) (rows : List FirstPagesState) → m.backing ≡ Zero → AreFirstPages (xs ++ ys) rows → AreFirstPages (xs ++ m ∷ ys) rows
came_zero xs m ys rows is are other =
    subst (λ (ps : List ℕ). IsRowOf ps (first_pages_at rows other)) (sym (firsts-of_other other xs m ys (ap (has_index other) is))) (are other)

-- one that begins where another of its buffer did stands in its place
pub stays_one : (xs : List Mapping) (a b : Mapping) (ys : List Mapping) (id : BufferId) (page page' : ℕ) (rows : List FirstPagesState) → a.backing ≡ Buffer id page →
    b.backing ≡ Buffer id page' → a.range.first ≡ b.range.first → AreFirstPages (xs ++ a ∷ ys) rows → AreFirstPages (xs ++ b ∷ ys) rows
stays_one xs a b ys id page page' rows is of alike are other =
    subst (λ (ps : List ℕ). IsRowOf ps (first_pages_at rows other))
    (elim (eqb id.index other) as (λ t. eqb id.index other ≡ t → firsts_of other (xs ++ a ∷ ys) ≡ firsts_of other (xs ++ b ∷ ys)) [
      | true ↦ (λ e. firsts-of_one other xs a ys (ap (has_index other) is ∙ e)
          ∙ ap (λ (p : ℕ). firsts_of other xs ++ p ∷ firsts_of other ys) alike
          ∙ sym (firsts-of_one other xs b ys (ap (has_index other) of ∙ e)))
      | false ↦ (λ e. firsts-of_other other xs a ys (ap (has_index other) is ∙ e) ∙ sym (firsts-of_other other xs b ys (ap (has_index other) of ∙ e)))
    ] refl) (are other)
