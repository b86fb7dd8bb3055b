-- Laws of the tree of a list, level by level.
use Rattle.std.proofs.Common.{◌≡◌, ℕ, MatchOption, IfSome, zero, suc, ◌+◌, ◌-◌, ◌*◌, ◌<◌, ◌≤◌, inl, inr, true, false, List, slice_index_or, Option, Some, None, Box, Global, refl, arith, sym, ap, ◌∙◌, subst}
use Rattle.gv_types.specs.Page.{PAGES}
use Rattle.gv_types.specs.PageRange.{PageRangeState, span, end_of, meets}
use Rattle.gv_types.specs.Mapping.{HasSmallPages}
use Rattle.gv_types.specs.declared.mapping.Entry.{Entry}
use Rattle.gv_types.specs.declared.mapping.Mapping.{Mapping}
use Rattle.gv_ranges.specs.List.{at, IsLaidOut}
use Rattle.gv_table.specs.declared.wanted.Wanted.{Wanted}
use Rattle.gv_table.specs.declared.wanted.Wanted.TheVariants as variant
use Rattle.gv_table.specs.declared.slot.Slot.{Slot}
use Rattle.gv_table.specs.declared.slot.Slot.TheVariants.{Empty, Pages, Table}
use Rattle.gv_table.specs.BufferNames.{PageSlot, IsEncodable, AreEncodable}
use Rattle.gv_table.specs.Levels.{pages_of, slot_pages}
use Rattle.gv_table.specs.Reads.{any_meets, covering, AreAlikeOutside}
use Rattle.gv_types.specs.Mapping.{entry_advanced}
use Rattle.gv_table.specs.Wanted.{wanted}
use Rattle.gv_table.specs.Tree.{is_table, child, leaf, HasNoEntry, page_slot, no_page, slot_of, HoldsWanted, IsTreeOf, IsEncodableOutside}
use Rattle.gv_table.proofs.PagesOf.{pages_of-zero, pages_of-some, pages_of-more, pages_of-below, part-within}
use Rattle.gv_table.proofs.RangesMeet.{apart-cases, meets-after, meets-before}
use Rattle.gv_table.proofs.CoveringMappings.{true-or-false, at-covering, covering-none, covering-part, covering-small, covering-encoded, any_meets-part}
use Rattle.gv_table.proofs.AlikeLists.{alike-outside}
use Rattle.gv_table.proofs.Wants.{nothing-meets, entry-covers, nothing-part, entry-part, wanted-alike}
use Rattle.gv_table.proofs.Slots.{is_table-Table, is_table-Pages, child-Table, child-Pages, child-other, is_table-Empty, is_table-leaf, leaf-same, leaf-some}

pub IsTreeOf-nothing : (ms : List Mapping) (level first : ℕ) (slot : Slot) → wanted ms level first ≡ variant.Nothing → slot ≡ Empty →
    IsTreeOf ms level first slot
unfolding IsTreeOf
IsTreeOf-nothing ms zero first slot want e =
    let none : any_meets ms (span first 1) ≡ false = rw pages_of-zero at (nothing-meets ms 0 first want) in
    let nothing : at ms first ≡ None = at-covering ms first ∙ covering-none ms (span first 1) (omega arith) none in
    rw nothing e
IsTreeOf-nothing ms (suc level) first slot want e = rw want e

-- the slot of a page
pub IsTreeOf-page : (ms : List Mapping) (page : ℕ) (entry : Option Entry) (slot : Slot) → at ms page ≡ entry → slot ≡ page_slot entry → IsTreeOf ms 0 page slot
unfolding IsTreeOf
IsTreeOf-page ms page entry slot held e = rw held e

pub IsTreeOf-leaf : (ms : List Mapping) (level first : ℕ) (entry : Entry) (slot : Slot) → wanted ms level first ≡ variant.Entry entry → slot ≡ leaf entry →
    IsTreeOf ms level first slot
unfolding IsTreeOf
IsTreeOf-leaf ms zero first entry slot want e =
    let some : covering ms (span first 1) ≡ Some entry = rw pages_of-zero at ((entry-covers ms 0 first entry want).1) in
    let found : at ms first ≡ Some entry = at-covering ms first ∙ some in
    rw found e
IsTreeOf-leaf ms (suc level) first entry slot want e = rw want e

pub IsTreeOf-table : (ms : List Mapping) (level first : ℕ) (slots : Box (List Slot) Global) → 0 < level → wanted ms level first ≡ variant.Table →
    ((k : ℕ) → k < 512 → IsTreeOf ms (level - 1) (first + k * pages_of (level - 1)) (slice_index_or slots.value k Empty)) →
    IsTreeOf ms level first (Table slots)
unfolding IsTreeOf
IsTreeOf-table ms zero first slots some want parts = absurd (omega arith)
IsTreeOf-table ms (suc level) first slots some want parts =
    let lower : suc level - 1 ≡ level = omega arith in
    let parts' : (k : ℕ) → k < 512 → IsTreeOf ms level (first + k * pages_of level) (slice_index_or slots.value k Empty) = rw lower at parts in
    rw want (
      is_table-Table slots,
      λ k below. subst (λ (s : Slot). IsTreeOf ms level (first + k * pages_of level) s) (sym (child-Table slots k)) (parts' k below),
    )

pub page-of : (ms : List Mapping) (first : ℕ) (slot : Slot) → IsTreeOf ms 0 first slot → slot ≡ page_slot (at ms first)
unfolding IsTreeOf
page-of ms first slot tree = tree

pub IsTreeOf-pages : (ms : List Mapping) (level first : ℕ) (pages : Box (List PageSlot × Slot) Global) → level ≡ 1 → wanted ms level first ≡ variant.Table →
    ((k : ℕ) → k < 512 → IsTreeOf ms 0 (first + k * pages_of 0) (slot_of (slice_index_or pages.value.0 k no_page))) → IsTreeOf ms level first (Pages pages)
unfolding IsTreeOf
IsTreeOf-pages ms zero first pages one want parts = absurd (omega (arith, one))
IsTreeOf-pages ms (suc zero) first pages one want parts =
    rw want (
      is_table-Pages pages,
      λ k below. subst (λ (s : Slot). s ≡ page_slot (at ms (first + k * pages_of 0))) (sym (child-Pages pages k)) (page-of ms (first + k * pages_of 0) _ (parts k below)),
    )
IsTreeOf-pages ms (suc (suc level)) first pages one want parts = absurd (omega (arith, one))

-- a slot of the tree opened, at a level above 0
pub opened : (ms : List Mapping) (level first : ℕ) (slot : Slot) → IsTreeOf ms (suc level) first slot →
    HoldsWanted (wanted ms (suc level) first) slot ((k : ℕ) → k < 512 → IsTreeOf ms level (first + k * pages_of level) (child slot k))
unfolding IsTreeOf
opened ms level first slot tree = tree

pub page-empty : (o : Option Entry) → Empty ≡ page_slot o → o ≡ None
page-empty None e = refl
page-empty (Some entry) e = absurd (leaf-some entry (sym e))

pub page-leaf : (o : Option Entry) (entry : Entry) → leaf entry ≡ page_slot o → o ≡ Some entry
page-leaf None entry e = absurd (leaf-some entry e)
page-leaf (Some found) entry e = let same = leaf-same entry found e in ap (λ (x : Entry). Some x) (sym same)

page-table : (o : Option Entry) (slot : Slot) → slot ≡ page_slot o → is_table slot ≡ true → ⊥
page-table None slot e table = let bad : true ≡ false = sym table ∙ ap is_table e ∙ is_table-Empty in cc
page-table (Some entry) slot e table = let bad : true ≡ false = sym table ∙ ap is_table e ∙ is_table-leaf entry in cc

pub no-table-at-zero : (ms : List Mapping) (first : ℕ) (slot : Slot) → IsTreeOf ms 0 first slot → is_table slot ≡ true → ⊥
no-table-at-zero ms first slot tree table = page-table (at ms first) slot (page-of ms first slot tree) table

pub page-no-table-slot : (ms : List Mapping) (first : ℕ) (slot : Slot) → IsTreeOf ms 0 first slot → is_table slot ≡ false
page-no-table-slot ms first slot tree = elim (true-or-false (is_table slot)) [
  | inl table ↦ absurd (no-table-at-zero ms first slot tree table)
  | inr other ↦ other
]

empty-by : (w : Wanted) (Parts : Type 0) → HoldsWanted w Empty Parts → w ≡ variant.Nothing
empty-by variant.Nothing Parts holds = refl
empty-by (variant.Entry entry) Parts holds = absurd (leaf-some entry (sym holds))
empty-by variant.Table Parts holds = let bad : true ≡ false = sym holds.0 ∙ is_table-Empty in cc

-- nothing is wanted of an empty slot
pub empty-wanted : (ms : List Mapping) (level first : ℕ) → IsTreeOf ms (suc level) first Empty → wanted ms (suc level) first ≡ variant.Nothing
empty-wanted ms level first tree = empty-by (wanted ms (suc level) first) _ (opened ms level first Empty tree)

leaf-by : (w : Wanted) (entry : Entry) (Parts : Type 0) → HoldsWanted w (leaf entry) Parts → w ≡ variant.Entry entry
leaf-by variant.Nothing entry Parts holds = absurd (leaf-some entry holds)
leaf-by (variant.Entry found) entry Parts holds = let same = leaf-same entry found holds in ap (λ (x : Entry). variant.Entry x) (sym same)
leaf-by variant.Table entry Parts holds = let bad : true ≡ false = sym holds.0 ∙ is_table-leaf entry in cc

pub leaf-wanted : (ms : List Mapping) (level first : ℕ) (entry : Entry) → IsTreeOf ms (suc level) first (leaf entry) → wanted ms (suc level) first ≡ variant.Entry entry
leaf-wanted ms level first entry tree = leaf-by (wanted ms (suc level) first) entry _ (opened ms level first (leaf entry) tree)

-- no page of an empty slot holds anything
pub read-empty : (ms : List Mapping) (level first page : ℕ) → IsTreeOf ms level first Empty → first ≤ page → page < first + pages_of level → at ms page ≡ None
read-empty ms zero first page tree low high =
    let one = pages_of-zero in
    let same : first ≡ page = omega (arith, one) in
    subst (λ (p : ℕ). at ms p ≡ None) same (page-empty (at ms first) (page-of ms first Empty tree))
read-empty ms (suc level) first page tree low high =
    let none = nothing-meets ms (suc level) first (empty-wanted ms level first tree) in
    at-covering ms page ∙ covering-none ms (span page 1) (omega arith)
    (any_meets-part ms (slot_pages (suc level) first) (span page 1) none low (omega arith))

-- a page of a leaf holds what lies so far on, and there no sum is great
pub read-leaf : (ms : List Mapping) (level first page : ℕ) (entry : Entry) → IsLaidOut ms → IsTreeOf ms level first (leaf entry) → first ≤ page →
    page < first + pages_of level → HasSmallPages entry.backing (pages_of level) × (at ms page ≡ Some (entry_advanced entry (page - first)))
read-leaf ms zero first page entry laid tree low high =
    let one = pages_of-zero in
    let found = page-leaf (at ms first) entry (page-of ms first (leaf entry) tree) in
    let covered : covering ms (span first 1) ≡ Some entry = sym (at-covering ms first) ∙ found in (
      rw one (covering-small ms 0 (span first 1) entry laid covered),
      at-covering ms page ∙ covering-part ms 0 (span first 1) (span page 1) entry laid covered low (omega arith) (omega (arith, one)),
    )
read-leaf ms (suc level) first page entry laid tree low high =
    let covered = (entry-covers ms (suc level) first entry (leaf-wanted ms level first entry tree)).1 in (
      covering-small ms 0 (slot_pages (suc level) first) entry laid covered,
      at-covering ms page ∙ covering-part ms 0 (slot_pages (suc level) first) (span page 1) entry laid covered low (omega arith) (omega arith),
    )

pub leaf-small : (ms : List Mapping) (level first : ℕ) (entry : Entry) → IsLaidOut ms → IsTreeOf ms level first (leaf entry) → HasSmallPages entry.backing (pages_of level)
leaf-small ms level first entry laid tree =
    let some = pages_of-some level in (read-leaf ms level first first entry laid tree (omega arith) (omega (arith, some))).0

-- a leaf of a list whose buffers can be encoded
pub leaf-encoded : (ms : List Mapping) (level first : ℕ) (entry : Entry) → IsLaidOut ms → AreEncodable ms → IsTreeOf ms level first (leaf entry) → IsEncodable entry.backing (pages_of level)
leaf-encoded ms zero first entry laid encoded tree =
    let one = pages_of-zero in
    let found = page-leaf (at ms first) entry (page-of ms first (leaf entry) tree) in
    rw one (covering-encoded ms 0 (span first 1) entry laid encoded (sym (at-covering ms first) ∙ found))
leaf-encoded ms (suc level) first entry laid encoded tree =
    covering-encoded ms 0 (slot_pages (suc level) first) entry laid encoded (entry-covers ms (suc level) first entry (leaf-wanted ms level first entry tree)).1

parts-by : (slot : Slot) (Parts : Type 0) (w : Wanted) → HoldsWanted w slot Parts → is_table slot ≡ true → Parts
parts-by slot Parts variant.Nothing holds table = let bad : true ≡ false = sym table ∙ ap is_table holds ∙ is_table-Empty in cc
parts-by slot Parts (variant.Entry entry) holds table = let bad : true ≡ false = sym table ∙ ap is_table holds ∙ is_table-leaf entry in cc
parts-by slot Parts variant.Table holds table = holds.1

-- the slots of a table of the tree
pub read-parts : (ms : List Mapping) (level first : ℕ) (slot : Slot) → 0 < level → IsTreeOf ms level first slot → is_table slot ≡ true →
    (k : ℕ) → k < 512 → IsTreeOf ms (level - 1) (first + k * pages_of (level - 1)) (child slot k)
read-parts ms zero first slot some tree table k below = absurd (omega arith)
read-parts ms (suc level) first slot some tree table k below =
    let lower : suc level - 1 ≡ level = omega arith in
    rw lower (parts-by slot _ (wanted ms (suc level) first) (opened ms level first slot tree) table k below)

-- the parts of an empty slot, and of a leaf
pub empty-parts : (ms : List Mapping) (level first : ℕ) → 0 < level → IsTreeOf ms level first Empty → (k : ℕ) → k < 512 →
    IsTreeOf ms (level - 1) (first + k * pages_of (level - 1)) Empty
empty-parts ms zero first some tree k below = absurd (omega arith)
empty-parts ms (suc level) first some tree k below =
    let lower : suc level - 1 ≡ level = omega arith in
    rw lower (IsTreeOf-nothing ms level (first + k * pages_of level) Empty (nothing-part ms level first k below (empty-wanted ms level first tree)) refl)

pub leaf-parts : (ms : List Mapping) (level first : ℕ) (entry : Entry) → IsLaidOut ms → 0 < level → IsTreeOf ms level first (leaf entry) → (k : ℕ) → k < 512 →
    IsTreeOf ms (level - 1) (first + k * pages_of (level - 1)) (leaf (entry_advanced entry (k * pages_of (level - 1))))
leaf-parts ms zero first entry laid some tree k below = absurd (omega arith)
leaf-parts ms (suc level) first entry laid some tree k below =
    let lower : suc level - 1 ≡ level = omega arith in
    rw lower (IsTreeOf-leaf ms level (first + k * pages_of level) (entry_advanced entry (k * pages_of level)) _
    (entry-part ms level first k entry laid below (leaf-wanted ms level first entry tree)) refl)

-- the parts of a slot that is no table, where they are its entry's
pub divided-parts :
    (entry : Option Entry) (slot : Slot) (part : ℕ → Slot) (ms : List Mapping) (level first p : ℕ) →
    MatchOption entry (HasNoEntry slot) (λ e. slot ≡ leaf e) → is_table slot ≡ false → (entry ≡ None → (k : ℕ) → k < 512 → part k ≡ Empty) →
    IfSome entry (λ e. HasSmallPages e.backing (512 * p) → IsEncodable e.backing (512 * p) → (k : ℕ) → k < 512 → part k ≡ leaf (entry_advanced e (k * p))) →
    IsLaidOut ms → AreEncodable ms → 0 < level → p ≡ pages_of (level - 1) → IsTreeOf ms level first slot →
    (k : ℕ) → k < 512 → IsTreeOf ms (level - 1) (first + k * pages_of (level - 1)) (part k)
divided-parts None slot part ms level first p (inl none) other empty entries laid encoded some pages tree k below =
    subst (λ (s : Slot). IsTreeOf ms (level - 1) (first + k * pages_of (level - 1)) s) (sym (empty refl k below))
    (empty-parts ms level first some (subst (λ (s : Slot). IsTreeOf ms level first s) none tree) k below)
divided-parts None slot part ms level first p (inr table) other empty entries laid encoded some pages tree k below = cc
divided-parts (Some entry) slot part ms level first p is other empty entries laid encoded some pages tree k below =
    let tree' = subst (λ (s : Slot). IsTreeOf ms level first s) is tree in
    let below-of = pages_of-below level some in
    let whole : pages_of level ≡ 512 * p = omega (arith, below-of, pages) in
    let small : HasSmallPages entry.backing (512 * p) = rw whole at (leaf-small ms level first entry laid tree') in
    let said : IsEncodable entry.backing (512 * p) = rw whole at (leaf-encoded ms level first entry laid encoded tree') in
    let far : k * p ≡ k * pages_of (level - 1) = ap (λ (n : ℕ). k * n) pages in
    let made = entries small said k below ∙ ap (λ (n : ℕ). leaf (entry_advanced entry n)) far in
    subst (λ (s : Slot). IsTreeOf ms (level - 1) (first + k * pages_of (level - 1)) s) (sym made)
    (leaf-parts ms level first entry laid some tree' k below)

holds-alike : (w : Wanted) (slot : Slot) (A B : Type 0) → (A → B) → HoldsWanted w slot A → HoldsWanted w slot B
holds-alike variant.Nothing slot A B f h = h
holds-alike (variant.Entry entry) slot A B f h = h
holds-alike variant.Table slot A B f h = (h.0, f h.1)

-- a part of what is apart from a range is apart from it
pub apart-part : (range : PageRangeState) (first n k p : ℕ) → meets (span first n) range ≡ false → k < 512 → n ≡ 512 * p → meets (span (first + k * p) p) range ≡ false
apart-part range first n k p apart below e =
    let w = part-within k n p below e in
    elim (apart-cases (span first n) range apart) [
      | inl behind ↦ meets-after (span (first + k * p) p) range (omega (arith, behind))
      | inr before ↦ meets-before (span (first + k * p) p) range (omega (arith, before, w))
    ]

-- a slot apart from a range is the tree of each list that is alike outside the range
pub tree-alike : (range : PageRangeState) (one other : List Mapping) (level first : ℕ) (slot : Slot) → AreAlikeOutside range one other → IsLaidOut one → IsLaidOut other →
    end_of (slot_pages level first) ≤ PAGES → meets (slot_pages level first) range ≡ false → IsTreeOf one level first slot → IsTreeOf other level first slot
unfolding IsTreeOf
tree-alike range one other zero first slot alike laid laid' within apart tree =
    let p = pages_of-zero in
    let apart' : meets (span first 1) range ≡ false = rw p at apart in
    let same = alike-outside range one other (span first 1) alike laid laid' (omega arith) (omega (arith, p)) apart' in
    tree ∙ ap page_slot (at-covering one first ∙ same.1 ∙ sym (at-covering other first))
tree-alike range one other (suc level) first slot alike laid laid' within apart tree =
    let same = wanted-alike one other (suc level) first
    (alike-outside range one other (slot_pages (suc level) first) alike laid laid' (pages_of-some (suc level)) within apart) in
    rw (← same)
    (holds-alike (wanted one (suc level) first) slot _ _
    (λ parts k below.
    let w = part-within k (pages_of (suc level)) (pages_of level) below (pages_of-more level) in
    tree-alike range one other level (first + k * pages_of level) (child slot k) alike laid laid' (omega (arith, w))
    (apart-part range first (pages_of (suc level)) k (pages_of level) apart below (pages_of-more level)) (parts k below))
    tree)

-- what is right outside the range is right where it is apart from it
pub outside-apart : (ms : List Mapping) (range : PageRangeState) (level first : ℕ) (slot : Slot) → IsLaidOut ms → IsEncodableOutside ms range level first slot →
    end_of (slot_pages level first) ≤ PAGES → meets (slot_pages level first) range ≡ false → IsTreeOf ms level first slot
outside-apart ms range level first slot laid outside within apart =
    tree-alike range outside.earlier ms level first slot outside.alike outside.laid_out laid within apart outside.tree

-- where nothing is wanted of a slot with slots of pages, those apart from the range are empty
pub empty-apart : (ms : List Mapping) (range : PageRangeState) (first : ℕ) (slot : Slot) → IsLaidOut ms → IsEncodableOutside ms range 1 first slot →
    end_of (slot_pages 1 first) ≤ PAGES → wanted ms 1 first ≡ variant.Nothing → (k : ℕ) → k < 512 →
    meets (slot_pages 0 (first + k * pages_of 0)) range ≡ false → child slot k ≡ Empty
empty-apart ms range first slot laid outside within want k below apart =
    let page = first + k * pages_of 0 in
    let fit = part-within k (pages_of 1) (pages_of 0) below (pages_of-more 0) in
    let none : IsTreeOf ms 0 page Empty = IsTreeOf-nothing ms 0 page Empty (nothing-part ms 0 first k below want) refl in
    elim (true-or-false (is_table slot)) [
      | inl table ↦ (
          let part : IsTreeOf outside.earlier 0 page (child slot k) = read-parts outside.earlier 1 first slot (omega arith) outside.tree table k below in
          let fits : IsEncodableOutside ms range 0 page (child slot k) = record { earlier = outside.earlier; laid_out = outside.laid_out; encoded = outside.encoded; alike = outside.alike; tree = part } in
          let here : IsTreeOf ms 0 page (child slot k) = outside-apart ms range 0 page (child slot k) laid fits (omega (arith, fit, within)) apart in
          page-of ms page (child slot k) here ∙ sym (page-of ms page Empty none)
          )
      | inr other ↦ child-other slot k other
    ]
