-- The tree of a list, and that of the list whose buffers are encoded by their indexes alone.
use Rattle.std.proofs.Common.{◌≡◌, inl, inr, ℕ, zero, suc, ◌+◌, ◌-◌, ◌*◌, ◌/◌, ◌<◌, ◌≤◌, Bool, true, false, List, [], ◌∷◌, length, slice_index_or, Option, Some, None, IfSome, if◌then◌else◌, refl, arith, subst, sym, ap, ◌∙◌}
use Rattle.std.specs.Option.{option_map}
use Rattle.std.proofs.lemmas.Bool.{cases_lt}
use Rattle.std.proofs.lemmas.Bool.Decides.{nat_tests}
use Rattle.std.proofs.lemmas.Option.{get_or_from_slice_get, slice_get_within}
use Rattle.std.proofs.lemmas.List.Elements.{All-cons, All-head, All-tail, All-map}
use Rattle.gv_types.specs.Page.{PAGES}
use Rattle.gv_types.specs.PageRange.{PageRangeState, end_of, covers, lies_in}
use Rattle.gv_types.specs.Mapping.{advanced, part, buffer_id}
use Rattle.gv_types.specs.declared.mapping.Backing.{Backing}
use Rattle.gv_types.specs.declared.mapping.Backing.TheVariants as backing
use Rattle.gv_types.specs.declared.mapping.BufferId.{BufferId}
use Rattle.gv_types.specs.declared.mapping.Entry.{Entry}
use Rattle.gv_types.specs.declared.mapping.Mapping.{Mapping}
use Rattle.gv_ranges.specs.List.{at, IsLaidOut, IsLaidOutFrom}
use Rattle.gv_ranges.proofs.LookupLemmas.{at_skip}
use Rattle.gv_table.specs.declared.slot.Slot.{Slot}
use Rattle.gv_table.specs.declared.slot.Slot.TheVariants.{Empty}
use Rattle.gv_table.specs.declared.wanted.Wanted.{Wanted}
use Rattle.gv_table.specs.declared.wanted.Wanted.TheVariants as variant
use Rattle.gv_table.specs.Levels.{pages_of, slot_pages}
use Rattle.gv_table.specs.BufferNames.{unnamed_backing, unnamed_entry, unnamed_mapping, unnamed, AreNames, IsNamed, AreNamed, IsEncodable, AreEncodable}
use Rattle.gv_table.specs.declared.table_counts.TableCounts.{TableCounts}
use Rattle.gv_table.specs.Counts.{tables_at, count_at}
use Rattle.gv_table.specs.Named.{named_id, named_backing, named_entry, named, AreLeavesEncodable, IsConsistent}
use Rattle.gv_table.specs.Table.{PageTable, tables_by_kind}
use Rattle.gv_table.specs.Reads.{covering}
use Rattle.gv_table.specs.Wanted.{wanted}
use Rattle.gv_table.specs.Tree.{is_table, child, leaf, page_slot, HoldsWanted, IsTreeOf, IsTreeOutside, IsEncodableOutside}
use Rattle.gv_table.proofs.CoveringMappings.{true-or-false, encoded-advanced}
use Rattle.gv_table.proofs.PagesOf.{pages_of-zero, pages_of-some, pages_of-more, index-below, index-within}
use Rattle.gv_table.proofs.Slots.{is_table-Empty, is_table-leaf, child-Empty, child-other, leaf-some, leaf-same, some-table}
use Rattle.gv_table.proofs.Trees.{page-of, page-empty, page-leaf, opened, read-empty, read-leaf, read-parts, leaf-encoded, no-table-at-zero, IsTreeOf-page}
use Rattle.gv_table.proofs.Unnamed.{unnamed_wanted, at-unnamed, wanted-unnamed, laid_out-unnamed, alike-unnamed}
use Rattle.gv_table.proofs.Named.{variant-of, named-Empty, named-leaf, is_table-named, child-named, tables_at-named}
use Rattle.gv_table.proofs.Wants.{entry-covers}

past : (xs : List BufferId) (k : ℕ) (d : BufferId) → length xs ≤ k → slice_index_or xs k d ≡ d
past [] k d from = refl
past (x ∷ xs) zero d from = absurd (omega arith)
past (x ∷ xs) (suc k) d from = past xs k d (omega arith)

if-some : (b : Bool) (e : Entry) (o : Option Entry) (P : Entry → Type 0) → P e → IfSome o P → IfSome (if b then Some e else o) P
if-some true e o P here rest = here
if-some false e o P here rest = rest

-- a leaf of the tree of a list that can be encoded
pub empty-encoded : (level : ℕ) → AreLeavesEncodable level Empty
unfolding AreLeavesEncodable
empty-encoded zero = λ e is. absurd (leaf-some e (sym is))
empty-encoded (suc level) = (λ e is. absurd (leaf-some e (sym is)), λ k below. subst (AreLeavesEncodable level) (sym (child-Empty k)) (empty-encoded level))

pub tree-encoded : (ms : List Mapping) (level first : ℕ) (slot : Slot) → IsLaidOut ms → AreEncodable ms → IsTreeOf ms level first slot → AreLeavesEncodable level slot
unfolding AreLeavesEncodable
tree-encoded ms zero first slot laid encoded tree = λ e is.
    subst (λ (n : ℕ). IsEncodable e.backing n) pages_of-zero (leaf-encoded ms 0 first e laid encoded (subst (λ (s : Slot). IsTreeOf ms 0 first s) is tree))
tree-encoded ms (suc level) first slot laid encoded tree = (
  λ e is. leaf-encoded ms (suc level) first e laid encoded (subst (λ (s : Slot). IsTreeOf ms (suc level) first s) is tree),
  λ k below. elim (true-or-false (is_table slot)) [
    | inl table ↦ (let lower : suc level - 1 ≡ level = omega arith in
        let part = read-parts ms (suc level) first slot (omega arith) tree table k below in
        tree-encoded ms level (first + k * pages_of level) (child slot k) laid encoded (rw lower at part))
    | inr other ↦ subst (AreLeavesEncodable level) (sym (child-other slot k other)) (empty-encoded level)
  ],
)

page-said : (o : Option Entry) (slot : Slot) → slot ≡ page_slot o → ((e : Entry) → slot ≡ leaf e → IsEncodable e.backing 1) → IfSome o (λ e. IsEncodable e.backing 1)
page-said None slot is encoded = tt
page-said (Some e) slot is encoded = encoded e is

-- what a tree whose leaves can be encoded holds at a page can be encoded
page-encoded : (ms : List Mapping) (level first page : ℕ) (slot : Slot) → IsLaidOut ms → AreLeavesEncodable level slot → IsTreeOf ms level first slot → first ≤ page →
    page < first + pages_of level → IfSome (at ms page) (λ e. IsEncodable e.backing 1)
unfolding AreLeavesEncodable
page-encoded ms zero first page slot laid encoded tree low high =
    let one = pages_of-zero in
    let same : first ≡ page = omega (arith, one) in
    subst (λ (p : ℕ). IfSome (at ms p) (λ e. IsEncodable e.backing 1)) same (page-said (at ms first) slot (page-of ms first slot tree) encoded)
page-encoded ms (suc level) first page slot laid encoded tree low high =
    let Says : Option Entry → Type 0 = λ o. IfSome o (λ e. IsEncodable e.backing 1) in
    elim (true-or-false (is_table slot)) [
      | inl table ↦ (let some = pages_of-some level in
          let more = pages_of-more level in
          let lower : suc level - 1 ≡ level = omega arith in
          let k : ℕ = (page - first) / pages_of level in
          let below = index-below (page - first) (pages_of level) some (omega (arith, more)) in
          let i = index-within (page - first) (pages_of level) some in
          let part = read-parts ms (suc level) first slot (omega arith) tree table k below in
          page-encoded ms level (first + k * pages_of level) page (child slot k) laid (encoded.1 k below) (rw lower at part) (omega (arith, i)) (omega (arith, i)))
      | inr other ↦ elim (variant-of slot) [
        | inl e ↦ subst Says (sym (read-empty ms (suc level) first page (subst (λ (s : Slot). IsTreeOf ms (suc level) first s) e tree) low high)) tt
        | inr (inl p) ↦ (let read = read-leaf ms (suc level) first page p.0 laid (subst (λ (s : Slot). IsTreeOf ms (suc level) first s) p.1 tree) low high in
            subst Says (sym read.1) (encoded-advanced p.0.backing (page - first) 1 (pages_of (suc level)) (encoded.0 p.0 p.1) (omega arith)))
        | inr (inr p) ↦ (let bad : true ≡ false = sym (some-table slot p) ∙ other in cc)
      ]
    ]

last-encoded : (b : Backing) (count : ℕ) → 0 < count → IsEncodable (advanced b (count - 1)) 1 → IsEncodable b count
last-encoded (backing.Buffer id page) count some encoded = (encoded.0, encoded.1, omega (arith, some, encoded.2))
last-encoded backing.Zero count some encoded = tt

-- so the list's mappings can be encoded
list-encoded : (ms : List Mapping) (low : ℕ) → IsLaidOutFrom low ms → ((page : ℕ) → low ≤ page → page < PAGES → IfSome (at ms page) (λ e. IsEncodable e.backing 1)) → AreEncodable ms
list-encoded [] low laid encoded = λ k d below. absurd (omega arith)
list-encoded (m ∷ ms) low laid encoded =
    let some : 0 < m.range.count = laid.1.0.0 in
    let page : ℕ = m.range.first + (m.range.count - 1) in
    let inside : covers m.range (m.range.first + (m.range.count - 1)) ≡ true = grind (arith, nat_tests, some) in
    let said : IfSome (at (m ∷ ms) page) (λ e. IsEncodable e.backing 1) = encoded page (omega (arith, laid.0)) (omega (arith, some, laid.1.0.1)) in
    let here : IsEncodable (part m page).backing 1 = rw inside at said in
    let far : m.range.first + (m.range.count - 1) - m.range.first ≡ m.range.count - 1 = omega arith in
    let here' : IsEncodable (advanced m.backing (m.range.count - 1)) 1 = rw far at here in
    All-cons (λ n. IsEncodable n.backing n.range.count) m ms (last-encoded m.backing m.range.count some here')
    (list-encoded ms (end_of m.range) laid.2 (λ p from within.
    subst (λ (o : Option Entry). IfSome o (λ e. IsEncodable e.backing 1)) (at_skip m ms p from) (encoded p (omega (arith, from, laid.0)) within)))

module _ (names : List BufferId) where
  back-advanced : (b : Backing) (n d : ℕ) → IsNamed names b n → named_backing names (unnamed_backing (advanced b d)) ≡ advanced b d
  back-advanced (backing.Buffer id page) n d is =
      ap (λ (x : BufferId). backing.Buffer x (page + d)) (get_or_from_slice_get names id.index id (buffer_id id.index 0) is.0)
  back-advanced backing.Zero n d is = refl

  part-back : (m : Mapping) (page : ℕ) → IsNamed names m.backing m.range.count → named_entry names (unnamed_entry (part m page)) ≡ part m page
  part-back m page is =
      let with : Backing → Entry = λ b. record { backing = b; flags = m.flags } in
      ap with (back-advanced m.backing m.range.count (page - m.range.first) is)

  at-back : (ms : List Mapping) (page : ℕ) → AreNamed names ms → IfSome (at ms page) (λ e. named_entry names (unnamed_entry e) ≡ e)
  at-back [] page are = tt
  at-back (m ∷ ms) page are =
      if-some (covers m.range page) (part m page) (at ms page) (λ e. named_entry names (unnamed_entry e) ≡ e)
      (part-back m page (All-head (λ n. IsNamed names n.backing n.range.count) m ms are)) (at-back ms page (All-tail (λ n. IsNamed names n.backing n.range.count) m ms are))

  covering-back : (ms : List Mapping) (s : PageRangeState) → AreNamed names ms → IfSome (covering ms s) (λ e. named_entry names (unnamed_entry e) ≡ e)
  covering-back [] s are = tt
  covering-back (m ∷ ms) s are =
      if-some (lies_in s m.range) (part m s.first) (covering ms s) (λ e. named_entry names (unnamed_entry e) ≡ e)
      (part-back m s.first (All-head (λ n. IsNamed names n.backing n.range.count) m ms are)) (covering-back ms s (All-tail (λ n. IsNamed names n.backing n.range.count) m ms are))

  page-back : (o : Option Entry) → IfSome o (λ e. named_entry names (unnamed_entry e) ≡ e) → named names (page_slot (option_map unnamed_entry o)) ≡ page_slot o
  page-back None is = named-Empty names
  page-back (Some e) is = named-leaf names (unnamed_entry e) ∙ ap leaf is

  holds-named : (w : Wanted) (slot : Slot) (Parts Parts' : Type 0) → ((e : Entry) → w ≡ variant.Entry e → named_entry names (unnamed_entry e) ≡ e) →
      (Parts → Parts') → HoldsWanted (unnamed_wanted w) slot Parts → HoldsWanted w (named names slot) Parts'
  holds-named variant.Nothing slot Parts Parts' back f h = ap (named names) h ∙ named-Empty names
  holds-named (variant.Entry e) slot Parts Parts' back f h = ap (named names) h ∙ named-leaf names (unnamed_entry e) ∙ ap leaf (back e refl)
  holds-named variant.Table slot Parts Parts' back f h = (is_table-named names slot ∙ h.0, f h.1)

  -- the tree of the list that is encoded so, named, is the list's
  pub named-tree : (ms : List Mapping) (level first : ℕ) (slot : Slot) → AreNamed names ms → IsTreeOf (unnamed ms) level first slot → IsTreeOf ms level first (named names slot)
  unfolding IsTreeOf
  named-tree ms zero first slot are tree =
      ap (named names) (page-of (unnamed ms) first slot tree ∙ ap page_slot (at-unnamed ms first)) ∙ page-back (at ms first) (at-back ms first are)
  named-tree ms (suc level) first slot are tree =
      holds-named (wanted ms (suc level) first) slot ((k : ℕ) → k < 512 → IsTreeOf (unnamed ms) level (first + k * pages_of level) (child slot k)) _
      (λ e want.
      let covered = (entry-covers ms (suc level) first e want).1 in
      subst (λ (o : Option Entry). IfSome o (λ e. named_entry names (unnamed_entry e) ≡ e)) covered (covering-back ms (slot_pages (suc level) first) are))
      (λ parts k below. subst (λ (s : Slot). IsTreeOf ms level (first + k * pages_of level) s) (sym (child-named names slot k))
      (named-tree ms level (first + k * pages_of level) (child slot k) are (parts k below)))
      (subst (λ (w : Wanted). HoldsWanted w slot ((k : ℕ) → k < 512 → IsTreeOf (unnamed ms) level (first + k * pages_of level) (child slot k))) (wanted-unnamed ms (suc level) first)
      (opened (unnamed ms) level first slot tree))

  module _ (are : AreNames names) where
    renamed-id : (id : BufferId) → id.generation ≡ 0 → buffer_id (named_id names id).index 0 ≡ id
    renamed-id id first =
        let same : (named_id names id).index ≡ id.index = elim (cases_lt id.index (length names)) [
          | inl below ↦ are.indexed id.index id below
          | inr from ↦ ap (λ (d : BufferId). d.index) (past names id.index id from)
        ] in
        ap (λ (n : ℕ). buffer_id n 0) same ∙ ap (λ (g : ℕ). buffer_id id.index g) (sym first)

    renamed-backing : (b : Backing) (n : ℕ) → IsEncodable b n → unnamed_backing (named_backing names b) ≡ b
    renamed-backing (backing.Buffer id page) n encoded = ap (λ (d : BufferId). backing.Buffer d page) (renamed-id id encoded.0)
    renamed-backing backing.Zero n encoded = refl

    renamed : (e : Entry) (n : ℕ) → IsEncodable e.backing n → unnamed_entry (named_entry names e) ≡ e
    renamed e n encoded =
        let with : Backing → Entry = λ b. record { backing = b; flags = e.flags } in
        ap with (renamed-backing e.backing n encoded)

    no-leaf : (slot : Slot) (e : Entry) → is_table slot ≡ true → named names slot ≡ leaf e → ⊥
    no-leaf slot e table is = let bad : true ≡ false = sym (is_table-named names slot ∙ table) ∙ ap is_table is ∙ is_table-leaf e in cc

    no-empty : (slot : Slot) → is_table slot ≡ true → named names slot ≡ Empty → ⊥
    no-empty slot table is = let bad : true ≡ false = sym (is_table-named names slot ∙ table) ∙ ap is_table is ∙ is_table-Empty in cc

    holds-unnamed : (w : Wanted) (slot : Slot) (Parts Parts' : Type 0) → ((e : Entry) → slot ≡ leaf e → unnamed_entry (named_entry names e) ≡ e) →
        (is_table slot ≡ true → Parts → Parts') → HoldsWanted w (named names slot) Parts → HoldsWanted (unnamed_wanted w) slot Parts'
    holds-unnamed variant.Nothing slot Parts Parts' back f h = elim (variant-of slot) [
      | inl e ↦ e
      | inr (inl p) ↦ absurd (leaf-some (named_entry names p.0) (sym (named-leaf names p.0) ∙ sym (ap (named names) p.1) ∙ h))
      | inr (inr p) ↦ absurd (no-empty slot (some-table slot p) h)
    ]
    holds-unnamed (variant.Entry e) slot Parts Parts' back f h = elim (variant-of slot) [
      | inl none ↦ absurd (leaf-some e (sym h ∙ ap (named names) none ∙ named-Empty names))
      | inr (inl p) ↦ (let same = leaf-same (named_entry names p.0) e (sym (named-leaf names p.0) ∙ sym (ap (named names) p.1) ∙ h) in
          p.1 ∙ ap leaf (sym (back p.0 p.1) ∙ ap unnamed_entry same))
      | inr (inr p) ↦ absurd (no-leaf slot e (some-table slot p) h)
    ]
    holds-unnamed variant.Table slot Parts Parts' back f h =
        let table : is_table slot ≡ true = sym (is_table-named names slot) ∙ h.0 in (table, f table h.1)

    -- and the other way round
    pub unnamed-tree : (ms : List Mapping) (level first : ℕ) (slot : Slot) → AreLeavesEncodable level slot → IsTreeOf ms level first (named names slot) → IsTreeOf (unnamed ms) level first slot
    unfolding IsTreeOf AreLeavesEncodable
    unnamed-tree ms zero first slot encoded tree = elim (variant-of slot) [
      | inl e ↦ (let none = page-empty (at ms first) (sym (ap (named names) e ∙ named-Empty names) ∙ page-of ms first (named names slot) tree) in
          IsTreeOf-page (unnamed ms) first None slot (at-unnamed ms first ∙ ap (option_map unnamed_entry) none) e)
      | inr (inl p) ↦ (
          let found = page-leaf (at ms first) (named_entry names p.0) (sym (ap (named names) p.1 ∙ named-leaf names p.0) ∙ page-of ms first (named names slot) tree) in
          IsTreeOf-page (unnamed ms) first (Some p.0) slot
          (at-unnamed ms first ∙ ap (option_map unnamed_entry) found ∙ ap (λ (e : Entry). Some e) (renamed p.0 1 (encoded p.0 p.1))) p.1)
      | inr (inr p) ↦ absurd (no-table-at-zero ms first (named names slot) tree (is_table-named names slot ∙ some-table slot p))
    ]
    unnamed-tree ms (suc level) first slot encoded tree =
        let lower : suc level - 1 ≡ level = omega arith in
        subst (λ (w : Wanted). HoldsWanted w slot ((k : ℕ) → k < 512 → IsTreeOf (unnamed ms) level (first + k * pages_of level) (child slot k))) (sym (wanted-unnamed ms (suc level) first))
        (holds-unnamed (wanted ms (suc level) first) slot ((k : ℕ) → k < 512 → IsTreeOf ms level (first + k * pages_of level) (child (named names slot) k)) _
        (λ e is. renamed e (pages_of (suc level)) (encoded.0 e is))
        (λ table parts k below. unnamed-tree ms level (first + k * pages_of level) (child slot k) (encoded.1 k below)
        (subst (λ (s : Slot). IsTreeOf ms level (first + k * pages_of level) s) (child-named names slot k) (parts k below)))
        (opened ms level first (named names slot) tree))

    -- a tree that fits a list outside the range fits the list that is encoded so
    pub encoded-outside : (ms : List Mapping) (range : PageRangeState) (slot : Slot) → PAGES ≤ pages_of 5 → AreLeavesEncodable 5 slot → IsTreeOutside ms range 5 0 (named names slot) →
        IsEncodableOutside (unnamed ms) range 5 0 slot
    encoded-outside ms range slot all encoded outside =
        let tree = unnamed-tree outside.earlier 5 0 slot encoded outside.tree in
        let laid = laid_out-unnamed outside.earlier 0 outside.laid_out in
        record {
          earlier = unnamed outside.earlier;
          laid_out = laid;
          encoded = list-encoded (unnamed outside.earlier) 0 laid (λ page low high. page-encoded (unnamed outside.earlier) 5 0 page slot laid encoded tree (omega arith) (omega (arith, high, all)));
          alike = alike-unnamed range outside.earlier ms outside.alike;
          tree = tree;
        }

-- the counts of a page table are those of the tree that contracts see
pub counted-named : (root seen : Slot) (counts : TableCounts) (names : List BufferId) → IsConsistent root counts names → named names root ≡ seen → (target : ℕ) →
    count_at counts target ≡ tables_at target 5 seen
counted-named root seen counts names kept is target = kept.counted target ∙ sym (tables_at-named names target 5 root) ∙ ap (tables_at target 5) is

encoded-by : (names : List BufferId) → AreNames names → (b : Backing) (n : ℕ) → IsNamed names b n → IsEncodable (unnamed_backing b) n
encoded-by names are (backing.Buffer id page) n is = (refl, omega (arith, are.few, slice_get_within names id.index id is.0), is.1)
encoded-by names are backing.Zero n is = tt

-- a list whose buffers are named can be encoded
pub named-encoded : (names : List BufferId) (ms : List Mapping) → AreNames names → AreNamed names ms → AreEncodable (unnamed ms)
named-encoded names ms are named =
    let one : (b : Backing) (n : ℕ) → IsNamed names b n → IsEncodable (unnamed_backing b) n = encoded-by names are in
    All-map (λ m. IsEncodable m.backing m.range.count) unnamed_mapping ms (λ k d below. one (slice_index_or ms k d).backing (slice_index_or ms k d).range.count (named k d below))

-- other names, the same tables
pub present-named : (names : List BufferId) (root : Slot) (table : PageTable) (other : List BufferId) → named other root ≡ table.root →
    tables_by_kind (record { root = named names root; names = names }) ≡ tables_by_kind table
present-named names root table other is =
    let same : (target : ℕ) → tables_at target 5 (named names root) ≡ tables_at target 5 table.root =
    λ target. tables_at-named names target 5 root ∙ sym (tables_at-named other target 5 root) ∙ ap (tables_at target 5) is in
    rw (same 0, same 1, same 2, same 3, same 4) refl
