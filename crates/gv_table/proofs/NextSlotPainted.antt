-- One more slot of a row is painted.
use Rattle.std.proofs.Common.{◌≡◌, ◌≢◌, ℕ, ◌+◌, ◌*◌, ◌<◌, ◌≤◌, List, slice_index_or, Box, Global, arith, sym, ap, ◌∙◌, subst, ◌⊎◌, inl, inr, refl}
use Rattle.std.proofs.lemmas.Bool.{cases_lt}
use Rattle.gv_types.specs.Page.{PAGES}
use Rattle.gv_types.specs.PageRange.{PageRangeState, end_of}
use Rattle.gv_types.specs.declared.mapping.Mapping.{Mapping}
use Rattle.gv_ranges.specs.List.{IsLaidOut}
use Rattle.gv_table.specs.Kinds.{Kind}
use Rattle.gv_table.specs.declared.slot.Slot.{Slot}
use Rattle.gv_table.specs.declared.slot.Slot.TheVariants.{Empty, Table}
use Rattle.gv_table.specs.Levels.{pages_of, slot_pages}
use Rattle.gv_table.specs.Sums.{sum_below}
use Rattle.gv_table.specs.Tree.{IsTreeOf, IsEncodableOutside, child}
use Rattle.gv_table.specs.Counts.{gained, lost, row_gained, row_lost, tables_at, HasSameTables}
use Rattle.gv_table.proofs.TablesInSlots.{gained-same, lost-same}
use Rattle.gv_table.proofs.Sums.{sum_below-change, sum_below-same, sum_below-zeros}
use Rattle.gv_table.proofs.PagesOf.{part-within}
use Rattle.gv_table.proofs.Slots.{child-Table}
use Rattle.gv_table.proofs.RangesMeet.{meets-after}
use Rattle.gv_table.proofs.Trees.{outside-apart}
use Rattle.gv_table.proofs.TablesAsWanted.{tree-match, gained-match, lost-match}

split : (i n : ℕ) → i < n + 1 → (i < n) ⊎ (i ≡ n)
split i n below = grind arith

module _ (ms : List Mapping) (level first i : ℕ) (before row after : List Slot)
    (same : (k : ℕ) → k ≢ i → slice_index_or after k Empty ≡ slice_index_or row k Empty)
    (above : (k : ℕ) → i ≤ k → slice_index_or row k Empty ≡ slice_index_or before k Empty)
    (laid : IsLaidOut ms)
    (here : IsTreeOf ms level (first + i * pages_of level) (slice_index_or after i Empty)) where
  pub painted-below :
      ((k : ℕ) → k < i → IsTreeOf ms level (first + k * pages_of level) (slice_index_or row k Empty)) →
      (k : ℕ) → k < i + 1 → IsTreeOf ms level (first + k * pages_of level) (slice_index_or after k Empty)
  painted-below below k less =
      elim (split k i less) [
        | inl smaller ↦ (let differ : k ≢ i = omega arith in
            subst (λ (s : Slot). IsTreeOf ms level (first + k * pages_of level) s) (sym (same k differ)) (below k smaller))
        | inr e ↦ (let P : ℕ → Type 0 = λ j. IsTreeOf ms level (first + j * pages_of level) (slice_index_or after j Empty) in subst P (sym e) here)
      ]

  pub painted-above : (k : ℕ) → i + 1 ≤ k → slice_index_or after k Empty ≡ slice_index_or before k Empty
  painted-above k more = let differ : k ≢ i = omega arith in same k differ ∙ above k (omega arith)

  pub painted-gained : (kind : Kind) → i < 512 → row_gained kind ms level first after + gained kind ms level (first + i * pages_of level) (slice_index_or row i Empty) ≡ row_gained kind ms level first row
  painted-gained kind within =
      let f = λ (k : ℕ). gained kind ms level (first + k * pages_of level) (slice_index_or row k Empty) in
      let g = λ (k : ℕ). gained kind ms level (first + k * pages_of level) (slice_index_or after k Empty) in
      let e = sum_below-change 512 f g i within (λ k differ. ap (λ (s : Slot). gained kind ms level (first + k * pages_of level) s) (same k differ)) in
      let z = gained-match kind ms level (first + i * pages_of level) (slice_index_or after i Empty) (tree-match ms level (first + i * pages_of level) (slice_index_or after i Empty) laid here) in
      omega (arith, e, z)

  pub painted-lost : (kind : Kind) → i < 512 → row_lost kind ms level first after + lost kind ms level (first + i * pages_of level) (slice_index_or row i Empty) ≡ row_lost kind ms level first row
  painted-lost kind within =
      let f = λ (k : ℕ). lost kind ms level (first + k * pages_of level) (slice_index_or row k Empty) in
      let g = λ (k : ℕ). lost kind ms level (first + k * pages_of level) (slice_index_or after k Empty) in
      let e = sum_below-change 512 f g i within (λ k differ. ap (λ (s : Slot). lost kind ms level (first + k * pages_of level) s) (same k differ)) in
      let z = lost-match kind ms level (first + i * pages_of level) (slice_index_or after i Empty) (tree-match ms level (first + i * pages_of level) (slice_index_or after i Empty) laid here) in
      omega (arith, e, z)

-- a row of the tree gains nothing and loses nothing
pub row_gained-zero : (kind : Kind) (ms : List Mapping) (level first : ℕ) (row : List Slot) → IsLaidOut ms →
    ((k : ℕ) → k < 512 → IsTreeOf ms level (first + k * pages_of level) (slice_index_or row k Empty)) → row_gained kind ms level first row ≡ 0
row_gained-zero kind ms level first row laid tree =
    sum_below-zeros 512 (λ k. gained kind ms level (first + k * pages_of level) (slice_index_or row k Empty))
    (λ k below. gained-match kind ms level (first + k * pages_of level) (slice_index_or row k Empty) (tree-match ms level (first + k * pages_of level) (slice_index_or row k Empty) laid (tree k below)))

pub row_lost-zero : (kind : Kind) (ms : List Mapping) (level first : ℕ) (row : List Slot) → IsLaidOut ms →
    ((k : ℕ) → k < 512 → IsTreeOf ms level (first + k * pages_of level) (slice_index_or row k Empty)) → row_lost kind ms level first row ≡ 0
row_lost-zero kind ms level first row laid tree =
    sum_below-zeros 512 (λ k. lost kind ms level (first + k * pages_of level) (slice_index_or row k Empty))
    (λ k below. lost-match kind ms level (first + k * pages_of level) (slice_index_or row k Empty) (tree-match ms level (first + k * pages_of level) (slice_index_or row k Empty) laid (tree k below)))

-- the slots of a row are right where some are painted and the rest are apart from the range
pub row-tree : (ms : List Mapping) (range : PageRangeState) (level first i : ℕ) (before row : List Slot) → IsLaidOut ms → first + 512 * pages_of level ≤ PAGES →
    ((k : ℕ) → k < i → IsTreeOf ms level (first + k * pages_of level) (slice_index_or row k Empty)) →
    ((k : ℕ) → i ≤ k → slice_index_or row k Empty ≡ slice_index_or before k Empty) →
    ((k : ℕ) → k < 512 → IsEncodableOutside ms range level (first + k * pages_of level) (slice_index_or before k Empty)) →
    ((k : ℕ) → i ≤ k → k < 512 → end_of range ≤ first + k * pages_of level) →
    (k : ℕ) → k < 512 → IsTreeOf ms level (first + k * pages_of level) (slice_index_or row k Empty)
row-tree ms range level first i before row laid within painted untouched outside behind k below =
    elim (cases_lt k i) [
      | inl less ↦ painted k less
      | inr from ↦ (
          let fits = part-within k (512 * pages_of level) (pages_of level) below refl in
          let apart = meets-after (slot_pages level (first + k * pages_of level)) range (behind k from below) in
          subst (λ (s : Slot). IsTreeOf ms level (first + k * pages_of level) s) (sym (untouched k from))
          (outside-apart ms range level (first + k * pages_of level) (slice_index_or before k Empty) laid (outside k below) (omega (arith, fits)) apart))
    ]

-- the slots of a table of pages gain and lose no table, and hold none
lost-page : (kind : Kind) (ms : List Mapping) (first : ℕ) (slot : Slot) → lost kind ms 0 first slot ≡ 0
unfolding lost
lost-page kind ms first slot = refl

gained-page : (kind : Kind) (ms : List Mapping) (first : ℕ) (slot : Slot) → gained kind ms 0 first slot ≡ 0
unfolding gained
gained-page kind ms first slot = refl

module _ (kind : Kind) (ms : List Mapping) (level first : ℕ) (slot : Slot) (low : level ≡ 0) where
  pub pages-lost : sum_below 512 (λ k. lost kind ms level (first + k * pages_of level) (child slot k)) ≡ 0
  pages-lost =
      sum_below-zeros 512 (λ k. lost kind ms level (first + k * pages_of level) (child slot k))
      (λ k below. ap (λ (n : ℕ). lost kind ms n (first + k * pages_of level) (child slot k)) low ∙ lost-page kind ms (first + k * pages_of level) (child slot k))

  pub pages-gained : sum_below 512 (λ k. gained kind ms level (first + k * pages_of level) (child slot k)) ≡ 0
  pages-gained =
      sum_below-zeros 512 (λ k. gained kind ms level (first + k * pages_of level) (child slot k))
      (λ k below. ap (λ (n : ℕ). gained kind ms n (first + k * pages_of level) (child slot k)) low ∙ gained-page kind ms (first + k * pages_of level) (child slot k))

tables_at-page : (target : ℕ) (slot : Slot) → tables_at target 0 slot ≡ 0
unfolding tables_at
tables_at-page target slot = refl

pub pages-tables : (target level : ℕ) (slot : Slot) → level ≡ 0 → sum_below 512 (λ k. tables_at target level (child slot k)) ≡ 0
pages-tables target level slot low =
    sum_below-zeros 512 (λ k. tables_at target level (child slot k)) (λ k below. ap (λ (n : ℕ). tables_at target n (child slot k)) low ∙ tables_at-page target (child slot k))

-- the row of a slot that is a table has the slot's parts
pub table-row : (slot : Slot) (slots : Box (List Slot) Global) (row : List Slot) → slot ≡ Table slots → row ≡ slots.value →
    (k : ℕ) → slice_index_or row k Empty ≡ child slot k
table-row slot slots row is same k =
    ap (λ (l : List Slot). slice_index_or l k Empty) same ∙ sym (ap (λ (s : Slot). child s k) is ∙ child-Table slots k)

-- so it has the tables that the parts of the slot before had
pub row-tables : (old slot : Slot) (row : List Slot) → ((k : ℕ) → slice_index_or row k Empty ≡ child slot k) →
    ((k : ℕ) → k < 512 → HasSameTables (child old k) (child slot k)) → (k : ℕ) → k < 512 → HasSameTables (child old k) (slice_index_or row k Empty)
row-tables old slot row same tables k below = subst (λ (s : Slot). HasSameTables (child old k) s) (sym (same k)) (tables k below)

-- the parts of a divided slot gain and lose what the slot's did
module _ (ms : List Mapping) (level first : ℕ) (slot : Slot) (row : List Slot)
    (tables : (k : ℕ) → k < 512 → HasSameTables (child slot k) (slice_index_or row k Empty)) where
  pub lost-divided : (kind : Kind) → row_lost kind ms level first row ≡ sum_below 512 (λ k. lost kind ms level (first + k * pages_of level) (child slot k))
  lost-divided kind =
      sum_below-same 512 (λ k. lost kind ms level (first + k * pages_of level) (slice_index_or row k Empty)) (λ k. lost kind ms level (first + k * pages_of level) (child slot k))
      (λ k below. sym (lost-same kind ms level (first + k * pages_of level) _ _ (tables k below)))

  pub gained-divided : (kind : Kind) → row_gained kind ms level first row ≡ sum_below 512 (λ k. gained kind ms level (first + k * pages_of level) (child slot k))
  gained-divided kind =
      sum_below-same 512 (λ k. gained kind ms level (first + k * pages_of level) (slice_index_or row k Empty)) (λ k. gained kind ms level (first + k * pages_of level) (child slot k))
      (λ k below. sym (gained-same kind ms level (first + k * pages_of level) _ _ (tables k below)))
