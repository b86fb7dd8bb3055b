-- A row of slots where the whole range lies in one of them, and that one alone is painted.
use Rattle.std.proofs.Common.{◌≡◌, ◌≢◌, ℕ, ◌+◌, ◌-◌, ◌*◌, ◌<◌, ◌≤◌, List, slice_index_or, arith, inl, inr, refl, sym, subst, ◌⊎◌}
use Rattle.gv_types.specs.Page.{PAGES}
use Rattle.gv_types.specs.PageRange.{PageRangeState}
use Rattle.gv_types.specs.declared.mapping.Mapping.{Mapping}
use Rattle.gv_ranges.specs.List.{IsLaidOut}
use Rattle.gv_table.specs.Kinds.{Kind}
use Rattle.gv_table.specs.declared.slot.Slot.{Slot}
use Rattle.gv_table.specs.declared.slot.Slot.TheVariants.{Empty}
use Rattle.gv_table.specs.Levels.{pages_of, slot_pages, LiesInSlot, IsInPart}
use Rattle.gv_table.specs.Tree.{IsTreeOf, IsEncodableOutside}
use Rattle.gv_table.specs.Counts.{gained, lost, row_gained, row_lost}
use Rattle.gv_table.proofs.NextSlotPainted.{painted-gained, painted-lost, row_gained-zero, row_lost-zero}
use Rattle.gv_table.proofs.PagesOf.{pages_of-below, part-within, rows-rise}
use Rattle.gv_table.proofs.RangesMeet.{meets-after, meets-before}
use Rattle.gv_table.proofs.Trees.{outside-apart}

-- the slot that a row fills is as large as the row
pub row-pages : (level : ℕ) → pages_of (level + 1) ≡ 512 * pages_of level
row-pages level = let lower : level + 1 - 1 ≡ level = omega arith in rw lower at (pages_of-below (level + 1) (omega arith))

pub in-row : (range : PageRangeState) (level first index : ℕ) → IsInPart range (level + 1) first index → LiesInSlot range level (first + index * pages_of level)
in-row range level first index is = let lower : level + 1 - 1 ≡ level = omega arith in rw lower at is.part

pub sides : (k i : ℕ) → (k ≡ i) ⊎ ((k < i) ⊎ (i < k))
sides k i = grind arith

module _ (ms : List Mapping) (range : PageRangeState) (level first i : ℕ) (row after : List Slot)
    (laid : IsLaidOut ms) (within : first + 512 * pages_of level ≤ PAGES) (below : i < 512) (lies : LiesInSlot range level (first + i * pages_of level))
    (outside : (k : ℕ) → k < 512 → IsEncodableOutside ms range level (first + k * pages_of level) (slice_index_or row k Empty))
    (same : (k : ℕ) → k ≢ i → slice_index_or after k Empty ≡ slice_index_or row k Empty)
    (here : IsTreeOf ms level (first + i * pages_of level) (slice_index_or after i Empty)) where
  -- the other slots are apart from the range
  pub one-tree : (k : ℕ) → k < 512 → IsTreeOf ms level (first + k * pages_of level) (slice_index_or after k Empty)
  one-tree k inside =
      let p : ℕ = pages_of level in
      let fits = part-within k (512 * pages_of level) (pages_of level) inside refl in
      let from = lies.from in
      let upto = lies.upto in
      let Tree : Slot → Type 0 = λ s. IsTreeOf ms level (first + k * pages_of level) s in
      let apart = outside-apart ms range level (first + k * pages_of level) (slice_index_or row k Empty) laid (outside k inside) (omega (arith, fits, within)) in
      elim (sides k i) [
        | inl e ↦ (let P : ℕ → Type 0 = λ j. IsTreeOf ms level (first + j * pages_of level) (slice_index_or after j Empty) in subst P (sym e) here)
        | inr (inl less) ↦ (
            let rise = rows-rise k i p less in
            subst Tree (sym (same k (omega arith))) (apart (meets-before (slot_pages level (first + k * pages_of level)) range (omega (arith, rise, from)))))
        | inr (inr more) ↦ (
            let rise = rows-rise i k p more in
            subst Tree (sym (same k (omega arith))) (apart (meets-after (slot_pages level (first + k * pages_of level)) range (omega (arith, rise, upto)))))
      ]

  -- so the row gains and loses what that slot does
  pub one-gained : (kind : Kind) → row_gained kind ms level first row ≡ gained kind ms level (first + i * pages_of level) (slice_index_or row i Empty)
  one-gained kind =
      let whole = painted-gained ms level first i row row after same (λ k above. refl) laid here kind below in
      let none = row_gained-zero kind ms level first after laid one-tree in
      omega (arith, whole, none)

  pub one-lost : (kind : Kind) → row_lost kind ms level first row ≡ lost kind ms level (first + i * pages_of level) (slice_index_or row i Empty)
  one-lost kind =
      let whole = painted-lost ms level first i row row after same (λ k above. refl) laid here kind below in
      let none = row_lost-zero kind ms level first after laid one-tree in
      omega (arith, whole, none)
