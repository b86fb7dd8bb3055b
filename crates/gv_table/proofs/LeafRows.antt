-- A row whose slots in a range become leaves or empty, where none was a table.
use Rattle.std.proofs.Common.{◌≡◌, ℕ, zero, suc, ◌+◌, ◌*◌, ◌<◌, ◌≤◌, inl, inr, true, false, List, slice_index_or, arith, refl, sym, ◌∙◌, subst}
use Rattle.gv_types.specs.Page.{PAGES}
use Rattle.gv_types.specs.PageRange.{PageRangeState, meets}
use Rattle.gv_types.specs.declared.mapping.Mapping.{Mapping}
use Rattle.gv_ranges.specs.List.{IsLaidOut}
use Rattle.gv_table.specs.declared.slot.Slot.{Slot}
use Rattle.gv_table.specs.declared.slot.Slot.TheVariants.{Empty}
use Rattle.gv_table.specs.declared.wanted.Wanted.{Wanted}
use Rattle.gv_table.specs.declared.wanted.Wanted.TheVariants as variant
use Rattle.gv_table.specs.Counts.{lost, row_lost, tables_at, row_tables_at, HasSameTables}
use Rattle.gv_table.specs.Kinds.{Kind}
use Rattle.gv_table.specs.Leaves.{IsLeafOf}
use Rattle.gv_table.specs.Levels.{pages_of, slot_pages}
use Rattle.gv_table.specs.Patch.{IsPatched}
use Rattle.gv_table.specs.Shape.{IsShaped}
use Rattle.gv_table.specs.Tree.{HoldsWanted, IsTreeOf, IsEncodableOutside, is_table}
use Rattle.gv_table.specs.Wanted.{wanted, is_divided}
use Rattle.gv_table.proofs.TablesInSlots.{lost-same, tables_at-same}
use Rattle.gv_table.proofs.CoveringMappings.{true-or-false}
use Rattle.gv_table.proofs.TablesAsWanted.{match-by}
use Rattle.gv_table.proofs.PagesOf.{part-within}
use Rattle.gv_table.proofs.NextSlotPainted.{row_lost-zero}
use Rattle.gv_table.proofs.Patched.{patched-wanted}
use Rattle.gv_table.proofs.Shapes.{shaped-other}
use Rattle.gv_table.proofs.Sums.{sum_below-same}
use Rattle.gv_table.proofs.Trees.{opened, outside-apart, page-no-table-slot}

-- of a slot that is no table the parts don't matter
whole-by : (w : Wanted) (slot : Slot) (A B : Type 0) → is_divided w ≡ false → HoldsWanted w slot A → HoldsWanted w slot B
whole-by variant.Nothing slot A B whole holds = holds
whole-by (variant.Entry entry) slot A B whole holds = holds
whole-by variant.Table slot A B whole holds = cc

-- so such a slot of one list's tree is one of another's that wants the same of it
tree-same : (one other : List Mapping) (level first : ℕ) (slot : Slot) → 0 < level → wanted one level first ≡ wanted other level first →
    is_divided (wanted other level first) ≡ false → IsTreeOf other level first slot → IsTreeOf one level first slot
unfolding IsTreeOf
tree-same one other zero first slot some same whole tree = absurd (omega arith)
tree-same one other (suc level) first slot some same whole tree =
    rw same (whole-by (wanted other (suc level) first) slot _ _ whole (opened other level first slot tree))

no-leaf-table : (ms : List Mapping) (level first : ℕ) (slot : Slot) → is_divided (wanted ms level first) ≡ false → IsTreeOf ms level first slot → is_table slot ≡ false
no-leaf-table ms zero first slot whole tree = page-no-table-slot ms first slot tree
no-leaf-table ms (suc level) first slot whole tree = match-by (wanted ms (suc level) first) slot _ (opened ms level first slot tree) ∙ whole

module _ (pieces : List Mapping) (range : PageRangeState) (level first : ℕ) (row after : List Slot)
    (inside : (k : ℕ) → k < 512 → meets (slot_pages level (first + k * pages_of level)) range ≡ true →
    IsLeafOf pieces range level (first + k * pages_of level) (slice_index_or row k Empty) (slice_index_or after k Empty))
    (outside : (k : ℕ) → k < 512 → meets (slot_pages level (first + k * pages_of level)) range ≡ false → slice_index_or after k Empty ≡ slice_index_or row k Empty) where
  no-table : (k : ℕ) (below : k < 512) → meets (slot_pages level (first + k * pages_of level)) range ≡ true → is_table (slice_index_or after k Empty) ≡ false
  no-table k below met =
      let leaf = inside k below met in
      no-leaf-table pieces level (first + k * pages_of level) (slice_index_or after k Empty) leaf.whole.undivided leaf.tree

  same-tables : (k : ℕ) → k < 512 → HasSameTables (slice_index_or after k Empty) (slice_index_or row k Empty)
  same-tables k below =
      elim (true-or-false (meets (slot_pages level (first + k * pages_of level)) range)) [
        | inl met ↦ inr (no-table k below met, (inside k below met).other)
        | inr apart ↦ inl (outside k below apart)
      ]

  -- it has as many tables as before
  pub leaves-counted : (target : ℕ) → row_tables_at target level after ≡ row_tables_at target level row
  leaves-counted target =
      sum_below-same 512 (λ k. tables_at target level (slice_index_or after k Empty)) (λ k. tables_at target level (slice_index_or row k Empty))
      (λ k below. tables_at-same target level _ _ (same-tables k below))

  pub leaves-shaped : ((k : ℕ) → k < 512 → IsShaped level (slice_index_or row k Empty)) → (k : ℕ) → k < 512 → IsShaped level (slice_index_or after k Empty)
  leaves-shaped shaped k below =
      elim (true-or-false (meets (slot_pages level (first + k * pages_of level)) range)) [
        | inl met ↦ shaped-other level (slice_index_or after k Empty) (no-table k below met)
        | inr apart ↦ subst (λ (s : Slot). IsShaped level s) (sym (outside k below apart)) (shaped k below)
      ]

  -- it fits each list that the pieces tell of, and loses no table
  module _ (ms : List Mapping) (held : PageRangeState) (is : IsPatched ms pieces range held) (laid : IsLaidOut pieces) (some : 0 < level)
      (within : first + 512 * pages_of level ≤ PAGES)
      (encoded : (k : ℕ) → k < 512 → IsEncodableOutside ms range level (first + k * pages_of level) (slice_index_or row k Empty)) where
    pub leaves-tree : (k : ℕ) → k < 512 → IsTreeOf ms level (first + k * pages_of level) (slice_index_or after k Empty)
    leaves-tree k below =
        elim (true-or-false (meets (slot_pages level (first + k * pages_of level)) range)) [
          | inl met ↦ (
              let leaf = inside k below met in
              tree-same ms pieces level (first + k * pages_of level) (slice_index_or after k Empty) some
              (patched-wanted ms pieces range held is level (first + k * pages_of level) laid leaf.whole.within) leaf.whole.undivided leaf.tree)
          | inr apart ↦ (
              let fits = part-within k (512 * pages_of level) (pages_of level) below refl in
              subst (λ (s : Slot). IsTreeOf ms level (first + k * pages_of level) s) (sym (outside k below apart))
              (outside-apart ms range level (first + k * pages_of level) (slice_index_or row k Empty) is.laid_out (encoded k below) (omega (arith, fits, within)) apart))
        ]

    pub leaves-lost : (kind : Kind) → row_lost kind ms level first row ≡ 0
    leaves-lost kind =
        sum_below-same 512 (λ k. lost kind ms level (first + k * pages_of level) (slice_index_or row k Empty)) (λ k. lost kind ms level (first + k * pages_of level) (slice_index_or after k Empty))
        (λ k below. sym (lost-same kind ms level (first + k * pages_of level) _ _ (same-tables k below))) ∙
        row_lost-zero kind ms level first after is.laid_out leaves-tree
