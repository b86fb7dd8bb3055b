-- Slots that get others with as many tables.
use Rattle.std.proofs.Common.{◌≡◌, ◌≢◌, ℕ, ◌+◌, ◌-◌, ◌<◌, nat_eq, List, length, slice_index_or, slice_set, Box, Global, arith, inl, inr, refl, sym, ap, ◌∙◌, subst}
use Rattle.std.proofs.lemmas.List.{get_or_default}
use Rattle.gv_table.specs.declared.slot.Slot.{Slot}
use Rattle.gv_table.specs.declared.slot.Slot.TheVariants.{Empty, Table}
use Rattle.gv_table.specs.Counts.{tables_at, row_tables_at, one_if}
use Rattle.gv_table.proofs.TablesInSlots.{tables_at-Table}
use Rattle.gv_table.proofs.OneSlotPainted.{sides}
use Rattle.gv_table.proofs.RowLoops.{row-other, row-here}
use Rattle.gv_table.proofs.Sums.{sum_below-same}

-- a table whose slots have as many as before has as many
pub kept-counted : (target level : ℕ) (old new : Box (List Slot) Global) → 0 < level → row_tables_at target (level - 1) new.value ≡ row_tables_at target (level - 1) old.value →
    tables_at target level (Table new) ≡ tables_at target level (Table old)
kept-counted target level old new some same =
    tables_at-Table target level new some ∙ ap (λ (n : ℕ). one_if (nat_eq target (level - 1)) + n) same ∙ sym (tables_at-Table target level old some)

-- and a row in which one slot gets another
pub kept-row : (target level i : ℕ) (row : List Slot) (d new : Slot) → i < length row → tables_at target level new ≡ tables_at target level (slice_index_or row i d) →
    row_tables_at target level (slice_set row i new) ≡ row_tables_at target level row
kept-row target level i row d new within same =
    let after : List Slot = slice_set row i new in
    let here : tables_at target level (slice_index_or after i Empty) ≡ tables_at target level (slice_index_or row i Empty) =
    ap (λ (s : Slot). tables_at target level s) (row-here after row i new refl within) ∙ same ∙ ap (λ (s : Slot). tables_at target level s) (get_or_default row i d Empty within) in
    let other : (k : ℕ) → k ≢ i → tables_at target level (slice_index_or after k Empty) ≡ tables_at target level (slice_index_or row k Empty) =
    λ k differ. ap (λ (s : Slot). tables_at target level s) (row-other after row i new refl k differ) in
    sum_below-same 512 (λ k. tables_at target level (slice_index_or after k Empty)) (λ k. tables_at target level (slice_index_or row k Empty))
    (λ k below. elim (sides k i) [
      | inl e ↦ (let P : ℕ → Type 0 = λ j. tables_at target level (slice_index_or after j Empty) ≡ tables_at target level (slice_index_or row j Empty) in subst P (sym e) here)
      | inr (inl less) ↦ other k (omega arith)
      | inr (inr more) ↦ other k (omega arith)
    ])
