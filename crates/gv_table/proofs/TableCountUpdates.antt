-- The `TableCounts` stay right as tables come and go.
use Rattle.std.proofs.Common.{◌≡◌, ◌≢◌, ℕ, ◌+◌, ◌-◌, ◌<◌, false, nat_eq, List, slice_index_or, Box, Global, arith, ap}
use Rattle.gv_types.specs.Page.{PAGES}
use Rattle.gv_table.specs.declared.slot.Slot.{Slot}
use Rattle.gv_table.specs.declared.slot.Slot.TheVariants.{Empty, Table}
use Rattle.gv_table.specs.declared.table_counts.TableCounts.{TableCounts}
use Rattle.gv_table.specs.Levels.{pages_of}
use Rattle.gv_table.specs.Tree.{is_table, child}
use Rattle.gv_table.specs.Counts.{tables_at, row_tables_at, count_at, one_if, one_if_new, CountsSlot, CountsRow}
use Rattle.gv_table.proofs.TablesInSlots.{tables_at-other, tables_at-parts, tables_at-Table, one_if-small}
use Rattle.gv_table.proofs.FewerTablesThanPages.{tables_at-few}
use Rattle.gv_table.proofs.PagesOf.{pages_of-some, pages_of-below}
use Rattle.gv_table.proofs.Sums.{sum_below-at, sum_below-same, sum_below-change, sum_below-few-but}

-- there is room for a table instead of a slot that is none
pub part-room : (counts : TableCounts) (level target : ℕ) (slot : Slot) → CountsSlot counts level slot → is_table slot ≡ false → count_at counts target < PAGES
part-room counts level target slot part other =
    let none = tables_at-other target level slot other in
    let some = pages_of-some level in
    let room = part.room target in
    omega (arith, none, some, room)

row-parts : (target level : ℕ) (slot : Slot) (row : List Slot) → 0 < level →
    ((t k : ℕ) → k < 512 → tables_at t (level - 1) (slice_index_or row k Empty) ≡ tables_at t (level - 1) (child slot k)) →
    tables_at target level slot + one_if_new target (level - 1) (is_table slot) ≡ one_if (nat_eq target (level - 1)) + row_tables_at target (level - 1) row
row-parts target level slot row some same =
    let sums = sum_below-same 512 (λ k. tables_at target (level - 1) (slice_index_or row k Empty)) (λ k. tables_at target (level - 1) (child slot k)) (λ k below. same target k below) in
    let parts = tables_at-parts target level slot some in
    omega (arith, sums, parts)

-- a slot made a table: the counts counts its row
pub divided-row : (before after : TableCounts) (level : ℕ) (slot : Slot) (row : List Slot) → 0 < level → CountsSlot before level slot →
    ((target : ℕ) → count_at after target ≡ count_at before target + one_if_new target (level - 1) (is_table slot)) →
    ((t k : ℕ) → k < 512 → tables_at t (level - 1) (slice_index_or row k Empty) ≡ tables_at t (level - 1) (child slot k)) →
    CountsRow after (level - 1) row
divided-row before after level slot row some part made same = record {
  counted = λ target.
      let parts = row-parts target level slot row some same in
      let counts = made target in
      let all = part.counted target in
      omega (arith, parts, counts, all);
  room = λ target.
      let parts = row-parts target level slot row some same in
      let counts = made target in
      let all = part.room target in
      let small = one_if-small (nat_eq target (level - 1)) in
      let pages = pages_of-below level some in
      omega (arith, parts, counts, all, small, pages);
}

-- the slot is a table, and the counts has the tables of its row
pub divided-counted : (before made after : TableCounts) (level : ℕ) (slot : Slot) (row : List Slot) (slots : Box (List Slot) Global) → 0 < level →
    ((target : ℕ) → count_at made target ≡ count_at before target + one_if_new target (level - 1) (is_table slot)) →
    ((t k : ℕ) → k < 512 → tables_at t (level - 1) (slice_index_or row k Empty) ≡ tables_at t (level - 1) (child slot k)) →
    ((target : ℕ) → count_at after target + row_tables_at target (level - 1) row ≡ count_at made target + row_tables_at target (level - 1) slots.value) →
    (target : ℕ) → count_at after target + tables_at target level slot ≡ count_at before target + tables_at target level (Table slots)
divided-counted before made after level slot row slots some raised same painted target =
    let parts = row-parts target level slot row some same in
    let whole = tables_at-Table target level slots some in
    let counts = raised target in
    let end = painted target in
    omega (arith, parts, whole, counts, end)

-- a row of which some slots are painted: the next one is a part of the counts
pub row-part : (before now : TableCounts) (level i : ℕ) (old row : List Slot) → i < 512 → CountsRow before level old →
    ((target : ℕ) → count_at now target + row_tables_at target level old ≡ count_at before target + row_tables_at target level row) →
    CountsSlot now level (slice_index_or row i Empty)
row-part before now level i old row below part counted = record {
  counted = λ target.
      let here = sum_below-at 512 (λ k. tables_at target level (slice_index_or row k Empty)) i below in
      let counts = counted target in
      let all = part.counted target in
      omega (arith, here, counts, all);
  room = λ target.
      let few = sum_below-few-but 512 (λ k. tables_at target level (slice_index_or row k Empty)) (pages_of level) i below
      (λ k within. tables_at-few target level (slice_index_or row k Empty)) in
      let counts = counted target in
      let all = part.room target in
      omega (arith, few, counts, all);
}

-- and one more of them is painted
pub row-counted : (before now next : TableCounts) (level i : ℕ) (old row after : List Slot) → i < 512 →
    ((k : ℕ) → k ≢ i → slice_index_or after k Empty ≡ slice_index_or row k Empty) →
    ((target : ℕ) → count_at now target + row_tables_at target level old ≡ count_at before target + row_tables_at target level row) →
    ((target : ℕ) → count_at next target + tables_at target level (slice_index_or row i Empty) ≡ count_at now target + tables_at target level (slice_index_or after i Empty)) →
    (target : ℕ) → count_at next target + row_tables_at target level old ≡ count_at before target + row_tables_at target level after
row-counted before now next level i old row after below same counted painted target =
    let change = sum_below-change 512 (λ k. tables_at target level (slice_index_or row k Empty)) (λ k. tables_at target level (slice_index_or after k Empty)) i below
    (λ k differ. ap (λ (s : Slot). tables_at target level s) (same k differ)) in
    let counts = counted target in
    let end = painted target in
    omega (arith, change, counts, end)

-- a row of which some slots are painted is counted as it was
pub row-still : (before now : TableCounts) (level : ℕ) (old row : List Slot) → CountsRow before level old →
    ((target : ℕ) → count_at now target + row_tables_at target level old ≡ count_at before target + row_tables_at target level row) → CountsRow now level row
row-still before now level old row part counted = record {
  counted = λ target. let counts = counted target in let all = part.counted target in omega (arith, counts, all);
  room = λ target. let counts = counted target in let all = part.room target in omega (arith, counts, all);
}
