-- How many tables a slot holds, gains and loses.
use Rattle.std.specs.Prelude.{◌≡◌, ◌⊎◌, ℕ, zero, suc, ◌+◌, ◌-◌, ◌*◌, ◌<◌, ◌≤◌, Bool, true, false, not, ◌&&◌, ◌||◌, nat_eq, List, slice_index_or, if◌then◌else◌}
use Rattle.gv_types.specs.PageRange.{PageRangeState, meets, lies_in}
use Rattle.gv_types.specs.declared.mapping.Mapping.{Mapping}
use Rattle.gv_types.specs.Page.{PAGES}
use Rattle.gv_ranges.specs.List.{IsLaidOut}
use Rattle.gv_table.specs.declared.table_counts.TableCounts.{TableCounts}
use Rattle.gv_table.specs.declared.slot.Slot.{Slot}
use Rattle.gv_table.specs.declared.slot.Slot.TheVariants.{Empty}
use Rattle.gv_table.specs.Kinds.{Kind, one_of, unless}
use Rattle.gv_table.specs.BufferNames.{AreEncodable}
use Rattle.gv_table.specs.Levels.{slots_per_table, pages_of, slot_pages}
use Rattle.gv_table.specs.Sums.{sum_below}
use Rattle.gv_table.specs.Tree.{is_table, child, IsTreeOf}
use Rattle.gv_table.specs.Wanted.{wanted, is_divided}

abbrev pub one_if : Bool → ℕ
one_if true = 1
one_if false = 0

-- how many tables of a kind a slot holds, itself included
unfoldable pub tables_in : Kind → ℕ → Slot → ℕ
tables_in kind zero slot = 0
tables_in kind (suc level) slot =
    if is_table slot then one_of kind level + sum_below slots_per_table (λ k. tables_in kind level (child slot k)) else 0

-- how many tables of a slot have slots at the target level
unfoldable pub tables_at : ℕ → ℕ → Slot → ℕ
tables_at target zero slot = 0
tables_at target (suc level) slot =
    if is_table slot
    then one_if (nat_eq target level) + sum_below slots_per_table (λ k. tables_at target level (child slot k))
    else 0

-- how many tables of a row of slots have slots at the target level
abbrev pub row_tables_at : ℕ → ℕ → List Slot → ℕ
row_tables_at target level row = sum_below slots_per_table (λ k. tables_at target level (slice_index_or row k Empty))

-- one for a table with slots at a level, where the target level is that one and there was no table yet
abbrev pub one_if_new : ℕ → ℕ → Bool → ℕ
one_if_new target level true = 0
one_if_new target level false = one_if (nat_eq target level)

-- how many tables a counts has at a level
abbrev pub count_at : TableCounts → ℕ → ℕ
count_at counts target = slice_index_or counts.by_level target 0

-- a counts has the tables of the slot, and at each level no more others than there are pages outside the slot
pub record CountsSlot (counts : TableCounts) (level : ℕ) (slot : Slot) : Type 0 where
  pub counted : (target : ℕ) → tables_at target level slot ≤ count_at counts target
  pub room : (target : ℕ) → count_at counts target + pages_of level ≤ PAGES + tables_at target level slot

-- the same of a row of slots, with room for the table that it is in
pub record CountsRow (counts : TableCounts) (level : ℕ) (row : List Slot) : Type 0 where
  pub counted : (target : ℕ) → row_tables_at target level row ≤ count_at counts target
  pub room : (target : ℕ) → count_at counts target + slots_per_table * pages_of level ≤ PAGES + 1 + row_tables_at target level row

-- how many tables of the tree of the mappings, in the slot at a level and first page, have slots at the target level
unfoldable pub tables_wanted : List Mapping → ℕ → ℕ → ℕ → ℕ
tables_wanted ms target zero first = 0
tables_wanted ms target (suc level) first =
    if is_divided (wanted ms (suc level) first)
    then one_if (nat_eq target level) + sum_below slots_per_table (λ k. tables_wanted ms target level (first + k * pages_of level))
    else 0

-- how many positions have a table of the kind in the tree of the mappings, and none in the slot
unfoldable pub gained : Kind → List Mapping → ℕ → ℕ → Slot → ℕ
gained kind ms zero first slot = 0
gained kind ms (suc level) first slot =
    if is_divided (wanted ms (suc level) first)
    then unless (is_table slot) (one_of kind level) +
    sum_below slots_per_table (λ k. gained kind ms level (first + k * pages_of level) (child slot k))
    else 0

-- how many positions have a table of the kind in the slot, and none in the tree of the mappings
unfoldable pub lost : Kind → List Mapping → ℕ → ℕ → Slot → ℕ
lost kind ms zero first slot = 0
lost kind ms (suc level) first slot =
    if is_table slot
    then unless (is_divided (wanted ms (suc level) first)) (one_of kind level) +
    sum_below slots_per_table (λ k. lost kind ms level (first + k * pages_of level) (child slot k))
    else 0

-- how many positions of a row of slots, which begins at a page, have a table of the kind in the tree of the mappings and none in the row
abbrev pub row_gained : Kind → List Mapping → ℕ → ℕ → List Slot → ℕ
row_gained kind ms level first row =
    sum_below slots_per_table (λ k. gained kind ms level (first + k * pages_of level) (slice_index_or row k Empty))

-- how many have a table of the kind in the row and none in the tree
abbrev pub row_lost : Kind → List Mapping → ℕ → ℕ → List Slot → ℕ
row_lost kind ms level first row =
    sum_below slots_per_table (λ k. lost kind ms level (first + k * pages_of level) (slice_index_or row k Empty))

-- whether a slot may have to be a table, where a list will have the pieces in the range: what it has outside is not
-- known, so a slot that the range covers in part may be one
abbrev pub may_divide : List Mapping → PageRangeState → ℕ → ℕ → Bool
may_divide pieces range level first =
    meets (slot_pages level first) range &&
    (not (lies_in (slot_pages level first) range) || is_divided (wanted pieces level first))

-- how many positions may need a table of the kind where the slot has none
unfoldable pub needed : Kind → List Mapping → PageRangeState → ℕ → ℕ → Slot → ℕ
needed kind pieces range zero first slot = 0
needed kind pieces range (suc level) first slot =
    if may_divide pieces range (suc level) first
    then unless (is_table slot) (one_of kind level) +
    sum_below slots_per_table (λ k. needed kind pieces range level (first + k * pages_of level) (child slot k))
    else 0

-- two slots are the same, or neither is a table
abbrev pub HasSameTables : Slot → Slot → Type 0
HasSameTables one other = (one ≡ other) ⊎ ((is_table one ≡ false) × (is_table other ≡ false))

-- a slot that was made a table: it holds what it held, part by part, and has its tables
pub record IsDivided (level : ℕ) (old new : Slot) : Type 0 where
  pub table : is_table new ≡ true
  pub parts : (ms : List Mapping) (first : ℕ) → IsLaidOut ms → AreEncodable ms → IsTreeOf ms level first old →
      (k : ℕ) → k < slots_per_table → IsTreeOf ms (level - 1) (first + k * pages_of (level - 1)) (child new k)
  pub tables : (k : ℕ) → k < slots_per_table → HasSameTables (child old k) (child new k)
