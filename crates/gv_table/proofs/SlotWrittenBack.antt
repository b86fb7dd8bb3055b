-- A slot of a row that is read at its index, painted, and written there.
use Rattle.std.proofs.Common.{◌≡◌, ◌≢◌, ℕ, ◌+◌, ◌*◌, ◌<◌, List, length, slice_index_or, slice_set, arith, sym, ap, ◌∙◌, subst, refl}
use Rattle.std.proofs.lemmas.List.{get_or_default}
use Rattle.gv_types.specs.declared.mapping.Mapping.{Mapping}
use Rattle.gv_table.specs.Kinds.{Kind}
use Rattle.gv_table.specs.declared.slot.Slot.{Slot}
use Rattle.gv_table.specs.declared.slot.Slot.TheVariants.{Empty}
use Rattle.gv_table.specs.declared.table_counts.TableCounts.{TableCounts}
use Rattle.gv_table.specs.Levels.{pages_of}
use Rattle.gv_table.specs.Tree.{IsTreeOf}
use Rattle.gv_table.specs.Counts.{gained, lost, tables_at, count_at}
use Rattle.gv_table.proofs.RowLoops.{row-other, row-here}

-- the slot that is read with a default is that of the row, with what it gains and loses
pub record IsRead (ms : List Mapping) (level first pages i : ℕ) (row : List Slot) (d : Slot) : Type 0 where
  pub start : first + i * pages ≡ first + i * pages_of level
  pub slot : slice_index_or row i d ≡ slice_index_or row i Empty
  pub gains : (kind : Kind) → gained kind ms level (first + i * pages) (slice_index_or row i d) ≡ gained kind ms level (first + i * pages_of level) (slice_index_or row i Empty)
  pub loses : (kind : Kind) → lost kind ms level (first + i * pages) (slice_index_or row i d) ≡ lost kind ms level (first + i * pages_of level) (slice_index_or row i Empty)

pub is-read : (ms : List Mapping) (level first pages i : ℕ) (row : List Slot) (d : Slot) → i < length row → pages ≡ pages_of level →
    IsRead ms level first pages i row d
is-read ms level first pages i row d within same =
    let at : first + i * pages ≡ first + i * pages_of level = ap (λ (n : ℕ). first + i * n) same in
    let read = get_or_default row i d Empty within in
    record {
      start = at;
      slot = read;
      gains = λ kind. ap (λ (s : Slot). gained kind ms level (first + i * pages) s) read ∙ ap (λ (n : ℕ). gained kind ms level n (slice_index_or row i Empty)) at;
      loses = λ kind. ap (λ (s : Slot). lost kind ms level (first + i * pages) s) read ∙ ap (λ (n : ℕ). lost kind ms level n (slice_index_or row i Empty)) at;
    }

-- the others stay, this one fits the list, and the counts go by what stood there and what stands there
pub record IsWritten (ms : List Mapping) (level first i : ℕ) (row after : List Slot) (old new : Slot) : Type 0 where
  pub same : (k : ℕ) → k ≢ i → slice_index_or after k Empty ≡ slice_index_or row k Empty
  pub here : IsTreeOf ms level (first + i * pages_of level) (slice_index_or after i Empty)
  pub counted : (now next : TableCounts) →
      ((target : ℕ) → count_at next target + tables_at target level old ≡ count_at now target + tables_at target level new) →
      (target : ℕ) → count_at next target + tables_at target level (slice_index_or row i Empty) ≡ count_at now target + tables_at target level (slice_index_or after i Empty)

pub is-written : (ms : List Mapping) (level first pages i : ℕ) (row : List Slot) (d new : Slot) → i < length row → pages ≡ pages_of level →
    IsTreeOf ms level (first + i * pages) new → IsWritten ms level first i row (slice_set row i new) (slice_index_or row i d) new
is-written ms level first pages i row d new within pages-are tree =
    let read = is-read ms level first pages i row d within pages-are in
    let set : slice_index_or (slice_set row i new) i Empty ≡ new = row-here (slice_set row i new) row i new refl within in
    record {
      same = row-other (slice_set row i new) row i new refl;
      here = subst (λ (n : ℕ). IsTreeOf ms level n (slice_index_or (slice_set row i new) i Empty)) read.start
          (subst (λ (s : Slot). IsTreeOf ms level (first + i * pages) s) (sym set) tree);
      counted = λ now next painted target.
          let old = ap (λ (s : Slot). tables_at target level s) read.slot in
          let end = ap (λ (s : Slot). tables_at target level s) set in
          let change = painted target in
          omega (arith, old, end, change);
    }
