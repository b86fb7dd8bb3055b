-- Two trees of one list have their tables at the same positions.
use Rattle.std.proofs.Common.{◌≡◌, ℕ, zero, suc, ◌+◌, ◌-◌, ◌*◌, ◌<◌, inl, inr, true, false, List, refl, arith, sym, ◌∙◌}
use Rattle.gv_types.specs.declared.mapping.Mapping.{Mapping}
use Rattle.gv_table.specs.Kinds.{Kind, pages, slots}
use Rattle.gv_table.specs.declared.slot.Slot.{Slot}
use Rattle.gv_table.specs.Levels.{pages_of}
use Rattle.gv_table.specs.Wanted.{wanted, is_divided}
use Rattle.gv_table.specs.Tree.{is_table, child, IsTreeOf}
use Rattle.gv_table.specs.Counts.{gained, tables_at, tables_wanted}
use Rattle.gv_table.specs.Laws.{TreesGainAlike}
use Rattle.gv_table.proofs.Sums.{sum_below-same}
use Rattle.gv_table.proofs.TablesInSlots.{gained-other-by}
use Rattle.gv_table.proofs.CoveringMappings.{true-or-false}
use Rattle.gv_table.proofs.Trees.{opened, read-parts}
use Rattle.gv_table.proofs.TablesAsWanted.{match-by}

-- a slot of the tree is a table where the list wants one
pub tree-divided : (ms : List Mapping) (level first : ℕ) (slot : Slot) → IsTreeOf ms (suc level) first slot →
    is_table slot ≡ is_divided (wanted ms (suc level) first)
tree-divided ms level first slot tree = match-by (wanted ms (suc level) first) slot _ (opened ms level first slot tree)

parts-of : (ms : List Mapping) (level first : ℕ) (slot : Slot) → IsTreeOf ms (suc level) first slot → is_table slot ≡ true →
    (k : ℕ) → k < 512 → IsTreeOf ms level (first + k * pages_of level) (child slot k)
parts-of ms level first slot tree table k below =
    let lower : suc level - 1 ≡ level = omega arith in
    rw lower at (read-parts ms (suc level) first slot (omega arith) tree table k below)

-- the tables of a tree are those that the list wants
pub tables-wanted : (ms : List Mapping) (target level first : ℕ) (slot : Slot) → IsTreeOf ms level first slot →
    tables_at target level slot ≡ tables_wanted ms target level first
unfolding tables_at tables_wanted
tables-wanted ms target zero first slot tree = refl
tables-wanted ms target (suc level) first slot tree =
    let same = tree-divided ms level first slot tree in
    elim (true-or-false (is_table slot)) [
      | inl table ↦ (
          let parts = sum_below-same 512 (λ k. tables_at target level (child slot k)) (λ k. tables_wanted ms target level (first + k * pages_of level))
          (λ k below. tables-wanted ms target level (first + k * pages_of level) (child slot k) (parts-of ms level first slot tree table k below)) in
          let divided : is_divided (wanted ms (suc level) first) ≡ true = sym same ∙ table in
          rw (table, divided, parts) refl)
      | inr other ↦ (
          let whole : is_divided (wanted ms (suc level) first) ≡ false = sym same ∙ other in
          rw (other, whole) refl)
    ]

-- two trees of one list gain the same
pub trees-gained : (kind : Kind) (ms list : List Mapping) (level first : ℕ) (one other : Slot) → IsTreeOf ms level first one → IsTreeOf ms level first other →
    gained kind list level first one ≡ gained kind list level first other
unfolding gained
trees-gained kind ms list zero first one other tree tree' = refl
trees-gained kind ms list (suc level) first one other tree tree' =
    let same = tree-divided ms level first one tree ∙ sym (tree-divided ms level first other tree') in
    elim (true-or-false (is_table one)) [
      | inl table ↦ (
          let table' : is_table other ≡ true = sym same ∙ table in
          let parts = sum_below-same 512 (λ k. gained kind list level (first + k * pages_of level) (child one k)) (λ k. gained kind list level (first + k * pages_of level) (child other k))
          (λ k below. trees-gained kind ms list level (first + k * pages_of level) (child one k) (child other k)
          (parts-of ms level first one tree table k below) (parts-of ms level first other tree' table' k below)) in
          rw (table, table', parts) refl)
      | inr none ↦ gained-other-by kind list (suc level) first one other none (sym same ∙ none)
    ]

-- the same of whole trees
pub tables-gained : TreesGainAlike
tables-gained ms list one other tree tree' =
    let of_pages = trees-gained pages ms list 5 0 one.root other.root tree tree' in
    let of_slots = trees-gained slots ms list 5 0 one.root other.root tree tree' in
    cc
