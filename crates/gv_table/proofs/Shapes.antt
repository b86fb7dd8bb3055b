-- The shape of a tree, slot by slot.
use Rattle.std.proofs.Common.{◌≡◌, ◌≢◌, ℕ, zero, suc, ◌-◌, ◌<◌, false, List, length, slice_index_or, slice_set, Box, Global, arith, sym, subst, inl, inr, ◌⊎◌}
use Rattle.std.proofs.lemmas.List.{get_or-set_same, get_or-set_other}
use Rattle.gv_table.specs.BufferNames.{PageSlot}
use Rattle.gv_table.specs.declared.slot.Slot.{Slot, out-Slot}
use Rattle.gv_table.specs.declared.slot.Slot.TheVariants.{Empty, Pages, Table}
use Rattle.gv_table.specs.declared.slot.Slot.TheOpen as layer
use Rattle.gv_table.specs.Shape.{HasKind, IsShaped}
use Rattle.gv_table.specs.Tree.{is_table, layer_is_table}
use Rattle.gv_table.proofs.Slots.{is_table-Empty, child-other, child-Pages, child-Table, page-other, out-Pages, out-Table}

same-or-other : (k i : ℕ) → (k ≡ i) ⊎ (k ≢ i)
same-or-other k i = grind arith

other-kind : (level : ℕ) (l : layer.Slot-F Slot) → layer_is_table l ≡ false → HasKind level l
other-kind level layer.Empty other = tt
other-kind level (layer.Zero flags) other = tt
other-kind level (layer.Buffer flags id page) other = tt
other-kind level (layer.Pages pages) other = cc
other-kind level (layer.Table slots) other = cc

kind-of : (level : ℕ) (slot : Slot) → is_table slot ≡ false → HasKind level (out-Slot slot)
unfolding is_table
kind-of level slot other = other-kind level (out-Slot slot) other

-- a slot that is no table has its shape at each level
pub shaped-other : (level : ℕ) (slot : Slot) → is_table slot ≡ false → IsShaped level slot
unfolding IsShaped
shaped-other zero slot other = tt
shaped-other (suc level) slot other =
    (kind-of level slot other, λ k below. subst (λ (s : Slot). IsShaped level s) (sym (child-other slot k other)) (shaped-other level Empty is_table-Empty))

-- a table of pages stands at level 1
pub shaped-Pages : (level : ℕ) (pages : Box (List PageSlot × Slot) Global) → level ≡ 1 → IsShaped level (Pages pages)
unfolding IsShaped
shaped-Pages zero pages one = absurd (omega (arith, one))
shaped-Pages (suc level) pages one =
    let low : level ≡ 0 = omega (arith, one) in (
      subst (λ (l : layer.Slot-F Slot). HasKind level l) (sym (out-Pages pages)) low,
      λ k below. subst (λ (s : Slot). IsShaped level s) (sym (child-Pages pages k)) (shaped-other level _ (page-other _)),
    )

pub pages-level : (level : ℕ) (pages : Box (List PageSlot × Slot) Global) → 0 < level → IsShaped level (Pages pages) → level ≡ 1
unfolding IsShaped
pages-level zero pages some shaped = absurd (omega arith)
pages-level (suc level) pages some shaped =
    let low : level ≡ 0 = subst (λ (l : layer.Slot-F Slot). HasKind level l) (out-Pages pages) shaped.0 in omega (arith, low)

-- a table of other slots stands above it, and so do its parts
pub shaped-Table : (level : ℕ) (slots : Box (List Slot) Global) → 1 < level → ((k : ℕ) → k < 512 → IsShaped (level - 1) (slice_index_or slots.value k Empty)) →
    IsShaped level (Table slots)
unfolding IsShaped
shaped-Table zero slots high parts = absurd (omega arith)
shaped-Table (suc level) slots high parts =
    let lower : suc level - 1 ≡ level = omega arith in
    let some : 0 < level = omega (arith, high) in (
      subst (λ (l : layer.Slot-F Slot). HasKind level l) (sym (out-Table slots)) some,
      λ k below. subst (λ (s : Slot). IsShaped level s) (sym (child-Table slots k)) (rw lower at (parts k below)),
    )

pub table-level : (level : ℕ) (slots : Box (List Slot) Global) → 0 < level → IsShaped level (Table slots) → 1 < level
unfolding IsShaped
table-level zero slots some shaped = absurd (omega arith)
table-level (suc level) slots some shaped =
    let high : 0 < level = subst (λ (l : layer.Slot-F Slot). HasKind level l) (out-Table slots) shaped.0 in omega (arith, high)

pub table-parts : (level : ℕ) (slots : Box (List Slot) Global) → 0 < level → IsShaped level (Table slots) →
    (k : ℕ) → k < 512 → IsShaped (level - 1) (slice_index_or slots.value k Empty)
unfolding IsShaped
table-parts zero slots some shaped k below = absurd (omega arith)
table-parts (suc level) slots some shaped k below =
    let lower : suc level - 1 ≡ level = omega arith in
    rw lower (subst (λ (s : Slot). IsShaped level s) (child-Table slots k) (shaped.1 k below))

-- a row in which one slot is written
pub shaped-written : (level : ℕ) (row : List Slot) (i : ℕ) (slot : Slot) → i < length row → IsShaped level slot →
    ((k : ℕ) → k < 512 → IsShaped level (slice_index_or row k Empty)) → (k : ℕ) → k < 512 → IsShaped level (slice_index_or (slice_set row i slot) k Empty)
shaped-written level row i slot within here all k below =
    elim (same-or-other k i) [
      | inl e ↦ (let P : ℕ → Type 0 = λ j. IsShaped level (slice_index_or (slice_set row i slot) j Empty) in
          subst P (sym e) (subst (λ (s : Slot). IsShaped level s) (sym (get_or-set_same row i slot Empty within)) here))
      | inr differ ↦ subst (λ (s : Slot). IsShaped level s) (sym (get_or-set_other row i k slot Empty differ)) (all k below)
    ]
