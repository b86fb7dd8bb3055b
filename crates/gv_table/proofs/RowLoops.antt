-- A row of slots that a loop writes one after another.
use Rattle.std.proofs.Common.{◌≡◌, ◌≢◌, ℕ, ◌+◌, ◌<◌, ◌≤◌, List, length, slice_index_or, slice_set, arith, sym, ap, ◌∙◌, subst, ◌⊎◌, inl, inr}
use Rattle.std.proofs.lemmas.List.{get_or_default, get_or-set_same, get_or-set_other}
use Rattle.gv_table.specs.declared.slot.Slot.{Slot}
use Rattle.gv_table.specs.declared.slot.Slot.TheVariants.{Empty}

split : (i n : ℕ) → i < n + 1 → (i < n) ⊎ (i ≡ n)
split i n below = grind arith

-- what holds of each slot below, and of the one that is written, holds of each slot below the next
pub below-of :
    {T : Type 0} (e : T) (P : ℕ → T → Type 0) (row : List T) (i : ℕ) (slot : T) → i < length row → P i slot →
    ((k : ℕ) → k < i → P k (slice_index_or row k e)) → (k : ℕ) → k < i + 1 → P k (slice_index_or (slice_set row i slot) k e)
below-of e P row i slot within here before k below =
    elim (split k i below) [
      | inl less ↦ (let differ : k ≢ i = omega arith in subst (P k) (sym (get_or-set_other row i k slot e differ)) (before k less))
      | inr same ↦ (let Q : ℕ → Type 0 = λ j. P j (slice_index_or (slice_set row i slot) j e) in
          subst Q (sym same) (subst (P i) (sym (get_or-set_same row i slot e within)) here))
    ]

-- the slots after the one that is written are as they were
pub above-of :
    {T : Type 0} (e : T) (row first : List T) (i : ℕ) (slot : T) → ((k : ℕ) → i ≤ k → slice_index_or row k e ≡ slice_index_or first k e) →
    (k : ℕ) → i + 1 ≤ k → slice_index_or (slice_set row i slot) k e ≡ slice_index_or first k e
above-of e row first i slot same k above =
    let differ : k ≢ i = omega arith in
    get_or-set_other row i k slot e differ ∙ same k (omega arith)

pub row-below :
    (P : ℕ → Slot → Type 0) (row : List Slot) (i : ℕ) (slot : Slot) → i < length row → P i slot →
    ((k : ℕ) → k < i → P k (slice_index_or row k Empty)) → (k : ℕ) → k < i + 1 → P k (slice_index_or (slice_set row i slot) k Empty)
row-below = below-of Empty

pub row-above :
    (row first : List Slot) (i : ℕ) (slot : Slot) → ((k : ℕ) → i ≤ k → slice_index_or row k Empty ≡ slice_index_or first k Empty) →
    (k : ℕ) → i + 1 ≤ k → slice_index_or (slice_set row i slot) k Empty ≡ slice_index_or first k Empty
row-above = above-of Empty

-- what is read next is as it was at first
pub row-read :
    (seen row first : List Slot) (i : ℕ) (d : Slot) → seen ≡ row → i < length seen →
    ((k : ℕ) → i ≤ k → slice_index_or row k Empty ≡ slice_index_or first k Empty) →
    slice_index_or seen i d ≡ slice_index_or first i Empty
row-read seen row first i d e within same =
    get_or_default seen i d Empty within ∙ ap (λ (l : List Slot). slice_index_or l i Empty) e ∙ same i (omega arith)

pub row-other :
    (after row : List Slot) (i : ℕ) (slot : Slot) → after ≡ slice_set row i slot →
    (k : ℕ) → k ≢ i → slice_index_or after k Empty ≡ slice_index_or row k Empty
row-other after row i slot e k differ = ap (λ (l : List Slot). slice_index_or l k Empty) e ∙ get_or-set_other row i k slot Empty differ

pub row-here :
    (after row : List Slot) (i : ℕ) (slot : Slot) → after ≡ slice_set row i slot → i < length row → slice_index_or after i Empty ≡ slot
row-here after row i slot e within = ap (λ (l : List Slot). slice_index_or l i Empty) e ∙ get_or-set_same row i slot Empty within
