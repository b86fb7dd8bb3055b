-- How many tables a slot holds.
use Rattle.std.proofs.Common.{◌≡◌, ◌≢◌, ℕ, zero, suc, ◌+◌, ◌-◌, ◌*◌, ◌<◌, ◌≤◌, inl, inr, Bool, true, false, nat_eq, List, slice_index_or, Box, Global, refl, arith, sym, ap, ◌∙◌, if◌then◌else◌}
use Rattle.std.proofs.lemmas.Bool.Decides.{nat_tests}
use Rattle.gv_types.specs.declared.mapping.Mapping.{Mapping}
use Rattle.gv_table.specs.Kinds.{Kind, one_of, unless}
use Rattle.gv_table.specs.declared.wanted.Wanted.TheVariants as variant
use Rattle.gv_table.specs.Levels.{pages_of}
use Rattle.gv_table.specs.Wanted.{wanted}
use Rattle.gv_table.specs.BufferNames.{PageSlot}
use Rattle.gv_types.specs.PageRange.{PageRangeState}
use Rattle.gv_table.specs.declared.slot.Slot.{Slot}
use Rattle.gv_table.specs.declared.slot.Slot.TheVariants.{Empty, Pages, Table}
use Rattle.gv_table.specs.Tree.{is_table, child}
use Rattle.gv_table.specs.Counts.{tables_in, tables_at, gained, lost, needed, one_if, one_if_new, HasSameTables}
use Rattle.gv_table.specs.Sums.{sum_below}
use Rattle.gv_table.proofs.Sums.{sum_below-same, sum_below-zeros}
use Rattle.gv_table.proofs.Slots.{is_table-Table, is_table-Pages, child-Table, is_table-Empty, child-other}

pub tables_in-zero : (kind : Kind) (slot : Slot) → tables_in kind 0 slot ≡ 0
unfolding tables_in
tables_in-zero kind slot = refl

pub tables_in-other : (kind : Kind) (level : ℕ) (slot : Slot) → is_table slot ≡ false → tables_in kind level slot ≡ 0
unfolding tables_in
tables_in-other kind zero slot other = refl
tables_in-other kind (suc level) slot other = rw other refl

-- one of its kind, and what its slots hold
pub tables_in-Table :
    (kind : Kind) (level : ℕ) (slots : Box (List Slot) Global) → 0 < level →
    tables_in kind level (Table slots) ≡ one_of kind (level - 1) + sum_below 512 (λ index. tables_in kind (level - 1) (slice_index_or slots.value index Empty))
unfolding tables_in
tables_in-Table kind zero slots some = absurd (omega arith)
tables_in-Table kind (suc level) slots some =
    let lower : suc level - 1 ≡ level = omega arith in
    let same = sum_below-same 512 (λ index. tables_in kind level (child (Table slots) index)) (λ index. tables_in kind level (slice_index_or slots.value index Empty))
    (λ index below. ap (λ (s : Slot). tables_in kind level s) (child-Table slots index)) in
    rw (is_table-Table slots, lower) (ap (λ (n : ℕ). one_of kind level + n) same)

-- a table of pages holds no other
pub tables_in-pages : (kind : Kind) (pages : Box (List PageSlot × Slot) Global) → tables_in kind 1 (Pages pages) ≡ one_of kind 0
unfolding tables_in
tables_in-pages kind pages =
    let z = sum_below-zeros 512 (λ k. tables_in kind 0 (child (Pages pages) k)) (λ k below. tables_in-zero kind (child (Pages pages) k)) in
    rw (is_table-Pages pages, z) (omega arith)

pub tables_at-other : (target level : ℕ) (slot : Slot) → is_table slot ≡ false → tables_at target level slot ≡ 0
unfolding tables_at
tables_at-other target zero slot other = refl
tables_at-other target (suc level) slot other = rw other refl

pub tables_at-Table :
    (target level : ℕ) (slots : Box (List Slot) Global) → 0 < level →
    tables_at target level (Table slots) ≡
    one_if (nat_eq target (level - 1)) + sum_below 512 (λ index. tables_at target (level - 1) (slice_index_or slots.value index Empty))
unfolding tables_at
tables_at-Table target zero slots some = absurd (omega arith)
tables_at-Table target (suc level) slots some =
    let lower : suc level - 1 ≡ level = omega arith in
    let same = sum_below-same 512 (λ index. tables_at target level (child (Table slots) index)) (λ index. tables_at target level (slice_index_or slots.value index Empty))
    (λ index below. ap (λ (s : Slot). tables_at target level s) (child-Table slots index)) in
    rw (is_table-Table slots, lower) (ap (λ (n : ℕ). one_if (nat_eq target level) + n) same)

eq-true : (a b : ℕ) → a ≡ b → nat_eq a b ≡ true
eq-true a b e = grind (arith, nat_tests)

eq-false : (a b : ℕ) → a ≢ b → nat_eq a b ≡ false
eq-false a b e = grind (arith, nat_tests)

zero-by : (b : Bool) (n : ℕ) → n ≡ 0 → (if b then n else 0) ≡ 0
zero-by true n e = e
zero-by false n e = refl

-- no table of a slot has slots at the slot's level or above
pub tables_at-low : (target level : ℕ) (slot : Slot) → level ≤ target → tables_at target level slot ≡ 0
unfolding tables_at
tables_at-low target zero slot low = refl
tables_at-low target (suc level) slot low =
    let differ : target ≢ level = omega arith in
    let one = ap one_if (eq-false target level differ) in
    let z = sum_below-zeros 512 (λ k. tables_at target level (child slot k)) (λ k below. tables_at-low target level (child slot k) (omega arith)) in
    zero-by (is_table slot) _ (omega (arith, one, z))

-- a table of the target level is the only one of its slot
pub tables_at-here : (target level : ℕ) (slots : Box (List Slot) Global) → 0 < level → target ≡ level - 1 → tables_at target level (Table slots) ≡ 1
tables_at-here target level slots some same =
    let whole = tables_at-Table target level slots some in
    let one = ap one_if (eq-true target (level - 1) same) in
    let z = sum_below-zeros 512 (λ k. tables_at target (level - 1) (slice_index_or slots.value k Empty))
    (λ k below. tables_at-low target (level - 1) (slice_index_or slots.value k Empty) (omega arith)) in
    omega (arith, whole, one, z)

pub tables_at-above : (target level : ℕ) (slots : Box (List Slot) Global) → 0 < level → target ≢ level - 1 →
    tables_at target level (Table slots) ≡ sum_below 512 (λ k. tables_at target (level - 1) (slice_index_or slots.value k Empty))
tables_at-above target level slots some differ =
    let whole = tables_at-Table target level slots some in
    let one = ap one_if (eq-false target (level - 1) differ) in
    omega (arith, whole, one)

-- a slot that is a table gains its parts' gains, and one that is none one more
pub gained-parts : (kind : Kind) (ms : List Mapping) (level first : ℕ) (slot : Slot) → 0 < level → wanted ms level first ≡ variant.Table →
    gained kind ms level first slot ≡
    unless (is_table slot) (one_of kind (level - 1)) + sum_below 512 (λ k. gained kind ms (level - 1) (first + k * pages_of (level - 1)) (child slot k))
unfolding gained
gained-parts kind ms zero first slot some want = absurd (omega arith)
gained-parts kind ms (suc level) first slot some want = let lower : suc level - 1 ≡ level = omega arith in rw (want, lower) refl

pub gained-other-by : (kind : Kind) (ms : List Mapping) (level first : ℕ) (one other : Slot) → is_table one ≡ false → is_table other ≡ false →
    gained kind ms level first one ≡ gained kind ms level first other
unfolding gained
gained-other-by kind ms zero first one other a b = refl
gained-other-by kind ms (suc level) first one other a b =
    let parts = sum_below-same 512 (λ k. gained kind ms level (first + k * pages_of level) (child one k)) (λ k. gained kind ms level (first + k * pages_of level) (child other k))
    (λ k below. ap (λ (s : Slot). gained kind ms level (first + k * pages_of level) s) (child-other one k a ∙ sym (child-other other k b))) in
    rw (a, b, parts) refl

-- slots with the same tables gain the same
pub gained-same : (kind : Kind) (ms : List Mapping) (level first : ℕ) (one other : Slot) → HasSameTables one other → gained kind ms level first one ≡ gained kind ms level first other
gained-same kind ms level first one other same =
    elim same [
      | inl e ↦ ap (λ (s : Slot). gained kind ms level first s) e
      | inr p ↦ gained-other-by kind ms level first one other p.0 p.1
    ]

pub lost-other : (kind : Kind) (ms : List Mapping) (level first : ℕ) (slot : Slot) → is_table slot ≡ false → lost kind ms level first slot ≡ 0
unfolding lost
lost-other kind ms zero first slot other = refl
lost-other kind ms (suc level) first slot other = rw other refl

-- and they lose the same
pub lost-same : (kind : Kind) (ms : List Mapping) (level first : ℕ) (one other : Slot) → HasSameTables one other → lost kind ms level first one ≡ lost kind ms level first other
lost-same kind ms level first one other same =
    elim same [
      | inl e ↦ ap (λ (s : Slot). lost kind ms level first s) e
      | inr p ↦ lost-other kind ms level first one p.0 ∙ sym (lost-other kind ms level first other p.1)
    ]

lost-by : (b : Bool) (n : ℕ) → (b ≡ false → n ≡ 0) → (if b then 0 + n else 0) ≡ n
lost-by true n none = omega arith
lost-by false n none = sym (none refl)

-- a slot that stays a table, or becomes one, loses its parts' losses
pub lost-parts : (kind : Kind) (ms : List Mapping) (level first : ℕ) (slot : Slot) → 0 < level → wanted ms level first ≡ variant.Table →
    lost kind ms level first slot ≡ sum_below 512 (λ k. lost kind ms (level - 1) (first + k * pages_of (level - 1)) (child slot k))
unfolding lost
lost-parts kind ms zero first slot some want = absurd (omega arith)
lost-parts kind ms (suc level) first slot some want =
    let lower : suc level - 1 ≡ level = omega arith in
    rw (want, lower) (lost-by (is_table slot) (sum_below 512 (λ k. lost kind ms level (first + k * pages_of level) (child slot k)))
    (λ other. sum_below-zeros 512 (λ k. lost kind ms level (first + k * pages_of level) (child slot k)) (λ k below. ap (λ (s : Slot). lost kind ms level (first + k * pages_of level) s) (child-other slot k other) ∙ lost-other kind ms level (first + k * pages_of level) Empty is_table-Empty)))

-- slots with the same tables have as many at each level
pub tables_at-same : (target level : ℕ) (one other : Slot) → HasSameTables one other → tables_at target level one ≡ tables_at target level other
tables_at-same target level one other same =
    elim same [
      | inl e ↦ ap (λ (s : Slot). tables_at target level s) e
      | inr p ↦ tables_at-other target level one p.0 ∙ sym (tables_at-other target level other p.1)
    ]

new-by : (b : Bool) (target level n : ℕ) → (b ≡ false → n ≡ 0) →
    (if b then one_if (nat_eq target level) + n else 0) + one_if_new target level b ≡ one_if (nat_eq target level) + n
new-by true target level n none = omega arith
new-by false target level n none = let e = none refl in omega (arith, e)

-- a slot made a table has that one and those of its parts
pub tables_at-parts : (target level : ℕ) (slot : Slot) → 0 < level →
    tables_at target level slot + one_if_new target (level - 1) (is_table slot) ≡
    one_if (nat_eq target (level - 1)) + sum_below 512 (λ k. tables_at target (level - 1) (child slot k))
unfolding tables_at
tables_at-parts target zero slot some = absurd (omega arith)
tables_at-parts target (suc level) slot some =
    let lower : suc level - 1 ≡ level = omega arith in
    rw lower (new-by (is_table slot) target level (sum_below 512 (λ k. tables_at target level (child slot k)))
    (λ other. sum_below-zeros 512 (λ k. tables_at target level (child slot k))
    (λ k below. ap (λ (s : Slot). tables_at target level s) (child-other slot k other) ∙ tables_at-other target level Empty is_table-Empty)))

pub one_if-small : (b : Bool) → one_if b ≤ 1
one_if-small true = omega arith
one_if-small false = omega arith

pub one_if-here : (level : ℕ) → one_if (nat_eq level level) ≡ 1
one_if-here level = ap one_if (eq-true level level refl)

pub tables_at-pages : (target : ℕ) (pages : Box (List PageSlot × Slot) Global) → tables_at target 1 (Pages pages) ≡ one_if (nat_eq target 0)
unfolding tables_at
tables_at-pages target pages =
    let z = sum_below-zeros 512 (λ k. tables_at target 0 (child (Pages pages) k)) (λ k below. tables_at-low target 0 (child (Pages pages) k) (omega arith)) in
    rw (is_table-Pages pages, z) (omega arith)

needed-other-by : (kind : Kind) (pieces : List Mapping) (range : PageRangeState) (level first : ℕ) (one other : Slot) → is_table one ≡ false → is_table other ≡ false →
    needed kind pieces range level first one ≡ needed kind pieces range level first other
unfolding needed
needed-other-by kind pieces range zero first one other a b = refl
needed-other-by kind pieces range (suc level) first one other a b =
    let parts = sum_below-same 512 (λ k. needed kind pieces range level (first + k * pages_of level) (child one k)) (λ k. needed kind pieces range level (first + k * pages_of level) (child other k))
    (λ k below. ap (λ (s : Slot). needed kind pieces range level (first + k * pages_of level) s) (child-other one k a ∙ sym (child-other other k b))) in
    rw (a, b, parts) refl

-- slots with the same tables need the same
pub needed-same : (kind : Kind) (pieces : List Mapping) (range : PageRangeState) (level first : ℕ) (one other : Slot) → HasSameTables one other →
    needed kind pieces range level first one ≡ needed kind pieces range level first other
needed-same kind pieces range level first one other same =
    elim same [
      | inl e ↦ ap (λ (s : Slot). needed kind pieces range level first s) e
      | inr p ↦ needed-other-by kind pieces range level first one other p.0 p.1
    ]
