-- The list of live buffers against the slots that they lie in.
use Rattle.std.proofs.Common.{◌≡◌, ◌≢◌, ℕ, zero, suc, ◌+◌, ◌<◌, ◌≤◌, List, [], ◌∷◌, get_or, map, Bool, true, false, cond, eqb, nat_lt, arith, refl, sym, ap, Some, None, Option}
use Rattle.std.specs.Option.{option_map}
use Rattle.std.specs.List.{All, AllPairs, filter, find, insert}
use Rattle.std.proofs.lemmas.Option.{none-some, same_Some}
use Rattle.std.proofs.lemmas.List.Elements.{All-nil, All-cons}
use Rattle.std.proofs.lemmas.Bool.{ne_eqb, eq-eqb, le-ltb, lt-ltb}
use Rattle.gv_types.specs.declared.mapping.BufferId.{BufferId}
use Rattle.gv_buffers.specs.declared.live_buffer.LiveBuffer.{LiveBuffer}
use Rattle.gv_buffers.specs.Buffers.{Buffer, has_id, count_below}
use Rattle.gv_buffers.specs.Slots.{SlotList, buffer_at, buffers_from, of_generation}

-- what stands in the slot number k, seen as the buffer at index j
abbrev pub seen_at : ℕ → SlotList → ℕ → Option Buffer
seen_at j slots k = option_map (buffer_at j) (get_or slots k None)

-- slots in which no buffer is seen hold none
pub buffers_from-none : (i : ℕ) (ys : SlotList) → ((k j : ℕ) → j ≡ i + k → seen_at j ys k ≡ None) → buffers_from i ys ≡ []
buffers_from-none i [] same = refl
buffers_from-none i (None ∷ ys) same = buffers_from-none (i + 1) ys (λ k j e. same (suc k) j (omega arith))
buffers_from-none i (Some y ∷ ys) same = absurd (none-some (buffer_at i y) (sym (same 0 i (omega arith))))

-- buffers changed slot by slot are changed one by one in the list
pub buffers_from-map : (f : Buffer → Buffer) (i : ℕ) (xs ys : SlotList) →
    ((k j : ℕ) → j ≡ i + k → seen_at j ys k ≡ option_map f (seen_at j xs k)) → buffers_from i ys ≡ map f (buffers_from i xs)
buffers_from-map f i [] ys same = buffers_from-none i ys same
buffers_from-map f i (None ∷ xs) [] same =
    buffers_from-map f (i + 1) xs [] (λ k j e. same (suc k) j (omega arith))
buffers_from-map f i (None ∷ xs) (None ∷ ys) same =
    buffers_from-map f (i + 1) xs ys (λ k j e. same (suc k) j (omega arith))
buffers_from-map f i (None ∷ xs) (Some y ∷ ys) same = absurd (none-some (buffer_at i y) (sym (same 0 i (omega arith))))
buffers_from-map f i (Some x ∷ xs) [] same = absurd (none-some (f (buffer_at i x)) (same 0 i (omega arith)))
buffers_from-map f i (Some x ∷ xs) (None ∷ ys) same = absurd (none-some (f (buffer_at i x)) (same 0 i (omega arith)))
buffers_from-map f i (Some x ∷ xs) (Some y ∷ ys) same =
    let head : buffer_at i y ≡ f (buffer_at i x) = same_Some _ _ (same 0 i (omega arith)) in
    let tail : buffers_from (i + 1) ys ≡ map f (buffers_from (i + 1) xs) =
    buffers_from-map f (i + 1) xs ys (λ k j e. same (suc k) j (omega arith)) in
    rw (head, tail) refl

-- slots in which the same buffers are seen hold the same buffers
pub buffers_from-same : (i : ℕ) (xs ys : SlotList) → ((k j : ℕ) → j ≡ i + k → seen_at j ys k ≡ seen_at j xs k) → buffers_from i ys ≡ buffers_from i xs
buffers_from-same i [] ys same = buffers_from-none i ys same
buffers_from-same i (None ∷ xs) [] same =
    buffers_from-same (i + 1) xs [] (λ k j e. same (suc k) j (omega arith))
buffers_from-same i (None ∷ xs) (None ∷ ys) same =
    buffers_from-same (i + 1) xs ys (λ k j e. same (suc k) j (omega arith))
buffers_from-same i (None ∷ xs) (Some y ∷ ys) same = absurd (none-some (buffer_at i y) (sym (same 0 i (omega arith))))
buffers_from-same i (Some x ∷ xs) [] same = absurd (none-some (buffer_at i x) (same 0 i (omega arith)))
buffers_from-same i (Some x ∷ xs) (None ∷ ys) same = absurd (none-some (buffer_at i x) (same 0 i (omega arith)))
buffers_from-same i (Some x ∷ xs) (Some y ∷ ys) same =
    let head : buffer_at i y ≡ buffer_at i x = same_Some _ _ (same 0 i (omega arith)) in
    let tail : buffers_from (i + 1) ys ≡ buffers_from (i + 1) xs =
    buffers_from-same (i + 1) xs ys (λ k j e. same (suc k) j (omega arith)) in
    rw (head, tail) refl

-- the buffer, if it passes the test
abbrev pub passing : (Buffer → Bool) → Option Buffer → Option Buffer
passing test None = None
passing test (Some b) = cond (test b) (Some b) None

-- buffers dropped slot by slot are dropped from the list
pub buffers_from-filter : (test : Buffer → Bool) (i : ℕ) (xs ys : SlotList) →
    ((k j : ℕ) → j ≡ i + k → seen_at j ys k ≡ passing test (seen_at j xs k)) → buffers_from i ys ≡ filter test (buffers_from i xs)
buffers_from-filter test i [] ys same = buffers_from-none i ys same
buffers_from-filter test i (None ∷ xs) [] same =
    buffers_from-filter test (i + 1) xs [] (λ k j e. same (suc k) j (omega arith))
buffers_from-filter test i (None ∷ xs) (None ∷ ys) same =
    buffers_from-filter test (i + 1) xs ys (λ k j e. same (suc k) j (omega arith))
buffers_from-filter test i (None ∷ xs) (Some y ∷ ys) same = absurd (none-some (buffer_at i y) (sym (same 0 i (omega arith))))
buffers_from-filter test i (Some x ∷ xs) [] same =
    let tail : [] ≡ filter test (buffers_from (i + 1) xs) =
    buffers_from-filter test (i + 1) xs [] (λ k j e. same (suc k) j (omega arith)) in
    let head : None ≡ cond (test (buffer_at i x)) (Some (buffer_at i x)) None = same 0 i (omega arith) in
    elim (test (buffer_at i x)) as (λ t. None ≡ cond t (Some (buffer_at i x)) None → [] ≡ cond t (buffer_at i x ∷ filter test (buffers_from (i + 1) xs)) (filter test (buffers_from (i + 1) xs)))
    [ true ↦ (λ h. absurd (none-some (buffer_at i x) h)) | false ↦ (λ h. tail) ] head
buffers_from-filter test i (Some x ∷ xs) (None ∷ ys) same =
    let tail : buffers_from (i + 1) ys ≡ filter test (buffers_from (i + 1) xs) =
    buffers_from-filter test (i + 1) xs ys (λ k j e. same (suc k) j (omega arith)) in
    let head : None ≡ cond (test (buffer_at i x)) (Some (buffer_at i x)) None = same 0 i (omega arith) in
    elim (test (buffer_at i x)) as (λ t. None ≡ cond t (Some (buffer_at i x)) None → buffers_from (i + 1) ys ≡ cond t (buffer_at i x ∷ filter test (buffers_from (i + 1) xs)) (filter test (buffers_from (i + 1) xs)))
    [ true ↦ (λ h. absurd (none-some (buffer_at i x) h)) | false ↦ (λ h. tail) ] head
buffers_from-filter test i (Some x ∷ xs) (Some y ∷ ys) same =
    let tail : buffers_from (i + 1) ys ≡ filter test (buffers_from (i + 1) xs) =
    buffers_from-filter test (i + 1) xs ys (λ k j e. same (suc k) j (omega arith)) in
    let head : Some (buffer_at i y) ≡ cond (test (buffer_at i x)) (Some (buffer_at i x)) None = same 0 i (omega arith) in
    elim (test (buffer_at i x)) as (λ t. Some (buffer_at i y) ≡ cond t (Some (buffer_at i x)) None → buffer_at i y ∷ buffers_from (i + 1) ys ≡ cond t (buffer_at i x ∷ filter test (buffers_from (i + 1) xs)) (filter test (buffers_from (i + 1) xs))) [
      | true ↦ (λ h. let e : buffer_at i y ≡ buffer_at i x = same_Some _ _ h in rw (e, tail) refl)
      | false ↦ (λ h. absurd (none-some (buffer_at i y) (sym h)))
    ] head

-- what holds of each buffer that is seen holds of each in the list
pub All-buffers_from : (P : Buffer → Type 0) (i : ℕ) (xs : SlotList) → ((k j : ℕ) → j ≡ i + k → (b : Buffer) → seen_at j xs k ≡ Some b → P b) → All P (buffers_from i xs)
All-buffers_from P i [] each = All-nil P
All-buffers_from P i (None ∷ xs) each = All-buffers_from P (i + 1) xs (λ k j e b seen. each (suc k) j (omega arith) b seen)
All-buffers_from P i (Some x ∷ xs) each =
    All-cons P _ _ (each 0 i (omega arith) (buffer_at i x) refl) (All-buffers_from P (i + 1) xs (λ k j e b seen. each (suc k) j (omega arith) b seen))

-- the buffers from an index on have that index or a greater one
pub buffers_from-above : (low i : ℕ) (xs : SlotList) → low < i → All (λ b. low < b.id.index) (buffers_from i xs)
buffers_from-above low i [] below = All-nil (λ b. low < b.id.index)
buffers_from-above low i (None ∷ xs) below = buffers_from-above low (i + 1) xs (omega arith)
buffers_from-above low i (Some x ∷ xs) below = All-cons (λ b. low < b.id.index) _ _ below (buffers_from-above low (i + 1) xs (omega arith))

abbrev pub IsBelow : Buffer → Buffer → Type 0
IsBelow a b = a.id.index < b.id.index

AllPairs-cons : (x : Buffer) (xs : List Buffer) → All (λ b. IsBelow x b) xs → AllPairs IsBelow xs → AllPairs IsBelow (x ∷ xs)
AllPairs-cons x xs head tail zero zero d up within = absurd (omega arith)
AllPairs-cons x xs head tail zero (suc j) d up within = head j d (omega arith)
AllPairs-cons x xs head tail (suc i) zero d up within = absurd (omega arith)
AllPairs-cons x xs head tail (suc i) (suc j) d up within = tail i j d (omega arith) (omega arith)

-- the list rises by index
pub AllPairs-buffers_from : (i : ℕ) (xs : SlotList) → AllPairs IsBelow (buffers_from i xs)
AllPairs-buffers_from i [] = λ k j d up within. absurd (omega arith)
AllPairs-buffers_from i (None ∷ xs) = AllPairs-buffers_from (i + 1) xs
AllPairs-buffers_from i (Some x ∷ xs) =
    AllPairs-cons (buffer_at i x) (buffers_from (i + 1) xs) (buffers_from-above i (i + 1) xs (omega arith)) (AllPairs-buffers_from (i + 1) xs)

-- the buffers from an index on have no id of a lower index
pub find-below : (id : BufferId) (i : ℕ) (xs : SlotList) → id.index < i → find (has_id id) (buffers_from i xs) ≡ None
find-below id i [] below = refl
find-below id i (None ∷ xs) below = find-below id (i + 1) xs (omega arith)
find-below id i (Some x ∷ xs) below =
    let apart : eqb i id.index ≡ false = ne_eqb i id.index (omega arith) in
    let rest : find (has_id id) (buffers_from (i + 1) xs) ≡ None = find-below id (i + 1) xs (omega arith) in
    rw apart rest

-- the buffer that an id finds is the one at its index, if that has its generation
pub find-buffers_from : (id : BufferId) (i k : ℕ) (xs : SlotList) → id.index ≡ i + k →
    find (has_id id) (buffers_from i xs) ≡ option_map (buffer_at id.index) (of_generation id.generation (get_or xs k None))
find-buffers_from id i k [] at = refl
find-buffers_from id i zero (None ∷ xs) at = find-below id (i + 1) xs (omega arith)
find-buffers_from id i (suc k) (None ∷ xs) at = find-buffers_from id (i + 1) k xs (omega arith)
find-buffers_from id i zero (Some x ∷ xs) at =
    let here : i ≡ id.index = omega arith in
    let same : eqb i id.index ≡ true = eq-eqb i id.index here in
    let rest : find (has_id id) (buffers_from (i + 1) xs) ≡ None = find-below id (i + 1) xs (omega arith) in
    rw (same, rest) (
    elim (eqb x.generation id.generation) as (λ t. cond t (Some (buffer_at i x)) None ≡ option_map (buffer_at id.index) (cond t (Some x) None))
    [ true ↦ ap (λ n. Some (buffer_at n x)) here | false ↦ refl ])
find-buffers_from id i (suc k) (Some x ∷ xs) at =
    let apart : eqb i id.index ≡ false = ne_eqb i id.index (omega arith) in
    let rest : find (has_id id) (buffers_from (i + 1) xs) ≡ option_map (buffer_at id.index) (of_generation id.generation (get_or xs k None)) =
    find-buffers_from id (i + 1) k xs (omega arith) in
    rw apart rest

-- a buffer that is put into a free slot stands behind those of lower indexes that were there
pub record IsPutIn (old new : List Buffer) (index : ℕ) (b : Buffer) : Type 0 where
  pub list : new ≡ insert old (count_below index old) b

-- none of the buffers from an index on has a lower index
count_below-above : (low i : ℕ) (xs : SlotList) → low ≤ i → count_below low (buffers_from i xs) ≡ 0
count_below-above low i [] below = refl
count_below-above low i (None ∷ xs) below = count_below-above low (i + 1) xs (omega arith)
count_below-above low i (Some x ∷ xs) below =
    let past : nat_lt i low ≡ false = le-ltb _ _ below in
    rw past (count_below-above low (i + 1) xs (omega arith))

put_in_none : (i index : ℕ) (slot : LiveBuffer) (ys : SlotList) → get_or ys index None ≡ Some slot → ((k : ℕ) → k ≢ index → get_or ys k None ≡ None) →
    buffers_from i ys ≡ buffer_at (i + index) slot ∷ []
put_in_none i index slot [] here others = absurd (none-some slot here)
put_in_none i zero slot (None ∷ ys) here others = absurd (none-some slot here)
put_in_none i zero slot (Some y ∷ ys) here others =
    let first : y ≡ slot = same_Some _ _ here in
    let rest : buffers_from (i + 1) ys ≡ [] = buffers_from-none (i + 1) ys (λ k j e. ap (λ o. option_map (buffer_at j) o) (others (suc k) (omega arith))) in
    let start : i ≡ i + 0 = omega arith in
    rw (first, rest, ← start) refl
put_in_none i (suc index) slot (None ∷ ys) here others =
    let next : i + 1 + index ≡ i + suc index = omega arith in
    rw (← next) (put_in_none (i + 1) index slot ys here (λ k apart. others (suc k) (omega arith)))
put_in_none i (suc index) slot (Some y ∷ ys) here others = absurd (none-some y (sym (others 0 (omega arith))))

pub put_in : (i index at : ℕ) (slot : LiveBuffer) (xs ys : SlotList) → at ≡ i + index → get_or xs index None ≡ None → get_or ys index None ≡ Some slot →
    ((k : ℕ) → k ≢ index → get_or ys k None ≡ get_or xs k None) → IsPutIn (buffers_from i xs) (buffers_from i ys) at (buffer_at (i + index) slot)
put_in i index at slot [] ys is free here others = record { list = put_in_none i index slot ys here others }
put_in i index at slot (x ∷ xs) [] is free here others = absurd (none-some slot here)
put_in i zero at slot (None ∷ xs) (None ∷ ys) is free here others = absurd (none-some slot here)
put_in i zero at slot (None ∷ xs) (Some y ∷ ys) is free here others =
    let first : y ≡ slot = same_Some _ _ here in
    let rest : buffers_from (i + 1) ys ≡ buffers_from (i + 1) xs =
    buffers_from-same (i + 1) xs ys (λ k j e. ap (λ o. option_map (buffer_at j) o) (others (suc k) (omega arith))) in
    let start : i ≡ i + 0 = omega arith in
    let none : count_below at (buffers_from (i + 1) xs) ≡ 0 = count_below-above at (i + 1) xs (omega arith) in
    record { list = rw (first, rest, ← start, none) refl }
put_in i zero at slot (Some x ∷ xs) (y ∷ ys) is free here others = absurd (none-some x (sym free))
put_in i (suc index) at slot (None ∷ xs) (None ∷ ys) is free here others =
    let next : i + 1 + index ≡ i + suc index = omega arith in
    rw (← next) (put_in (i + 1) index at slot xs ys (omega arith) free here (λ k apart. others (suc k) (omega arith)))
put_in i (suc index) at slot (None ∷ xs) (Some y ∷ ys) is free here others = absurd (none-some y (sym (others 0 (omega arith))))
put_in i (suc index) at slot (Some x ∷ xs) (None ∷ ys) is free here others = absurd (none-some x (others 0 (omega arith)))
put_in i (suc index) at slot (Some x ∷ xs) (Some y ∷ ys) is free here others =
    let next : i + 1 + index ≡ i + suc index = omega arith in
    let first : y ≡ x = same_Some _ _ (others 0 (omega arith)) in
    let rest : IsPutIn (buffers_from (i + 1) xs) (buffers_from (i + 1) ys) at (buffer_at (i + suc index) slot) =
    rw (← next) (put_in (i + 1) index at slot xs ys (omega arith) free here (λ k apart. others (suc k) (omega arith))) in
    let lower : nat_lt i at ≡ true = lt-ltb _ _ (omega arith) in
    record { list = rw (first, lower, rest.list) refl }
