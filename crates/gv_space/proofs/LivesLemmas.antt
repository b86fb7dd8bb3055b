-- Buffers are made and destroyed: the mappings stay valid, and the counts stay right.
use Rattle.std.proofs.Common.{◌≡◌, ◌≢◌, ℕ, zero, suc, ◌+◌, ◌<◌, ◌≤◌, List, [], ◌∷◌, length, get_or, take, drop, Bool, true, false, cond, not, ltb, eqb, arith, refl, sym, ◌∙◌, ap, subst, Some, None, Option, IsSome, filter}
use Rattle.std.specs.Option.{option_map}
use Rattle.std.specs.List.{All, AllPairs}
use Rattle.std.proofs.lemmas.Bool.{eqb-true, and_parts, ltb-false, false≢true}
use Rattle.std.proofs.lemmas.Option.{none-some}
use Rattle.std.proofs.lemmas.List.Elements.{All-append, All-cons, All-take, All-drop, All-filter}
use Rattle.std.proofs.lemmas.List.Filters.{length-filter_both}
use Rattle.gv_types.specs.Mapping.{is_same_id, is_of}
use Rattle.gv_types.specs.Bounds.{BoundsState}
use Rattle.gv_types.specs.declared.fault.Fault.TheVariants.{Mapped, Kept, InUse}
use Rattle.gv_types.specs.declared.mapping.Backing.{Backing}
use Rattle.gv_types.specs.declared.mapping.Backing.TheVariants.{Buffer as BufferPages, Zero}
use Rattle.gv_types.specs.declared.mapping.BufferId.{BufferId}
use Rattle.gv_types.specs.declared.mapping.Mapping.{Mapping}
use Rattle.gv_buffers.specs.Buffers.{Buffer, BuffersState, buffer, has_id, fresh, without, count_below, use_fault, destroy_fault, destroy_fault_of, IsLive, IsBuffer, IsCreated, IsTable}
use Rattle.gv_buffers.proofs.FoundLemmas.{live_of_made, others_stay_made, others_stay_destroyed, is_same_id-itself, is_same_id-other}
use Rattle.gv_buffers.proofs.FoundLemmas.{counted_lives}
use Rattle.gv_space.specs.Counts.{count_of}
use Rattle.gv_space.specs.State.{SpaceState, LieInside, IsValidMapping, AreKept}
use Rattle.gv_space.proofs.CountLemmas.{same_from_is_same_id, count_of-none, none_from_count_of}
use Rattle.gv_space.proofs.BufferTableLemmas.{found_live, IsFound}
use Rattle.gv_space.proofs.ByCountLemmas.{KeepsSize, IsValidMapping-kept}
use Rattle.gv_space.proofs.Recounted.{UsesAre, KeptAre}

abbrev IsBelow : Buffer → Buffer → Type 0
IsBelow a b = a.id.index < b.id.index

-- the id of a new buffer is that of no live one
fresh_is_apart : (old new : BuffersState) (id other : BufferId) (size : ℕ) → IsCreated old new id size → IsLive old other → other ≢ id
fresh_is_apart old new id other size made lives same =
    let found = found_live (λ b. b.id.index ≢ id.index) old other made.free lives in
    let index : found.b.id.index ≡ other.index = eqb-true _ _ (and_parts (eqb found.b.id.index other.index) (eqb found.b.id.generation other.generation) found.same_id).0 in
    found.holds (index ∙ ap (λ (i : BufferId). i.index) same)

pub inside_is_live : (t : BuffersState) (id : BufferId) (page count : ℕ) → LieInside t (BufferPages id page) count → IsLive t id
inside_is_live t id page count inside = counted_lives t id (λ b. b.pages) (λ size. page + count ≤ size) inside

KeepsSize-made : (old new : BuffersState) (id : BufferId) (size : ℕ) (backing : Backing) (count : ℕ) → IsCreated old new id size → LieInside old backing count → KeepsSize old new backing
KeepsSize-made old new id size (BufferPages other page) count made inside =
    ap (option_map (λ (b : Buffer). b.pages)) (others_stay_made old new id other size made (fresh_is_apart old new id other size made (inside_is_live old other page count inside)))
KeepsSize-made old new id size Zero count made inside = tt

fresh_is_not_of : (old new : BuffersState) (id : BufferId) (size : ℕ) (backing : Backing) (count : ℕ) → IsCreated old new id size → LieInside old backing count → is_of id backing ≡ false
fresh_is_not_of old new id size (BufferPages other page) count made inside =
    is_same_id-other other id (λ same. fresh_is_apart old new id other size made (inside_is_live old other page count inside) (sym same))
fresh_is_not_of old new id size Zero count made inside = refl

-- mappings stay valid where a buffer is made
pub placed_made : (a : BoundsState) (old new : BuffersState) (id : BufferId) (size : ℕ) (ms : List Mapping) → IsCreated old new id size → All (IsValidMapping a old) ms → All (IsValidMapping a new) ms
placed_made a old new id size ms made valid k d within =
    let m : Mapping = get_or ms k d in
    let was : IsValidMapping a old m = valid k d within in
    IsValidMapping-kept a old new m (KeepsSize-made old new id size m.backing m.range.count made was.inside) was

-- none of them is of the new buffer
pub count_of_made : (a : BoundsState) (old new : BuffersState) (id : BufferId) (size : ℕ) (ms : List Mapping) → IsCreated old new id size → All (IsValidMapping a old) ms → count_of id ms ≡ 0
count_of_made a old new id size ms made valid =
    count_of-none id ms (λ k d within. fresh_is_not_of old new id size (get_or ms k d).backing (get_or ms k d).range.count made (valid k d within).inside)

-- what holds of each buffer and of the new one
All-made : (P : Buffer → Type 0) (old new : BuffersState) (id : BufferId) (size : ℕ) → IsCreated old new id size → All P old.live → P (fresh id size) → All P new.live
All-made P old new id size made all here =
    let index : ℕ = count_below id.index old.live in
    subst (All P) (sym (live_of_made old new id size made))
    (All-append P (take index old.live) (fresh id size ∷ drop index old.live) (All-take P index old.live all)
    (All-cons P (fresh id size) (drop index old.live) here (All-drop P index old.live all)))

-- so the counts are right for the new buffer too
pub uses_made : (a : BoundsState) (old new : BuffersState) (id : BufferId) (size : ℕ) (ms : List Mapping) → IsCreated old new id size → All (IsValidMapping a old) ms → UsesAre ms old → UsesAre ms new
uses_made a old new id size ms made valid used =
    All-made (λ b. b.uses ≡ count_of b.id ms) old new id size made used (sym (count_of_made a old new id size ms made valid))

pub kept_made : (a : BoundsState) (old new : BuffersState) (id : BufferId) (size : ℕ) (saved : List Mapping) → IsCreated old new id size → All (IsValidMapping a old) saved → KeptAre saved old → KeptAre saved new
kept_made a old new id size saved made valid kept =
    All-made (λ b. b.kept ≡ count_of b.id saved) old new id size made kept (sym (count_of_made a old new id size saved made valid))

-- undo values hold what they held
pub AreKept-made : (s : SpaceState) (new : BuffersState) (id : BufferId) (size : ℕ) (saved : List Mapping) → IsCreated s.buffers new id size → AreKept s saved →
    AreKept (record s { buffers = new }) saved
AreKept-made s new id size saved made are_kept = record {
  valid = placed_made s.area s.buffers new id size saved made are_kept.valid;
  kept = kept_made s.area s.buffers new id size saved made are_kept.valid are_kept.kept;
  kept_count = are_kept.kept_count;
}

-- a buffer that nothing names
pub record IsUnused (b : Buffer) : Type 0 where
  pub uses : b.uses ≡ 0
  pub kept : b.kept ≡ 0

unused_from_fault : (b : Buffer) → use_fault b ≡ None → IsUnused b
unused_from_fault b none =
    elim (ltb 0 b.uses) as (λ t. ltb 0 b.uses ≡ t →
    cond t (Some (Mapped b.uses)) (cond (ltb 0 b.kept) (Some (Kept b.kept)) (cond (ltb 0 (length b.users)) (Some (InUse (length b.users))) None)) ≡ None → IsUnused b) [
      | true ↦ (λ _ h. absurd (none-some _ (sym h)))
      | false ↦ (λ e h. elim (ltb 0 b.kept) as (λ t. ltb 0 b.kept ≡ t →
          cond t (Some (Kept b.kept)) (cond (ltb 0 (length b.users)) (Some (InUse (length b.users))) None) ≡ None → IsUnused b) [
            | true ↦ (λ _ h. absurd (none-some _ (sym h)))
            | false ↦ (λ f _. let uses = ltb-false _ _ e in let kept = ltb-false _ _ f in record { uses = omega arith; kept = omega arith })
          ] refl h)
    ] refl none

live_option : (o : Option Buffer) → destroy_fault_of o ≡ None → IsSome o
live_option None none = absurd (none-some _ (sym none))
live_option (Some b) none = refl

-- a buffer that can be destroyed is found, and nothing names it
found_unused : (t : BuffersState) (id : BufferId) (P : Buffer → Type 0) → All P t.live → destroy_fault t id ≡ None → IsFound t id (λ b. P b × IsUnused b)
found_unused t id P all none =
    let found = found_live P t id all (live_option (buffer t id) none) in
    let unused : IsUnused found.b = unused_from_fault found.b (ap destroy_fault_of (sym found.found) ∙ none) in
    record { b = found.b; found = found.found; same_id = found.same_id; holds = (found.holds, unused) }

-- no mapping of the list is of a buffer that can be destroyed
pub count_of_destroyed : (t : BuffersState) (id : BufferId) (ms : List Mapping) → destroy_fault t id ≡ None → UsesAre ms t → count_of id ms ≡ 0
count_of_destroyed t id ms none used =
    let found = found_unused t id (λ b. b.uses ≡ count_of b.id ms) used none in
    let same : found.b.id ≡ id = same_from_is_same_id found.b.id id found.same_id in
    ap (λ (i : BufferId). count_of i ms) (sym same) ∙ sym found.holds.0 ∙ found.holds.1.uses

-- and none that an undo value holds
pub kept_of_destroyed : (t : BuffersState) (id : BufferId) (saved : List Mapping) → destroy_fault t id ≡ None → KeptAre saved t → count_of id saved ≡ 0
kept_of_destroyed t id saved none kept =
    let found = found_unused t id (λ b. b.kept ≡ count_of b.id saved) kept none in
    let same : found.b.id ≡ id = same_from_is_same_id found.b.id id found.same_id in
    ap (λ (i : BufferId). count_of i saved) (sym same) ∙ sym found.holds.0 ∙ found.holds.1.kept

KeepsSize-destroyed : (t : BuffersState) (id : BufferId) (backing : Backing) → is_of id backing ≡ false → KeepsSize t (without id t) backing
KeepsSize-destroyed t id (BufferPages other page) apart =
    ap (option_map (λ (b : Buffer). b.pages)) (others_stay_destroyed t id other (λ same. absurd (false≢true (sym apart ∙ ap (λ (i : BufferId). is_same_id i id) same ∙ is_same_id-itself id))))
KeepsSize-destroyed t id Zero apart = tt

-- mappings that aren't of the buffer stay valid
pub placed_destroyed : (a : BoundsState) (t : BuffersState) (id : BufferId) (ms : List Mapping) → count_of id ms ≡ 0 → All (IsValidMapping a t) ms → All (IsValidMapping a (without id t)) ms
placed_destroyed a t id ms none valid k d within =
    let m : Mapping = get_or ms k d in
    IsValidMapping-kept a t (without id t) m (KeepsSize-destroyed t id m.backing (none_from_count_of id ms none k d within)) (valid k d within)

-- the counts of the others stay
pub uses_destroyed : (t : BuffersState) (id : BufferId) (ms : List Mapping) → UsesAre ms t → UsesAre ms (without id t)
uses_destroyed t id ms used = All-filter (λ b. not (has_id id b)) (λ b. b.uses ≡ count_of b.id ms) t.live used

pub kept_destroyed : (t : BuffersState) (id : BufferId) (saved : List Mapping) → KeptAre saved t → KeptAre saved (without id t)
kept_destroyed t id saved kept = All-filter (λ b. not (has_id id b)) (λ b. b.kept ≡ count_of b.id saved) t.live kept

-- undo values hold what they held
pub AreKept-destroyed : (s : SpaceState) (id : BufferId) (saved : List Mapping) → destroy_fault s.buffers id ≡ None → AreKept s saved →
    AreKept (record s { buffers = without id s.buffers }) saved
AreKept-destroyed s id saved none are_kept = record {
  valid = placed_destroyed s.area s.buffers id saved (kept_of_destroyed s.buffers id saved none are_kept.kept) are_kept.valid;
  kept = kept_destroyed s.buffers id saved are_kept.kept;
  kept_count = are_kept.kept_count;
}

pairs_head : (x : Buffer) (xs : List Buffer) → AllPairs IsBelow (x ∷ xs) → All (IsBelow x) xs
pairs_head x xs pairs k d within = pairs 0 (suc k) d (omega arith) (omega arith)

pairs_tail : (x : Buffer) (xs : List Buffer) → AllPairs IsBelow (x ∷ xs) → AllPairs IsBelow xs
pairs_tail x xs pairs i j d up within = pairs (suc i) (suc j) d (omega arith) (omega arith)

pairs-cons : (x : Buffer) (xs : List Buffer) → All (IsBelow x) xs → AllPairs IsBelow xs → AllPairs IsBelow (x ∷ xs)
pairs-cons x xs head tail zero zero d up within = absurd (omega arith)
pairs-cons x xs head tail zero (suc j) d up within = head j d (omega arith)
pairs-cons x xs head tail (suc i) zero d up within = absurd (omega arith)
pairs-cons x xs head tail (suc i) (suc j) d up within = tail i j d (omega arith) (omega arith)

pairs-filter : (test : Buffer → Bool) (xs : List Buffer) → AllPairs IsBelow xs → AllPairs IsBelow (filter test xs)
pairs-filter test [] pairs = pairs
pairs-filter test (x ∷ xs) pairs =
    let rest : AllPairs IsBelow (filter test xs) = pairs-filter test xs (pairs_tail x xs pairs) in
    elim (test x) as (λ t. AllPairs IsBelow (cond t (x ∷ filter test xs) (filter test xs))) [
      | true ↦ pairs-cons x (filter test xs) (All-filter test (IsBelow x) xs (pairs_head x xs pairs)) rest
      | false ↦ rest
    ]

-- a table stays one without a buffer
pub IsTable-without : (t : BuffersState) (id : BufferId) → IsTable t → IsTable (without id t)
IsTable-without t id table = record {
  limit = table.limit;
  few = omega (arith, table.few, length-filter_both (λ (b : Buffer). not (has_id id b)) (λ b. not (not (has_id id b))) (λ _. refl) t.live);
  buffers = All-filter (λ b. not (has_id id b)) (IsBuffer t.made) t.live table.buffers;
  apart = pairs-filter (λ b. not (has_id id b)) t.live table.apart;
}
