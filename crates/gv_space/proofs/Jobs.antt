-- Jobs join and leave buffers: ids, sizes and counts stay.
use Rattle.std.proofs.Common.{◌≡◌, ℕ, List, true, false, cond, refl, sym, ◌∙◌, ap}
use Rattle.std.specs.List.{All}
use Rattle.std.proofs.lemmas.List.Elements.{All-map, All-weaker}
use Rattle.gv_types.specs.Bounds.{BoundsState}
use Rattle.gv_types.specs.declared.mapping.BufferId.{BufferId}
use Rattle.gv_types.specs.declared.mapping.Mapping.{Mapping}
use Rattle.gv_buffers.specs.declared.usage.Usage.{Usage}
use Rattle.gv_buffers.specs.Buffers.{Buffer, BuffersState, has_id, only, changed, joined_by, left_by, left_everywhere}
use Rattle.gv_space.specs.Counts.{count_of}
use Rattle.gv_space.specs.State.{SpaceState, IsValidMapping, AreKept}
use Rattle.gv_space.proofs.BufferTableLemmas.{each, IsKeeping, pages-each}
use Rattle.gv_space.proofs.ByCountLemmas.{valid-kept}
use Rattle.gv_space.proofs.Recounted.{UsesAre, KeptAre}

-- a change of a buffer that leaves its id, its size and its counts
pub record IsOfUsers (f : Buffer → Buffer) : Type 0 where
  pub keeping : IsKeeping f
  pub uses : (b : Buffer) → (f b).uses ≡ b.uses
  pub kept : (b : Buffer) → (f b).kept ≡ b.kept

only_keeps : {X : Type 0} (field : Buffer → X) (id : BufferId) (f : Buffer → Buffer) (b : Buffer) → field (f b) ≡ field b → field (only id f b) ≡ field b
only_keeps field id f b same = elim (has_id id b) as (λ t. field (cond t (f b) b) ≡ field b) [ true ↦ same | false ↦ refl ]

-- a job joins one buffer
pub joined_of_users : (id : BufferId) (job : ℕ) (usage : Usage) → IsOfUsers (only id (joined_by job usage))
joined_of_users id job usage = record {
  keeping = record { id = λ b. only_keeps (λ x. x.id) id (joined_by job usage) b refl; pages = λ b. only_keeps (λ x. x.pages) id (joined_by job usage) b refl };
  uses = λ b. only_keeps (λ x. x.uses) id (joined_by job usage) b refl;
  kept = λ b. only_keeps (λ x. x.kept) id (joined_by job usage) b refl;
}

-- a job leaves a buffer
pub left_of_users : (job : ℕ) → IsOfUsers (left_by job)
left_of_users job = record { keeping = record { id = λ b. refl; pages = λ b. refl }; uses = λ b. refl; kept = λ b. refl }

-- mappings stay valid
pub placed_used : (f : Buffer → Buffer) (a : BoundsState) (t : BuffersState) (ms : List Mapping) → IsOfUsers f → All (IsValidMapping a t) ms → All (IsValidMapping a (each f t)) ms
placed_used f a t ms of_users valid = valid-kept a t (each f t) ms (λ id. pages-each f t id of_users.keeping) valid

same_count : (ms : List Mapping) (x y : BufferId) (m n : ℕ) → x ≡ y → m ≡ n → n ≡ count_of y ms → m ≡ count_of x ms
same_count ms x y m n ids counts is = counts ∙ is ∙ ap (λ (i : BufferId). count_of i ms) (sym ids)

-- the counts stay right
pub uses_used : (f : Buffer → Buffer) (t : BuffersState) (ms : List Mapping) → IsOfUsers f → UsesAre ms t → UsesAre ms (each f t)
uses_used f t ms of_users used =
    All-map (λ b. b.uses ≡ count_of b.id ms) f t.live
    (All-weaker (λ b. b.uses ≡ count_of b.id ms) (λ b. (f b).uses ≡ count_of (f b).id ms) (λ b h. same_count ms _ _ _ _ (of_users.keeping.id b) (of_users.uses b) h) t.live used)

pub kept_used : (f : Buffer → Buffer) (t : BuffersState) (saved : List Mapping) → IsOfUsers f → KeptAre saved t → KeptAre saved (each f t)
kept_used f t saved of_users kept =
    All-map (λ b. b.kept ≡ count_of b.id saved) f t.live
    (All-weaker (λ b. b.kept ≡ count_of b.id saved) (λ b. (f b).kept ≡ count_of (f b).id saved) (λ b h. same_count saved _ _ _ _ (of_users.keeping.id b) (of_users.kept b) h) t.live kept)

-- undo values hold what they held
AreKept-used : (f : Buffer → Buffer) (s : SpaceState) (saved : List Mapping) → IsOfUsers f → AreKept s saved → AreKept (record s { buffers = each f s.buffers }) saved
AreKept-used f s saved of_users are_kept = record {
  valid = placed_used f s.area s.buffers saved of_users are_kept.valid;
  kept = kept_used f s.buffers saved of_users are_kept.kept;
  kept_count = are_kept.kept_count;
}

pub AreKept-joined : (s : SpaceState) (id : BufferId) (job : ℕ) (usage : Usage) (saved : List Mapping) → AreKept s saved →
    AreKept (record s { buffers = changed id (joined_by job usage) s.buffers }) saved
AreKept-joined s id job usage saved are_kept = AreKept-used (only id (joined_by job usage)) s saved (joined_of_users id job usage) are_kept

pub AreKept-left : (s : SpaceState) (job : ℕ) (saved : List Mapping) → AreKept s saved → AreKept (record s { buffers = left_everywhere job s.buffers }) saved
AreKept-left s job saved are_kept = AreKept-used (left_by job) s saved (left_of_users job) are_kept
