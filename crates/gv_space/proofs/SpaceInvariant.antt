-- A space stays one where its buffers or its list change.
use Rattle.std.proofs.Common.{◌≡◌, ℕ, ◌+◌, ◌≤◌, List, [], ◌++◌, length, arith, refl, None}
use Rattle.std.specs.List.{All}
use Rattle.std.proofs.lemmas.List.Elements.{All-nil}
use Rattle.gv_types.specs.Bounds.{BoundsState}
use Rattle.gv_types.specs.Limits.{LimitsState, greatest, IsFromOneTo, IsWithin}
use Rattle.gv_types.specs.declared.mapping.BufferId.{BufferId}
use Rattle.gv_types.specs.declared.mapping.Mapping.{Mapping}
use Rattle.gv_ranges.specs.List.{IsLaidOut}
use Rattle.gv_ranges.specs.Edit.{undone}
use Rattle.gv_buffers.specs.declared.usage.Usage.{Usage}
use Rattle.gv_buffers.specs.Buffers.{BuffersState, changed, joined_by, left_by, left_everywhere, only, without, destroy_fault, no_buffers, IsBuffer, IsCreated, IsTable}
use Rattle.gv_space.specs.Counts.{count_of, by_count, more_kept, less_kept}
use Rattle.gv_space.specs.State.{SpaceState, IsValidMapping, IsSpace, AreKept, most_kept, new_space}
use Rattle.gv_space.specs.Undo.{OpUndoState, released, reverted}
use Rattle.gv_space.specs.Change.{changed_to}
use Rattle.gv_space.proofs.Recounted.{UsesAre, uses-counted, uses-less_kept}
use Rattle.gv_space.proofs.KeptLemmas.{AreKept-changed, AreKept-released, AreKept-reverted, changed_is_table, reverted_is_table, released_is_table, placed_changed, placed_reverted, placed_released}
use Rattle.gv_space.proofs.LivesLemmas.{placed_made, uses_made, AreKept-made, count_of_destroyed, placed_destroyed, uses_destroyed, AreKept-destroyed, IsTable-without}
use Rattle.gv_space.proofs.Jobs.{joined_of_users, left_of_users, placed_used, uses_used, AreKept-joined, AreKept-left}

-- no buffers make a table
IsTable-no_buffers : (limit : ℕ) → IsFromOneTo greatest.buffers limit → IsTable (no_buffers limit)
IsTable-no_buffers limit within =
    record { limit = within; few = omega arith; buffers = All-nil (IsBuffer 0); apart = λ i j d up past. absurd (omega arith) }

-- a new space
pub IsSpace-new : (area : BoundsState) (limits : LimitsState) → IsWithin limits → IsSpace (new_space area limits)
IsSpace-new area limits within = record {
  limits = within;
  laid_out = tt;
  few = omega arith;
  valid = All-nil (IsValidMapping area (no_buffers limits.buffers));
  buffers = IsTable-no_buffers limits.buffers within.0;
  used = All-nil (λ b. b.uses ≡ 0);
  all_kept = [];
  are_kept = record { valid = All-nil (IsValidMapping area (no_buffers limits.buffers)); kept = All-nil (λ b. b.kept ≡ 0); kept_count = refl };
  few_kept = omega arith;
}

-- room says nothing of what always holds
pub IsSpace-room : (s : SpaceState) (room : ℕ) → IsSpace s → IsSpace (record s { room = room })
IsSpace-room s room space = record {
  limits = space.limits;
  laid_out = space.laid_out;
  few = space.few;
  valid = space.valid;
  buffers = space.buffers;
  used = space.used;
  all_kept = space.all_kept;
  are_kept = record { valid = space.are_kept.valid; kept = space.are_kept.kept; kept_count = space.are_kept.kept_count };
  few_kept = space.few_kept;
}

-- a space with another list, whose mappings are counted and kept
pub IsSpace-changed : (s : SpaceState) (ms taken : List Mapping) → IsSpace s → IsLaidOut ms → length ms ≤ s.limits.mappings →
    All (IsValidMapping s.area s.buffers) ms → All (IsValidMapping s.area s.buffers) taken → s.kept_count + length taken ≤ most_kept → IsSpace (changed_to ms taken s)
IsSpace-changed s ms taken space laid_out few valid taken_placed few_kept = record {
  limits = space.limits;
  laid_out = laid_out;
  few = few;
  valid = placed_changed ms taken s.area s.buffers ms valid;
  buffers = changed_is_table ms taken s.buffers space.buffers;
  used = uses-counted ms (by_count more_kept taken s.buffers);
  all_kept = taken ++ space.all_kept;
  are_kept = AreKept-changed s ms taken space.all_kept taken_placed space.are_kept;
  few_kept = few_kept;
}

-- a change undone
pub IsSpace-reverted : (s : SpaceState) (u : OpUndoState) (others : List Mapping) → IsSpace s → IsLaidOut (undone s.mappings u.change) →
    length (undone s.mappings u.change) ≤ s.limits.mappings → All (IsValidMapping s.area s.buffers) (undone s.mappings u.change) → AreKept s (u.change.taken ++ others) →
    IsSpace (reverted s u)
IsSpace-reverted s u others space laid_out few valid are_kept = record {
  limits = space.limits;
  laid_out = laid_out;
  few = few;
  valid = placed_reverted (undone s.mappings u.change) u.change.taken s.area s.buffers (undone s.mappings u.change) valid;
  buffers = reverted_is_table (undone s.mappings u.change) u.change.taken s.buffers space.buffers;
  used = uses-counted (undone s.mappings u.change) (by_count less_kept u.change.taken s.buffers);
  all_kept = others;
  are_kept = AreKept-reverted s u others are_kept;
  few_kept = omega (arith, space.few_kept);
}

-- an undo value's mappings given up
pub IsSpace-released : (s : SpaceState) (taken others : List Mapping) → IsSpace s → AreKept s (taken ++ others) → IsSpace (released s taken)
IsSpace-released s taken others space are_kept = record {
  limits = space.limits;
  laid_out = space.laid_out;
  few = space.few;
  valid = placed_released taken s.area s.buffers s.mappings space.valid;
  buffers = released_is_table taken s.buffers space.buffers;
  used = uses-less_kept s.mappings taken s.buffers space.used;
  all_kept = others;
  are_kept = AreKept-released s taken others are_kept;
  few_kept = omega (arith, space.few_kept);
}

-- other buffers
IsSpace-with_buffers : (s : SpaceState) (new : BuffersState) → IsSpace s → IsTable new → All (IsValidMapping s.area new) s.mappings → UsesAre s.mappings new →
    ((saved : List Mapping) → AreKept s saved → AreKept (record s { buffers = new }) saved) → IsSpace (record s { buffers = new })
IsSpace-with_buffers s new space table valid used saves = record {
  limits = space.limits;
  laid_out = space.laid_out;
  few = space.few;
  valid = valid;
  buffers = table;
  used = used;
  all_kept = space.all_kept;
  are_kept = saves space.all_kept space.are_kept;
  few_kept = space.few_kept;
}

-- a buffer made
pub IsSpace-made : (s : SpaceState) (new : BuffersState) (id : BufferId) (size : ℕ) → IsCreated s.buffers new id size → IsTable new → IsSpace s → IsSpace (record s { buffers = new })
IsSpace-made s new id size made table space =
    IsSpace-with_buffers s new space table (placed_made s.area s.buffers new id size s.mappings made space.valid)
    (uses_made s.area s.buffers new id size s.mappings made space.valid space.used) (λ saved are_kept. AreKept-made s new id size saved made are_kept)

-- a buffer destroyed
pub IsSpace-destroyed : (s : SpaceState) (id : BufferId) → destroy_fault s.buffers id ≡ None → IsSpace s → IsSpace (record s { buffers = without id s.buffers })
IsSpace-destroyed s id none space =
    let unnamed : count_of id s.mappings ≡ 0 = count_of_destroyed s.buffers id s.mappings none space.used in
    IsSpace-with_buffers s (without id s.buffers) space (IsTable-without s.buffers id space.buffers)
    (placed_destroyed s.area s.buffers id s.mappings unnamed space.valid) (uses_destroyed s.buffers id s.mappings space.used)
    (λ saved are_kept. AreKept-destroyed s id saved none are_kept)

-- a job that joined a buffer
pub IsSpace-joined : (s : SpaceState) (id : BufferId) (job : ℕ) (usage : Usage) → IsTable (changed id (joined_by job usage) s.buffers) → IsSpace s →
    IsSpace (record s { buffers = changed id (joined_by job usage) s.buffers })
IsSpace-joined s id job usage table space =
    IsSpace-with_buffers s (changed id (joined_by job usage) s.buffers) space table
    (placed_used (only id (joined_by job usage)) s.area s.buffers s.mappings (joined_of_users id job usage) space.valid)
    (uses_used (only id (joined_by job usage)) s.buffers s.mappings (joined_of_users id job usage) space.used)
    (λ saved are_kept. AreKept-joined s id job usage saved are_kept)

-- a job that left every buffer
pub IsSpace-left : (s : SpaceState) (job : ℕ) → IsTable (left_everywhere job s.buffers) → IsSpace s → IsSpace (record s { buffers = left_everywhere job s.buffers })
IsSpace-left s job table space =
    IsSpace-with_buffers s (left_everywhere job s.buffers) space table (placed_used (left_by job) s.area s.buffers s.mappings (left_of_users job) space.valid)
    (uses_used (left_by job) s.buffers s.mappings (left_of_users job) space.used) (λ saved are_kept. AreKept-left s job saved are_kept)
