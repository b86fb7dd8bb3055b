-- The room in the counts of an address space.
use Rattle.std.proofs.Common.{◌≡◌, ℕ, ◌+◌, ◌≤◌, List, ◌++◌, length, slice_index_or, take, drop, arith, ap, length-append, take-append-drop}
use Rattle.std.specs.List.{All}
use Rattle.gv_types.specs.declared.mapping.BufferId.{BufferId}
use Rattle.gv_types.specs.declared.mapping.Mapping.{Mapping}
use Rattle.gv_ranges.specs.List.{run}
use Rattle.gv_buffers.specs.Buffers.{most_counted}
use Rattle.gv_space.specs.Counts.{count_of}
use Rattle.gv_space.specs.State.{SpaceState, IsSpace, AreKept, most_kept}
use Rattle.gv_space.proofs.CountLemmas.{count_of-append, count_of-le-length, count_of-run-le}

length-run-le : (ms : List Mapping) (index count : ℕ) → length (run ms index count) ≤ length ms
length-run-le ms index count =
    let front = ap (λ (xs : List Mapping). length xs) (take-append-drop count (drop index ms)) in
    let whole = ap (λ (xs : List Mapping). length xs) (take-append-drop index ms) in
    omega (arith, front, whole, length-append (take count (drop index ms)) (drop count (drop index ms)), length-append (take index ms) (drop index ms))

-- the list of a space is short
length-mappings : (s : SpaceState) → IsSpace s → length s.mappings ≤ 1048576
length-mappings s space = omega (arith, space.few, space.limits.1)

-- and so is a run of it
pub length-run-le-most_kept : (s : SpaceState) (taken : List Mapping) (index count : ℕ) → IsSpace s → taken ≡ run s.mappings index count → length taken ≤ most_kept
length-run-le-most_kept s taken index count space is =
    let same : length taken ≡ length (run s.mappings index count) = ap (λ (xs : List Mapping). length xs) is in
    omega (arith, same, length-run-le s.mappings index count, length-mappings s space)

-- and so is what one of the undo values holds
pub length-taken-le-most_kept : (s : SpaceState) (taken others : List Mapping) → IsSpace s → AreKept s (taken ++ others) → length taken ≤ most_kept
length-taken-le-most_kept s taken others space are_kept = omega (arith, are_kept.kept_count, space.few_kept, length-append taken others)

-- there is room for so many more mappings in undo values
pub room_to_keep : (s : SpaceState) (taken : List Mapping) → IsSpace s → length taken ≤ most_kept →
    All (λ b. b.kept + count_of b.id taken ≤ most_counted) s.buffers.live
room_to_keep s taken space few k d within =
    let id : BufferId = (slice_index_or s.buffers.live k d).id in
    let kept = space.are_kept.kept k d within in
    omega (arith, kept, space.are_kept.kept_count, space.few_kept, count_of-le-length id taken, count_of-le-length id space.all_kept, few)

-- and in the list
pub room_to_count : (s : SpaceState) (pieces : List Mapping) → IsSpace s → length pieces ≤ most_kept →
    All (λ b. b.uses + count_of b.id pieces ≤ most_counted) s.buffers.live
room_to_count s pieces space few k d within =
    let id : BufferId = (slice_index_or s.buffers.live k d).id in
    let used = space.used k d within in
    omega (arith, used, length-mappings s space, count_of-le-length id pieces, count_of-le-length id s.mappings, few)

-- a run of the list is counted in the list
pub run_is_counted : (s : SpaceState) (taken : List Mapping) (index count : ℕ) → IsSpace s → taken ≡ run s.mappings index count →
    All (λ b. count_of b.id taken ≤ b.uses) s.buffers.live
run_is_counted s taken index count space is k d within =
    let id : BufferId = (slice_index_or s.buffers.live k d).id in
    let used = space.used k d within in
    let same : count_of id taken ≡ count_of id (run s.mappings index count) = ap (λ (xs : List Mapping). count_of id xs) is in
    omega (arith, used, same, count_of-run-le id s.mappings index count)

-- and saved mappings in undo values
pub saved_are_kept : (s : SpaceState) (taken others : List Mapping) → AreKept s (taken ++ others) →
    All (λ b. count_of b.id taken ≤ b.kept) s.buffers.live
saved_are_kept s taken others are_kept k d within =
    let id : BufferId = (slice_index_or s.buffers.live k d).id in
    let kept = are_kept.kept k d within in
    omega (arith, kept, count_of-append id taken others)
