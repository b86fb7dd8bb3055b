-- What undo values hold, after a change, after it is undone and after its mappings are given up.
use Rattle.std.proofs.Common.{◌≡◌, ℕ, ◌+◌, ◌-◌, List, ◌++◌, length, arith, refl, sym, ◌∙◌, ap, subst, length-append, take, drop}
use Rattle.std.specs.List.{All, filter, splice}
use Rattle.std.proofs.lemmas.List.Elements.{All-append, All-take, All-drop, All-same, All-weaker, filter-append}
use Rattle.std.proofs.lemmas.List.{take_at, drop_at}
use Rattle.gv_types.specs.Bounds.{BoundsState}
use Rattle.gv_types.specs.Mapping.{is_of}
use Rattle.gv_types.specs.declared.mapping.BufferId.{BufferId}
use Rattle.gv_types.specs.declared.mapping.Mapping.{Mapping}
use Rattle.gv_ranges.specs.List.{run}
use Rattle.gv_ranges.specs.Edit.{undone}
use Rattle.gv_buffers.specs.Buffers.{BuffersState, IsTable}
use Rattle.gv_space.specs.Counts.{count_of, by_count, counted, more_kept, less_kept}
use Rattle.gv_space.specs.State.{SpaceState, IsValidMapping, AreKept}
use Rattle.gv_space.specs.Undo.{OpUndoState, released, reverted}
use Rattle.gv_space.specs.Change.{changed_to}
use Rattle.gv_space.specs.Laws.{KeptInAnyOrder}
use Rattle.gv_space.proofs.ByCountLemmas.{counted_of_counts, more_kept_of_counts, less_kept_of_counts, valid-by_count, IsTable-by_count}
use Rattle.gv_space.proofs.Recounted.{UsesAre, there_and_back, kept-counted, kept-more_kept, kept-less_kept}

-- the tables of `changed_to`, `reverted` and `released`
abbrev pub changed_table : List Mapping → List Mapping → BuffersState → BuffersState
changed_table ms taken t = by_count counted ms (by_count more_kept taken t)

abbrev pub reverted_table : List Mapping → List Mapping → BuffersState → BuffersState
reverted_table before taken t = by_count counted before (by_count less_kept taken t)

abbrev pub released_table : List Mapping → BuffersState → BuffersState
released_table taken t = by_count less_kept taken t

-- each is a table
pub changed_is_table : (ms taken : List Mapping) (t : BuffersState) → IsTable t → IsTable (changed_table ms taken t)
changed_is_table ms taken t table = IsTable-by_count counted ms _ counted_of_counts (IsTable-by_count more_kept taken t more_kept_of_counts table)

pub reverted_is_table : (before taken : List Mapping) (t : BuffersState) → IsTable t → IsTable (reverted_table before taken t)
reverted_is_table before taken t table = IsTable-by_count counted before _ counted_of_counts (IsTable-by_count less_kept taken t less_kept_of_counts table)

pub released_is_table : (taken : List Mapping) (t : BuffersState) → IsTable t → IsTable (released_table taken t)
released_is_table taken t table = IsTable-by_count less_kept taken t less_kept_of_counts table

-- and valid mappings stay valid
pub placed_changed : (ms taken : List Mapping) (a : BoundsState) (t : BuffersState) (xs : List Mapping) → All (IsValidMapping a t) xs → All (IsValidMapping a (changed_table ms taken t)) xs
placed_changed ms taken a t xs valid =
    valid-by_count counted ms a (by_count more_kept taken t) xs counted_of_counts (valid-by_count more_kept taken a t xs more_kept_of_counts valid)

pub placed_reverted : (before taken : List Mapping) (a : BoundsState) (t : BuffersState) (xs : List Mapping) → All (IsValidMapping a t) xs → All (IsValidMapping a (reverted_table before taken t)) xs
placed_reverted before taken a t xs valid =
    valid-by_count counted before a (by_count less_kept taken t) xs counted_of_counts (valid-by_count less_kept taken a t xs less_kept_of_counts valid)

pub placed_released : (taken : List Mapping) (a : BoundsState) (t : BuffersState) (xs : List Mapping) → All (IsValidMapping a t) xs → All (IsValidMapping a (released_table taken t)) xs
placed_released taken a t xs valid = valid-by_count less_kept taken a t xs less_kept_of_counts valid

-- how many of two lists are of a buffer
count_of-append : (id : BufferId) (xs ys : List Mapping) → count_of id (xs ++ ys) ≡ count_of id xs + count_of id ys
count_of-append id xs ys =
    ap length (filter-append (λ (m : Mapping). is_of id m.backing) xs ys) ∙
    length-append (filter (λ (m : Mapping). is_of id m.backing) xs) (filter (λ (m : Mapping). is_of id m.backing) ys)

-- in whatever order they stand
count_of-moved : (id : BufferId) (newer taken older : List Mapping) → count_of id (newer ++ (taken ++ older)) ≡ count_of id (taken ++ (newer ++ older))
count_of-moved id newer taken older =
    omega (arith, count_of-append id newer (taken ++ older), count_of-append id taken older, count_of-append id taken (newer ++ older), count_of-append id newer older)

-- what holds of each mapping of two lists holds of each of one
pub All-front : (P : Mapping → Type 0) (xs ys : List Mapping) → All P (xs ++ ys) → All P xs
All-front P xs ys all = subst (All P) (take_at xs ys (length xs) refl) (All-take P (length xs) (xs ++ ys) all)

pub All-back : (P : Mapping → Type 0) (xs ys : List Mapping) → All P (xs ++ ys) → All P ys
All-back P xs ys all = subst (All P) (drop_at xs ys (length xs) refl) (All-drop P (length xs) (xs ++ ys) all)

-- and of each of a run
pub All-taken : (P : Mapping → Type 0) (ms taken : List Mapping) (index count : ℕ) → taken ≡ run ms index count → All P ms → All P taken
All-taken P ms taken index count is all = All-same P taken (run ms index count) is (All-take P count (drop index ms) (All-drop P index ms all))

-- and of each once others take the place of a run
pub All-splice : (P : Mapping → Type 0) (ms pieces : List Mapping) (index past : ℕ) → All P ms → All P pieces → All P (splice ms index past pieces)
All-splice P ms pieces index past all new =
    All-append P (take index ms) (pieces ++ drop past ms) (All-take P index ms all) (All-append P pieces (drop past ms) new (All-drop P past ms all))

-- what a change took out is held beside the rest
pub AreKept-changed : (s : SpaceState) (ms taken saved : List Mapping) → All (IsValidMapping s.area s.buffers) taken → AreKept s saved →
    AreKept (changed_to ms taken s) (taken ++ saved)
AreKept-changed s ms taken saved valid are_kept = record {
  valid = placed_changed ms taken s.area s.buffers (taken ++ saved) (All-append (IsValidMapping s.area s.buffers) taken saved valid are_kept.valid);
  kept = kept-counted (taken ++ saved) ms (by_count more_kept taken s.buffers) (kept-more_kept taken saved s.buffers are_kept.kept);
  kept_count = omega (arith, are_kept.kept_count, length-append taken saved);
}

-- what is held may stand in another order
pub kept_in_any_order : KeptInAnyOrder
kept_in_any_order s newer taken older are_kept =
    let P : Mapping → Type 0 = IsValidMapping s.area s.buffers in
    let rest : All P (taken ++ older) = All-back P newer (taken ++ older) are_kept.valid in
    record {
      valid = All-append P taken (newer ++ older) (All-front P taken older rest) (All-append P newer older (All-front P newer (taken ++ older) are_kept.valid) (All-back P taken older rest));
      kept = All-weaker (λ b. b.kept ≡ count_of b.id (newer ++ (taken ++ older))) (λ b. b.kept ≡ count_of b.id (taken ++ (newer ++ older))) (λ b h. h ∙ count_of-moved b.id newer taken older) s.buffers.live are_kept.kept;
      kept_count = omega (arith, are_kept.kept_count, length-append newer (taken ++ older), length-append taken older, length-append taken (newer ++ older), length-append newer older);
    }

-- once its mappings are given up, the others are held
pub AreKept-released : (s : SpaceState) (taken others : List Mapping) → AreKept s (taken ++ others) → AreKept (released s taken) others
AreKept-released s taken others are_kept = record {
  valid = placed_released taken s.area s.buffers others (All-back (IsValidMapping s.area s.buffers) taken others are_kept.valid);
  kept = kept-less_kept taken others s.buffers are_kept.kept;
  kept_count = omega (arith, are_kept.kept_count, length-append taken others);
}

-- and once a change is undone
pub AreKept-reverted : (s : SpaceState) (u : OpUndoState) (others : List Mapping) → AreKept s (u.change.taken ++ others) → AreKept (reverted s u) others
AreKept-reverted s u others are_kept =
    let taken : List Mapping = u.change.taken in
    let before : List Mapping = undone s.mappings u.change in
    record {
      valid = placed_reverted before taken s.area s.buffers others (All-back (IsValidMapping s.area s.buffers) taken others are_kept.valid);
      kept = kept-counted others before (by_count less_kept taken s.buffers) (kept-less_kept taken others s.buffers are_kept.kept);
      kept_count = omega (arith, are_kept.kept_count, length-append taken others);
    }

-- room says nothing of what is held
pub AreKept-room : (s : SpaceState) (room : ℕ) (saved : List Mapping) → AreKept s saved → AreKept (record s { room = room }) saved
AreKept-room s room saved are_kept = record { valid = are_kept.valid; kept = are_kept.kept; kept_count = are_kept.kept_count }

pub AreKept-room_alone : (old new : SpaceState) (saved : List Mapping) → new ≡ record old { room = new.room } → AreKept old saved → AreKept new saved
AreKept-room_alone old new saved is are_kept = subst (λ (s : SpaceState). AreKept s saved) (sym is) (AreKept-room old new.room saved are_kept)

-- a change, with the room that it left
pub AreKept-changed_room : (old new : SpaceState) (ms taken saved : List Mapping) → new ≡ record (changed_to ms taken old) { room = new.room } →
    All (IsValidMapping old.area old.buffers) taken → AreKept old saved → AreKept new (taken ++ saved)
AreKept-changed_room old new ms taken saved state valid are_kept =
    subst (λ (s : SpaceState). AreKept s (taken ++ saved)) (sym state)
    (AreKept-room (changed_to ms taken old) new.room (taken ++ saved) (AreKept-changed old ms taken saved valid are_kept))

-- To undo a change gives the space before it.
pub reverted-changed : (old : SpaceState) (ms : List Mapping) (room : ℕ) (u : OpUndoState) → UsesAre old.mappings old.buffers → undone ms u.change ≡ old.mappings →
    reverted (record (changed_to ms u.change.taken old) { room = room }) u ≡ record old { room = room }
reverted-changed old ms room u used before =
    let taken : List Mapping = u.change.taken in
    let tables : reverted_table (undone ms u.change) taken (changed_table ms taken old.buffers) ≡ old.buffers =
    ap (λ (xs : List Mapping). reverted_table xs taken (changed_table ms taken old.buffers)) before ∙ there_and_back old.mappings ms taken old.buffers used in
    let held : old.kept_count + length taken - length taken ≡ old.kept_count = omega arith in
    ap (λ (xs : List Mapping). record (reverted (record (changed_to ms taken old) { room = room }) u) { mappings = xs }) before
    ∙ ap (λ (t : BuffersState). record old { room = room; buffers = t; kept_count = old.kept_count + length taken - length taken }) tables
    ∙ ap (λ (n : ℕ). record old { room = room; kept_count = n }) held

-- so does its undoing in a space that is known by an equation
pub reverted-changed_room : (old new : SpaceState) (ms : List Mapping) (u : OpUndoState) → new ≡ record (changed_to ms u.change.taken old) { room = new.room } →
    UsesAre old.mappings old.buffers → undone ms u.change ≡ old.mappings → reverted new u ≡ record old { room = new.room }
reverted-changed_room old new ms u state used before =
    ap (λ (s : SpaceState). reverted s u) state ∙ reverted-changed old ms new.room u used before
