-- A list of undo values is reverted or released one after another, the newest first.
use Rattle.std.proofs.Common.{◌≡◌, List, [], ◌∷◌, ◌++◌, refl, ap, sym, ◌∙◌, subst, append_assoc}
use Rattle.gv_types.specs.declared.mapping.Mapping.{Mapping}
use Rattle.gv_space.specs.State.{SpaceState, AreKept}
use Rattle.gv_space.specs.Undo.{OpUndoState, AreAmongKept, CanRevert, reverted, released}
use Rattle.gv_journal.specs.Undoing.{taken_by, undone_by, reverted_by, AreRevertible}
use Rattle.gv_space.proofs.ReleasedLemmas.{released-released}

-- what the first of them keeps is kept
pub first_held : (s : SpaceState) (u : OpUndoState) (older : List OpUndoState) → AreAmongKept s (taken_by (u ∷ older)) → AreAmongKept s u.change.taken
first_held s u older holds = record {
  others = taken_by older ++ holds.others;
  are_kept = subst (λ (ms : List Mapping). AreKept s ms) (append_assoc u.change.taken (taken_by older) holds.others) holds.are_kept;
}

-- the first of them can be reverted
pub first_fits : (s : SpaceState) (us : List OpUndoState) (u : OpUndoState) (older : List OpUndoState) → us ≡ u ∷ older →
    AreRevertible s.limits.mappings s.room s.mappings us → AreAmongKept s (taken_by us) → CanRevert s u
first_fits s us u older is revertible holds =
    let turn = subst (λ (vs : List OpUndoState). AreRevertible s.limits.mappings s.room s.mappings vs) is revertible in
    let held = subst (λ (vs : List OpUndoState). AreAmongKept s (taken_by vs)) is holds in
    record { undo = turn.0.undo; few = turn.0.few; room = turn.0.room_for; kept = first_held s u older held }

-- then the others can
pub others_revertible : (s new : SpaceState) (us : List OpUndoState) (u : OpUndoState) (older : List OpUndoState) → us ≡ u ∷ older → new ≡ reverted s u →
    AreRevertible s.limits.mappings s.room s.mappings us → AreRevertible new.limits.mappings new.room new.mappings older
others_revertible s new us u older is state revertible =
    let turn = subst (λ (vs : List OpUndoState). AreRevertible s.limits.mappings s.room s.mappings vs) is revertible in
    subst (λ (t : SpaceState). AreRevertible t.limits.mappings t.room t.mappings older) (sym state) turn.1

-- what others keep stays kept once the first is spent
pub others_kept : (s new : SpaceState) (us : List OpUndoState) (u : OpUndoState) (older : List OpUndoState) (others : List Mapping) → us ≡ u ∷ older →
    ((xs : List Mapping) → AreKept s (u.change.taken ++ xs) → AreKept new xs) → AreKept s (taken_by us ++ others) → AreKept new (taken_by older ++ others)
others_kept s new us u older others is spent saved =
    spent (taken_by older ++ others)
    (subst (λ (ms : List Mapping). AreKept s ms) (append_assoc u.change.taken (taken_by older) others)
    (subst (λ (vs : List OpUndoState). AreKept s (taken_by vs ++ others)) is saved))

-- the first reverted and then the others is all of them reverted
pub reverted_in_turn : (s new : SpaceState) (us : List OpUndoState) (u : OpUndoState) (older : List OpUndoState) → us ≡ u ∷ older → new ≡ reverted s u →
    reverted_by new older ≡ reverted_by s us
reverted_in_turn s new us u older is state =
    ap (λ (t : SpaceState). reverted_by t older) state ∙ ap (λ (vs : List OpUndoState). reverted_by s vs) (sym is)

pub released_in_turn : (s new : SpaceState) (us : List OpUndoState) (u : OpUndoState) (older : List OpUndoState) → us ≡ u ∷ older → new ≡ released s u.change.taken →
    released new (taken_by older) ≡ released s (taken_by us)
released_in_turn s new us u older is state =
    ap (λ (t : SpaceState). released t (taken_by older)) state
    ∙ released-released s u.change.taken (taken_by older)
    ∙ ap (λ (vs : List OpUndoState). released s (taken_by vs)) (sym is)

-- the list of a space that is reverted
pub reverted_by-mappings : (s : SpaceState) (us : List OpUndoState) → (reverted_by s us).mappings ≡ undone_by s.mappings us
reverted_by-mappings s [] = refl
reverted_by-mappings s (u ∷ older) = reverted_by-mappings (reverted s u) older

pub first_of_all_held : (s : SpaceState) (us : List OpUndoState) (u : OpUndoState) (older : List OpUndoState) → us ≡ u ∷ older → AreAmongKept s (taken_by us) → AreAmongKept s u.change.taken
first_of_all_held s us u older is holds = first_held s u older (subst (λ (vs : List OpUndoState). AreAmongKept s (taken_by vs)) is holds)
