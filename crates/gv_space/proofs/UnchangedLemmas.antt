-- What is known of an undo value stays where only the room grows.
use Rattle.std.proofs.Common.{◌≡◌, ℕ, ◌≤◌, List, ◌++◌, Result, Ok, Err, IfOk, arith, sym, subst, ◌∙◌, ap}
use Rattle.gv_types.specs.declared.fault.Fault.{Fault}
use Rattle.gv_types.specs.declared.mapping.Mapping.{Mapping}
use Rattle.gv_space.specs.State.{SpaceState, AreKept, IsUnchanged}
use Rattle.gv_space.specs.Undo.{OpUndoState, CanRevert, AreAmongKept, reverted}
use Rattle.gv_space.specs.Change.{IsChanged}

-- saved mappings
pub AreKept-unchanged : (old new : SpaceState) (ms : List Mapping) → IsUnchanged old new → AreKept old ms → AreKept new ms
AreKept-unchanged old new ms unchanged are_kept =
    subst (λ (s : SpaceState). AreKept s ms) (sym unchanged.state)
    (record { valid = are_kept.valid; kept = are_kept.kept; kept_count = are_kept.kept_count })

-- those of an undo value
pub AreAmongKept-unchanged : (old new : SpaceState) (ms : List Mapping) → IsUnchanged old new → AreAmongKept old ms → AreAmongKept new ms
AreAmongKept-unchanged old new ms unchanged holds =
    record { others = holds.others; are_kept = AreKept-unchanged old new (ms ++ holds.others) unchanged holds.are_kept }

-- an undo value that fits
pub CanRevert-unchanged : (old new : SpaceState) (u : OpUndoState) → IsUnchanged old new → CanRevert old u → CanRevert new u
CanRevert-unchanged old new u unchanged fits =
    subst (λ (s : SpaceState). CanRevert s u) (sym unchanged.state)
    (record {
      undo = fits.undo;
      few = fits.few;
      room = omega (arith, fits.room, unchanged.room);
      kept = record {
        others = fits.kept.others;
        are_kept = record { valid = fits.kept.are_kept.valid; kept = fits.kept.are_kept.kept; kept_count = fits.kept.are_kept.kept_count };
      };
    })

-- a change made with more room
changed_with_room : (old new : SpaceState) (room : ℕ) (ms : List Mapping) (u : OpUndoState) → old.room ≤ room →
    IsChanged (record old { room = room }) new ms u → IsChanged old new ms u
changed_with_room old new room ms u more changed = record {
  state = changed.state;
  room = omega (arith, more, changed.room);
  undo = changed.undo;
  can_revert = changed.can_revert;
  kept = λ others are_kept.
      changed.kept others (record { valid = are_kept.valid; kept = are_kept.kept; kept_count = are_kept.kept_count });
  back = changed.back;
}

-- a change made where a refused one left more room
pub IsChanged-unchanged : (old between new : SpaceState) (ms : List Mapping) (u : OpUndoState) → IsUnchanged old between →
    IsChanged between new ms u → IsChanged old new ms u
IsChanged-unchanged old between new ms u unchanged changed =
    changed_with_room old new between.room ms u unchanged.room
    (subst (λ (s : SpaceState). IsChanged s new ms u) unchanged.state changed)

-- a change made at the second try
pub changed_at_last : (old refused between new : SpaceState) (after : List Mapping → List Mapping) (result : Result OpUndoState Fault) →
    IsUnchanged old refused → between ≡ refused → IfOk result (λ u. IsChanged between new (after between.mappings) u) →
    IfOk result (λ u. IsChanged old new (after old.mappings) u)
changed_at_last old refused between new after (Ok u) unchanged same changed =
    let state : between ≡ record old { room = refused.room } = same ∙ unchanged.state in
    IsChanged-unchanged old refused new (after old.mappings) u unchanged
    (subst (λ (s : SpaceState). IsChanged s new (after old.mappings) u) same
    (subst (λ (ms : List Mapping). IsChanged between new (after ms) u) (ap (λ (s : SpaceState). s.mappings) state) changed))
changed_at_last old refused between new after (Err fault) unchanged same changed = changed

-- a change taken back
pub taken_back : (old new after : SpaceState) (ms : List Mapping) (u : OpUndoState) → IsChanged old new ms u → after ≡ reverted new u →
    IsUnchanged old after
taken_back old new after ms u changed is =
    subst (λ (s : SpaceState). IsUnchanged old s) (sym is) (record { state = changed.back; room = changed.room })
