use Rattle.std.proofs.Common.{◌+◌, List, length, arith, refl, sym, subst, ◌∙◌}
use Rattle.std.specs.List.{splice}
use Rattle.gv_types.specs.declared.mapping.Mapping.{Mapping}
use Rattle.gv_ranges.specs.List.{IsLaidOut}
use Rattle.gv_ranges.specs.Edit.{restored}
use Rattle.gv_ranges.proofs.RestLemmas.{run_is_laid_out}
use Rattle.gv_space.specs.ListWithTable.{ListWithTableState}
use Rattle.gv_space.specs.State.{SpaceState}
use Rattle.gv_space.specs.Change.{IsChanged}
use Rattle.gv_space.specs.Undo.{OpUndoState, undo_with}
use Rattle.gv_space.specs.Ready.{IsReady}
use Rattle.gv_space.specs.Inside.{space_of}
use Rattle.gv_space.proofs.FaultLemmas.{no_fault}
use Rattle.gv_space.proofs.ChangeIsReady.{inside, between_rests, made_ready, changed_before, grown_just_for}
use Rattle.gv_space.proofs.space.Space.change.Goals as goal

pub with_rests-requires-clause-taken : goal.with_rests-requires-clause-taken
with_rests-requires-clause-taken c =
    subst IsLaidOut (sym (c.as_slice.ensures ∙ (rw c.list-2.ensures.value at c.in_ok-copy_run.ensures)))
    (run_is_laid_out c.args.self.now.mappings c.overlap-overlap.result.spot.index c.overlap-overlap.result.count c.list-2.ensures.space.laid_out)

pub returns-in_err-reserve-clause-room : goal.returns-in_err-reserve-clause-room
returns-in_err-reserve-clause-room c =
    grown_just_for c.self.inside c.args.self.now _ c.args.range c.args.saved.now c.copy_run.new.pieces.items c.as_slice-pieces.result.now c.reserve.new.self
    c.overlap-overlap.result.spot.index c.overlap-overlap.result.count c.saturating_sub.result c.self.invariant.space c.self.view_is (rw c.list.ensures.value at c.overlap-overlap.ensures.run) (rw c.list-2.ensures.value at c.in_ok-copy_run.ensures)
    (c.as_slice-pieces.ensures ∙ (rw c.as_slice.ensures at c.in_ok-start.ensures.pieces)) (omega (arith, c.len.ensures.value, c.saturating_sub.ensures)) c.reserve.ensures.enough c.reserve.ensures.double_or_need refl

pub returns-in_err-make_room-clause-room : goal.returns-in_err-make_room-clause-room
returns-in_err-make_room-clause-room c =
    grown_just_for c.self.inside c.args.self.now _ c.args.range c.args.saved.now c.copy_run.new.pieces.items c.as_slice-pieces.result.now c.reserve.new.self
    c.overlap-overlap.result.spot.index c.overlap-overlap.result.count c.saturating_sub.result c.self.invariant.space c.self.view_is (rw c.list.ensures.value at c.overlap-overlap.ensures.run) (rw c.list-2.ensures.value at c.in_ok-copy_run.ensures)
    (c.as_slice-pieces.ensures ∙ (rw c.as_slice.ensures at c.in_ok-start.ensures.pieces)) (omega (arith, c.len.ensures.value, c.saturating_sub.ensures)) c.reserve.ensures.enough c.reserve.ensures.double_or_need refl

pub returns-clause-room : goal.returns-clause-room
returns-clause-room c =
    grown_just_for c.self.inside c.args.self.now _ c.args.range c.args.saved.now c.copy_run.new.pieces.items c.as_slice-pieces.result.now c.reserve.new.self
    c.overlap-overlap.result.spot.index c.overlap-overlap.result.count c.saturating_sub.result c.self.invariant.space c.self.view_is (rw c.list.ensures.value at c.overlap-overlap.ensures.run) (rw c.list-2.ensures.value at c.in_ok-copy_run.ensures)
    (c.as_slice-pieces.ensures ∙ (rw c.as_slice.ensures at c.in_ok-start.ensures.pieces)) (omega (arith, c.len.ensures.value, c.saturating_sub.ensures)) c.reserve.ensures.enough c.reserve.ensures.double_or_need c.commit.ensures.room

pub returns-in_err-tables-clause-room : goal.returns-in_err-tables-clause-room
returns-in_err-tables-clause-room c =
    grown_just_for c.self.inside c.args.self.now _ c.args.range c.args.saved.now c.copy_run.new.pieces.items c.as_slice-pieces.result.now c.reserve.new.self
    c.overlap-overlap.result.spot.index c.overlap-overlap.result.count c.saturating_sub.result c.self.invariant.space c.self.view_is (rw c.list.ensures.value at c.overlap-overlap.ensures.run) (rw c.list-2.ensures.value at c.in_ok-copy_run.ensures)
    (c.as_slice-pieces.ensures ∙ (rw c.as_slice.ensures at c.in_ok-start.ensures.pieces)) (omega (arith, c.len.ensures.value, c.saturating_sub.ensures)) c.reserve.ensures.enough c.reserve.ensures.double_or_need c.commit.ensures.room

pub commit-requires : goal.commit-requires
commit-requires c =
    let between = between_rests c.as_slice-pieces.result.now c.as_slice.result.now c.args.saved.now c.args.range c.in_ok-start.start c.in_ok-start.end
    (c.as_slice-pieces.ensures ∙ c.in_ok-start.ensures.pieces) c.in_ok-start.ensures.start c.in_ok-start.ensures.end in
    rw (between, c.as_slice-2.ensures)
    (made_ready c.self.inside c.args.self.now c.args.range c.args.saved.now c.self.invariant.space c.requires.laid_out c.reserve.new.self
    c.overlap-overlap.result.spot.index c.overlap-overlap.result.count c.copy_run.new.pieces.items c.as_slice-pieces.result.now c.saturating_sub.result
    c.self.view_is (rw c.list.ensures.value at c.overlap-overlap.ensures.run) (rw c.list-2.ensures.value at c.in_ok-copy_run.ensures) (c.as_slice-pieces.ensures ∙ (rw c.as_slice.ensures at c.in_ok-start.ensures.pieces))
    c.requires.valid (no_fault _ c.check_limits.result _ c.check_limits.ensures c.in_ok-check_limits.was)
    c.reserve.ensures.unchanged.mappings c.in_ok-reserve.ensures.ok (omega (arith, c.len.ensures.value, c.saturating_sub.ensures)))

pub returns-clause-changed : goal.returns-clause-changed
returns-clause-changed c =
    let s : SpaceState = space_of c.self.inside in
    let within : List Mapping = inside s c.args.range c.args.saved.now c.self.invariant.space c.requires.laid_out in
    let list : ListWithTableState = c.reserve.new.self in
    let before : SpaceState = record s { mappings = list.mappings; room = list.room } in
    let ready : IsReady within before c.args.range c.overlap-overlap.result.spot.index c.copy_run.new.pieces.items c.as_slice-pieces.result.now =
    made_ready c.self.inside c.args.self.now c.args.range c.args.saved.now c.self.invariant.space c.requires.laid_out list
    c.overlap-overlap.result.spot.index c.overlap-overlap.result.count c.copy_run.new.pieces.items c.as_slice-pieces.result.now c.saturating_sub.result
    c.self.view_is (rw c.list.ensures.value at c.overlap-overlap.ensures.run) (rw c.list-2.ensures.value at c.in_ok-copy_run.ensures) (c.as_slice-pieces.ensures ∙ (rw c.as_slice.ensures at c.in_ok-start.ensures.pieces))
    c.requires.valid (no_fault _ c.check_limits.result _ c.check_limits.ensures c.in_ok-check_limits.was)
    c.reserve.ensures.unchanged.mappings c.in_ok-reserve.ensures.ok (omega (arith, c.len.ensures.value, c.saturating_sub.ensures)) in
    let after : List Mapping = splice list.mappings c.overlap-overlap.result.spot.index (c.overlap-overlap.result.spot.index + length c.copy_run.new.pieces.items) c.as_slice-pieces.result.now in
    let undo : OpUndoState = undo_with c.overlap-overlap.result.spot.index (length c.as_slice-pieces.result.now) c.copy_run.new.pieces.items c.args.range c.in_ok-tables.tables in
    let is : IsChanged before c.commit.new.self after undo = rw c.as_slice-2.ensures at c.in_ok-tables.ensures.changed in
    subst (λ (t : SpaceState). IsChanged t c.commit.new.self (restored t.mappings c.args.range c.args.saved.now) undo) c.self.view_is
    (changed_before s list c.commit.new.self within c.args.range c.overlap-overlap.result.spot.index c.copy_run.new.pieces.items c.as_slice-pieces.result.now undo
    c.self.invariant.space c.reserve.ensures.unchanged.mappings c.reserve.ensures.unchanged.room ready is)

pub returns-clause-taken : goal.returns-clause-taken
returns-clause-taken c =
    subst IsLaidOut (sym (rw c.list-2.ensures.value at c.in_ok-copy_run.ensures))
    (run_is_laid_out c.args.self.now.mappings c.overlap-overlap.result.spot.index c.overlap-overlap.result.count c.list-2.ensures.space.laid_out)
