use Rattle.std.proofs.Common.{◌≡◌, ◌++◌, List, arith, length, sym, subst, ap, ◌∙◌}
use Rattle.gv_ranges.specs.List.{RangeListState, run}
use Rattle.gv_ranges.specs.Edit.{undone}
use Rattle.gv_buffers.specs.Buffers.{BuffersState, IsLive}
use Rattle.gv_types.specs.declared.mapping.Mapping.{Mapping}
use Rattle.gv_space.specs.ListWithTable.{AreLiveNamed}
use Rattle.gv_space.specs.ListFirstPages.{AreFirstPages}
use Rattle.gv_space.proofs.RoomInCounts.{length-taken-le-most_kept}
use Rattle.gv_space.proofs.FirstPageLists.{rows_for, rows_kept, room_for_first_pages, first_pages_spliced}
use Rattle.gv_space.specs.State.{SpaceState, IsSpace, AreKept}
use Rattle.gv_space.specs.Undo.{OpUndoState, CanRevert, reverted}
use Rattle.gv_space.specs.Inside.{space_of}
use Rattle.gv_space.proofs.LiveNames.{named_placed}
use Rattle.gv_space.proofs.Reverts.{undo_of, fits_inside, state_made, old, old_placed, taken_placed, had_what_was, lived_before, ended, within, room_to_undo, old_alike, taken_live, gone_live, taken_kept, room_for_taken, gone_counted, space_before, undone_is}
use Rattle.gv_space.proofs.KeptLemmas.{AreKept-reverted}
use Rattle.gv_space.proofs.space.Space.revert.Goals as goal

pub run_at-pieces-requires : goal.run_at-pieces-requires
run_at-pieces-requires c =
    let s : SpaceState = space_of c.self.inside in
    let u : OpUndoState = undo_of c.undo.inside in
    let fits : CanRevert s u = fits_inside c.self.inside c.undo.inside c.args.self.now c.args.undo c.self.view_is c.undo.view_is c.requires in
    rw (ap (λ (l : RangeListState). length l.mappings) c.list-list.ensures) (within s u c.self.invariant.space fits)

pub move_counts_back-requires-clause-rows : goal.move_counts_back-requires-clause-rows
move_counts_back-requires-clause-rows c =
    let s : SpaceState = space_of c.self.inside in
    let u : OpUndoState = undo_of c.undo.inside in
    let fits : CanRevert s u = fits_inside c.self.inside c.undo.inside c.args.self.now c.args.undo c.self.view_is c.undo.view_is c.requires in
    rw c.as_slice.ensures
    (rows_for s.buffers (length c.self.inside.first_pages) u.change.taken c.self.invariant.rows (taken_live s u c.self.invariant.space fits))

pub move_counts_back-requires-clause-few : goal.move_counts_back-requires-clause-few
move_counts_back-requires-clause-few c =
    let s : SpaceState = space_of c.self.inside in
    let u : OpUndoState = undo_of c.undo.inside in
    let fits : CanRevert s u = fits_inside c.self.inside c.undo.inside c.args.self.now c.args.undo c.self.view_is c.undo.view_is c.requires in
    rw c.as_slice.ensures
    (room_for_first_pages s c.self.inside.first_pages u.change.taken c.self.invariant.space
    (length-taken-le-most_kept s u.change.taken fits.kept.others c.self.invariant.space fits.kept.are_kept) c.self.invariant.first_pages)

pub put_back-requires-clause-within : goal.put_back-requires-clause-within
put_back-requires-clause-within c =
    let s : SpaceState = space_of c.self.inside in
    let u : OpUndoState = undo_of c.undo.inside in
    let fits : CanRevert s u = fits_inside c.self.inside c.undo.inside c.args.self.now c.args.undo c.self.view_is c.undo.view_is c.requires in
    within s u c.self.invariant.space fits

pub move_counts_back-requires-clause-taken : goal.move_counts_back-requires-clause-taken
move_counts_back-requires-clause-taken c =
    let s : SpaceState = space_of c.self.inside in
    let u : OpUndoState = undo_of c.undo.inside in
    let fits : CanRevert s u = fits_inside c.self.inside c.undo.inside c.args.self.now c.args.undo c.self.view_is c.undo.view_is c.requires in
    rw c.as_slice.ensures (taken_live s u c.self.invariant.space fits)

pub move_counts_back-requires-clause-pieces : goal.move_counts_back-requires-clause-pieces
move_counts_back-requires-clause-pieces c =
    let s : SpaceState = space_of c.self.inside in
    let u : OpUndoState = undo_of c.undo.inside in
    let fits : CanRevert s u = fits_inside c.self.inside c.undo.inside c.args.self.now c.args.undo c.self.view_is c.undo.view_is c.requires in
    let gone_is : c.run_at-pieces.result ≡ run s.mappings c.undo.inside.index c.undo.inside.put_in = c.run_at-pieces.ensures ∙ ap (λ (l : RangeListState). run l.mappings c.undo.inside.index c.undo.inside.put_in) c.list-list.ensures in
    rw gone_is (gone_live s u c.self.invariant.space fits)

pub move_counts_back-requires-clause-kept : goal.move_counts_back-requires-clause-kept
move_counts_back-requires-clause-kept c =
    let s : SpaceState = space_of c.self.inside in
    let u : OpUndoState = undo_of c.undo.inside in
    let fits : CanRevert s u = fits_inside c.self.inside c.undo.inside c.args.self.now c.args.undo c.self.view_is c.undo.view_is c.requires in
    rw c.as_slice.ensures (taken_kept s u c.self.invariant.space fits)

pub move_counts_back-requires-clause-room : goal.move_counts_back-requires-clause-room
move_counts_back-requires-clause-room c =
    let s : SpaceState = space_of c.self.inside in
    let u : OpUndoState = undo_of c.undo.inside in
    let fits : CanRevert s u = fits_inside c.self.inside c.undo.inside c.args.self.now c.args.undo c.self.view_is c.undo.view_is c.requires in
    rw c.as_slice.ensures (room_for_taken s u c.self.invariant.space fits)

pub move_counts_back-requires-clause-counted : goal.move_counts_back-requires-clause-counted
move_counts_back-requires-clause-counted c =
    let s : SpaceState = space_of c.self.inside in
    let u : OpUndoState = undo_of c.undo.inside in
    let fits : CanRevert s u = fits_inside c.self.inside c.undo.inside c.args.self.now c.args.undo c.self.view_is c.undo.view_is c.requires in
    let gone_is : c.run_at-pieces.result ≡ run s.mappings c.undo.inside.index c.undo.inside.put_in = c.run_at-pieces.ensures ∙ ap (λ (l : RangeListState). run l.mappings c.undo.inside.index c.undo.inside.put_in) c.list-list.ensures in
    rw gone_is (gone_counted s u c.self.invariant.space fits)

pub put_back-requires-clause-ended : goal.put_back-requires-clause-ended
put_back-requires-clause-ended c =
    let s : SpaceState = space_of c.self.inside in
    let u : OpUndoState = undo_of c.undo.inside in
    let fits : CanRevert s u = fits_inside c.self.inside c.undo.inside c.args.self.now c.args.undo c.self.view_is c.undo.view_is c.requires in
    ended s u c.self.invariant.space fits

pub put_back-requires-clause-room : goal.put_back-requires-clause-room
put_back-requires-clause-room c =
    let s : SpaceState = space_of c.self.inside in
    let u : OpUndoState = undo_of c.undo.inside in
    let fits : CanRevert s u = fits_inside c.self.inside c.undo.inside c.args.self.now c.args.undo c.self.view_is c.undo.view_is c.requires in
    rw c.as_slice-2.ensures (room_to_undo s u c.self.invariant.space fits)

pub put_back-requires-clause-alike : goal.put_back-requires-clause-alike
put_back-requires-clause-alike c =
    let s : SpaceState = space_of c.self.inside in
    let u : OpUndoState = undo_of c.undo.inside in
    let fits : CanRevert s u = fits_inside c.self.inside c.undo.inside c.args.self.now c.args.undo c.self.view_is c.undo.view_is c.requires in
    rw c.as_slice-2.ensures (old_alike s u c.self.invariant.space fits)

pub put_back-requires-clause-inside : goal.put_back-requires-clause-inside
put_back-requires-clause-inside c =
    let s : SpaceState = space_of c.self.inside in
    let u : OpUndoState = undo_of c.undo.inside in
    let fits : CanRevert s u = fits_inside c.self.inside c.undo.inside c.args.self.now c.args.undo c.self.view_is c.undo.view_is c.requires in
    rw c.as_slice-2.ensures (had_what_was s u c.self.invariant.space fits)

pub put_back-requires-clause-named_pieces : goal.put_back-requires-clause-named_pieces
put_back-requires-clause-named_pieces c =
    let s : SpaceState = space_of c.self.inside in
    let u : OpUndoState = undo_of c.undo.inside in
    let fits : CanRevert s u = fits_inside c.self.inside c.undo.inside c.args.self.now c.args.undo c.self.view_is c.undo.view_is c.requires in
    rw c.as_slice-2.ensures
    (named_placed s.area s.buffers c.self.inside.mapped.names u.change.taken c.self.invariant.space.buffers c.self.invariant.named
    (taken_placed s u c.self.invariant.space fits))

pub put_back-requires-clause-named : goal.put_back-requires-clause-named
put_back-requires-clause-named c =
    let s : SpaceState = space_of c.self.inside in
    let u : OpUndoState = undo_of c.undo.inside in
    let fits : CanRevert s u = fits_inside c.self.inside c.undo.inside c.args.self.now c.args.undo c.self.view_is c.undo.view_is c.requires in
    rw c.as_slice-2.ensures
    (named_placed s.area s.buffers c.self.inside.mapped.names (old s u c.self.invariant.space fits) c.self.invariant.space.buffers c.self.invariant.named
    (old_placed s u c.self.invariant.space fits))

pub invariant_of-self : goal.invariant_of-self
invariant_of-self c =
    let s : SpaceState = space_of c.self.inside in
    let u : OpUndoState = undo_of c.undo.inside in
    let fits : CanRevert s u = fits_inside c.self.inside c.undo.inside c.args.self.now c.args.undo c.self.view_is c.undo.view_is c.requires in
    let gone_is : c.run_at-pieces.result ≡ run s.mappings c.undo.inside.index c.undo.inside.put_in = c.run_at-pieces.ensures ∙ ap (λ (l : RangeListState). run l.mappings c.undo.inside.index c.undo.inside.put_in) c.list-list.ensures in
    let state = state_made s u c.self.invariant.space fits c.run_at-pieces.result c.as_slice.result.now c.as_slice-2.result.now c.put_back.new.self c.move_counts_back.new.buffers c.len.result
    gone_is c.as_slice.ensures c.as_slice-2.ensures c.put_back.ensures.mappings c.put_back.ensures.room c.move_counts_back.ensures.counts c.len.ensures.value in
    let list_is : c.put_back.new.self.mappings ≡ old s u c.self.invariant.space fits = rw (← c.as_slice-2.ensures) c.put_back.ensures.mappings in
    record {
      space = subst IsSpace (sym state) (space_before s u c.self.invariant.space fits);
      named = subst (AreLiveNamed c.move_counts_back.new.buffers) (sym c.put_back.ensures.names)
          (λ id lives. c.self.invariant.named id
          (lived_before c.run_at-pieces.result c.as_slice.result.now s.buffers id (subst (λ (t : BuffersState). IsLive t id) c.move_counts_back.ensures.counts lives)));
      first_pages = subst (λ (ms : List Mapping). AreFirstPages ms c.move_counts_back.new.first_pages) (sym list_is)
          (first_pages_spliced s.mappings c.run_at-pieces.result u.change.taken u.change.index u.change.put_in c.self.inside.first_pages c.move_counts_back.new.first_pages gone_is
          c.self.invariant.space.laid_out fits.undo.laid_out
          (rw c.as_slice.ensures at c.move_counts_back.ensures.first_pages) c.self.invariant.first_pages);
      rows = rows_kept s.buffers c.move_counts_back.new.buffers (length c.self.inside.first_pages) (length c.move_counts_back.new.first_pages)
          (λ id lives. lived_before c.run_at-pieces.result c.as_slice.result.now s.buffers id (subst (λ (t : BuffersState). IsLive t id) c.move_counts_back.ensures.counts lives)) (omega (arith, c.move_counts_back.ensures.rows)) c.self.invariant.rows;
    }

pub returns-clause-state : goal.returns-clause-state
returns-clause-state c =
    let s : SpaceState = space_of c.self.inside in
    let u : OpUndoState = undo_of c.undo.inside in
    let fits : CanRevert s u = fits_inside c.self.inside c.undo.inside c.args.self.now c.args.undo c.self.view_is c.undo.view_is c.requires in
    let gone_is : c.run_at-pieces.result ≡ run s.mappings c.undo.inside.index c.undo.inside.put_in = c.run_at-pieces.ensures ∙ ap (λ (l : RangeListState). run l.mappings c.undo.inside.index c.undo.inside.put_in) c.list-list.ensures in
    let state = state_made s u c.self.invariant.space fits c.run_at-pieces.result c.as_slice.result.now c.as_slice-2.result.now c.put_back.new.self c.move_counts_back.new.buffers c.len.result
    gone_is c.as_slice.ensures c.as_slice-2.ensures c.put_back.ensures.mappings c.put_back.ensures.room c.move_counts_back.ensures.counts c.len.ensures.value in
    state ∙ ap (λ (t : SpaceState). reverted t u) c.self.view_is ∙ ap (λ (v : OpUndoState). reverted c.args.self.now v) c.undo.view_is

pub returns-clause-undone : goal.returns-clause-undone
returns-clause-undone c =
    let s : SpaceState = space_of c.self.inside in
    let u : OpUndoState = undo_of c.undo.inside in
    let fits : CanRevert s u = fits_inside c.self.inside c.undo.inside c.args.self.now c.args.undo c.self.view_is c.undo.view_is c.requires in
    let list_is : c.put_back.new.self.mappings ≡ old s u c.self.invariant.space fits = rw (← c.as_slice-2.ensures) c.put_back.ensures.mappings in
    λ before is.
    list_is ∙ ap (λ (v : OpUndoState). undone s.mappings v.change) c.undo.view_is ∙ ap (λ (t : SpaceState). undone t.mappings c.args.undo.change) c.self.view_is
    ∙ undone_is before c.args.self.now.mappings c.args.undo is

pub returns-clause-kept : goal.returns-clause-kept
returns-clause-kept c =
    let s : SpaceState = space_of c.self.inside in
    let u : OpUndoState = undo_of c.undo.inside in
    let fits : CanRevert s u = fits_inside c.self.inside c.undo.inside c.args.self.now c.args.undo c.self.view_is c.undo.view_is c.requires in
    let gone_is : c.run_at-pieces.result ≡ run s.mappings c.undo.inside.index c.undo.inside.put_in = c.run_at-pieces.ensures ∙ ap (λ (l : RangeListState). run l.mappings c.undo.inside.index c.undo.inside.put_in) c.list-list.ensures in
    let state = state_made s u c.self.invariant.space fits c.run_at-pieces.result c.as_slice.result.now c.as_slice-2.result.now c.put_back.new.self c.move_counts_back.new.buffers c.len.result
    gone_is c.as_slice.ensures c.as_slice-2.ensures c.put_back.ensures.mappings c.put_back.ensures.room c.move_counts_back.ensures.counts c.len.ensures.value in
    λ others are_kept.
    let saved : AreKept s (u.change.taken ++ others) =
    subst (λ (v : OpUndoState). AreKept s (v.change.taken ++ others)) (sym c.undo.view_is)
    (subst (λ (t : SpaceState). AreKept t (c.args.undo.change.taken ++ others)) (sym c.self.view_is) are_kept) in
    subst (λ (t : SpaceState). AreKept t others) (sym state) (AreKept-reverted s u others saved)
