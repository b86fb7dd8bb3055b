use Rattle.std.proofs.Common.{◌≡◌, ◌+◌, ◌≤◌, List, length, arith, refl, sym, subst}
use Rattle.std.specs.List.{splice}
use Rattle.gv_types.specs.declared.mapping.Mapping.{Mapping}
use Rattle.gv_table.specs.Table.{IsTree, gained_by}
use Rattle.gv_table.specs.declared.page_table.PageTable.{PageTable}
use Rattle.gv_buffers.specs.Buffers.{BuffersState, IsLive}
use Rattle.gv_space.specs.ListWithTable.{AreLiveNamed}
use Rattle.gv_space.specs.ListFirstPages.{AreFirstPages}
use Rattle.gv_space.proofs.FirstPageLists.{rows_for, rows_kept, room_for_first_pages, first_pages_spliced}
use Rattle.gv_space.specs.State.{SpaceState, most_kept}
use Rattle.gv_space.specs.Counts.{by_count, more_used, less_used, more_kept}
use Rattle.gv_space.specs.Undo.{OpUndoState}
use Rattle.gv_space.specs.Change.{IsChanged}
use Rattle.gv_space.specs.Ready.{IsReady}
use Rattle.gv_space.specs.Inside.{space_of}
use Rattle.gv_space.proofs.ByCountLemmas.{live_from_placed}
use Rattle.gv_space.proofs.RoomInCounts.{room_to_keep, room_to_count, run_is_counted, length-run-le-most_kept}
use Rattle.gv_space.proofs.LiveNames.{named_placed}
use Rattle.gv_space.proofs.Commits.{after, after_laid_out, after_alike, after_pieces, after_placed, lived_after, taken_placed, pieces_placed, pieces_are_few, state_after, space_after, change_is, change_of}
use Rattle.gv_space.proofs.space.Space.commit.Goals as goal

pub edit-requires-clause-laid_out : goal.edit-requires-clause-laid_out
edit-requires-clause-laid_out c =
    let s : SpaceState = space_of c.self.inside in
    let ready : IsReady c.args.inside.now s c.args.range c.args.spot.index c.args.taken.now c.args.pieces.now =
    subst (λ (t : SpaceState). IsReady c.args.inside.now t c.args.range c.args.spot.index c.args.taken.now c.args.pieces.now) (sym c.self.view_is) c.requires in
    (after_laid_out c.args.inside.now s c.args.range c.args.spot.index c.args.taken.now c.args.pieces.now c.self.invariant.space ready)

pub edit-requires-clause-alike : goal.edit-requires-clause-alike
edit-requires-clause-alike c =
    let s : SpaceState = space_of c.self.inside in
    let ready : IsReady c.args.inside.now s c.args.range c.args.spot.index c.args.taken.now c.args.pieces.now =
    subst (λ (t : SpaceState). IsReady c.args.inside.now t c.args.range c.args.spot.index c.args.taken.now c.args.pieces.now) (sym c.self.view_is) c.requires in
    (after_alike c.args.inside.now s c.args.range c.args.spot.index c.args.taken.now c.args.pieces.now c.self.invariant.space ready)

pub edit-requires-clause-inside : goal.edit-requires-clause-inside
edit-requires-clause-inside c =
    let s : SpaceState = space_of c.self.inside in
    let ready : IsReady c.args.inside.now s c.args.range c.args.spot.index c.args.taken.now c.args.pieces.now =
    subst (λ (t : SpaceState). IsReady c.args.inside.now t c.args.range c.args.spot.index c.args.taken.now c.args.pieces.now) (sym c.self.view_is) c.requires in
    (after_pieces c.args.inside.now s c.args.range c.args.spot.index c.args.taken.now c.args.pieces.now c.self.invariant.space ready)

pub edit-requires-clause-named_inside : goal.edit-requires-clause-named_inside
edit-requires-clause-named_inside c =
    let s : SpaceState = space_of c.self.inside in
    let ready : IsReady c.args.inside.now s c.args.range c.args.spot.index c.args.taken.now c.args.pieces.now =
    subst (λ (t : SpaceState). IsReady c.args.inside.now t c.args.range c.args.spot.index c.args.taken.now c.args.pieces.now) (sym c.self.view_is) c.requires in
    named_placed s.area s.buffers c.self.inside.mapped.names c.args.inside.now c.self.invariant.space.buffers c.self.invariant.named ready.valid

pub edit-requires-clause-named : goal.edit-requires-clause-named
edit-requires-clause-named c =
    let s : SpaceState = space_of c.self.inside in
    let ready : IsReady c.args.inside.now s c.args.range c.args.spot.index c.args.taken.now c.args.pieces.now =
    subst (λ (t : SpaceState). IsReady c.args.inside.now t c.args.range c.args.spot.index c.args.taken.now c.args.pieces.now) (sym c.self.view_is) c.requires in
    (named_placed s.area s.buffers c.self.inside.mapped.names (after c.args.inside.now s c.args.range c.args.spot.index c.args.taken.now c.args.pieces.now c.self.invariant.space ready)
    c.self.invariant.space.buffers c.self.invariant.named (after_placed c.args.inside.now s c.args.range c.args.spot.index c.args.taken.now c.args.pieces.now c.self.invariant.space ready))

pub move_counts-requires-clause-rows : goal.move_counts-requires-clause-rows
move_counts-requires-clause-rows c =
    let s : SpaceState = space_of c.self.inside in
    let ready : IsReady c.args.inside.now s c.args.range c.args.spot.index c.args.taken.now c.args.pieces.now =
    subst (λ (t : SpaceState). IsReady c.args.inside.now t c.args.range c.args.spot.index c.args.taken.now c.args.pieces.now) (sym c.self.view_is) c.requires in
    rows_for s.buffers (length c.self.inside.first_pages) c.args.pieces.now c.self.invariant.rows
    (live_from_placed s.area s.buffers c.args.pieces.now (pieces_placed c.args.inside.now s c.args.range c.args.spot.index c.args.taken.now c.args.pieces.now c.self.invariant.space ready))

pub move_counts-requires-clause-few : goal.move_counts-requires-clause-few
move_counts-requires-clause-few c =
    let s : SpaceState = space_of c.self.inside in
    let ready : IsReady c.args.inside.now s c.args.range c.args.spot.index c.args.taken.now c.args.pieces.now =
    subst (λ (t : SpaceState). IsReady c.args.inside.now t c.args.range c.args.spot.index c.args.taken.now c.args.pieces.now) (sym c.self.view_is) c.requires in
    let few : length c.args.pieces.now ≤ most_kept = omega (arith, pieces_are_few c.args.inside.now s c.args.range c.args.spot.index c.args.taken.now c.args.pieces.now c.self.invariant.space ready) in
    room_for_first_pages s c.self.inside.first_pages c.args.pieces.now c.self.invariant.space few c.self.invariant.first_pages

pub move_counts-requires-clause-taken : goal.move_counts-requires-clause-taken
move_counts-requires-clause-taken c =
    let s : SpaceState = space_of c.self.inside in
    let ready : IsReady c.args.inside.now s c.args.range c.args.spot.index c.args.taken.now c.args.pieces.now =
    subst (λ (t : SpaceState). IsReady c.args.inside.now t c.args.range c.args.spot.index c.args.taken.now c.args.pieces.now) (sym c.self.view_is) c.requires in
    (live_from_placed s.area s.buffers c.args.taken.now (taken_placed c.args.inside.now s c.args.range c.args.spot.index c.args.taken.now c.args.pieces.now c.self.invariant.space ready))

pub move_counts-requires-clause-pieces : goal.move_counts-requires-clause-pieces
move_counts-requires-clause-pieces c =
    let s : SpaceState = space_of c.self.inside in
    let ready : IsReady c.args.inside.now s c.args.range c.args.spot.index c.args.taken.now c.args.pieces.now =
    subst (λ (t : SpaceState). IsReady c.args.inside.now t c.args.range c.args.spot.index c.args.taken.now c.args.pieces.now) (sym c.self.view_is) c.requires in
    live_from_placed s.area s.buffers c.args.pieces.now (pieces_placed c.args.inside.now s c.args.range c.args.spot.index c.args.taken.now c.args.pieces.now c.self.invariant.space ready)

pub move_counts-requires-clause-keeps : goal.move_counts-requires-clause-keeps
move_counts-requires-clause-keeps c =
    let s : SpaceState = space_of c.self.inside in
    let ready : IsReady c.args.inside.now s c.args.range c.args.spot.index c.args.taken.now c.args.pieces.now =
    subst (λ (t : SpaceState). IsReady c.args.inside.now t c.args.range c.args.spot.index c.args.taken.now c.args.pieces.now) (sym c.self.view_is) c.requires in
    (room_to_keep s c.args.taken.now c.self.invariant.space (length-run-le-most_kept s c.args.taken.now c.args.spot.index (length c.args.taken.now) c.self.invariant.space ready.taken_is))

pub move_counts-requires-clause-room : goal.move_counts-requires-clause-room
move_counts-requires-clause-room c =
    let s : SpaceState = space_of c.self.inside in
    let ready : IsReady c.args.inside.now s c.args.range c.args.spot.index c.args.taken.now c.args.pieces.now =
    subst (λ (t : SpaceState). IsReady c.args.inside.now t c.args.range c.args.spot.index c.args.taken.now c.args.pieces.now) (sym c.self.view_is) c.requires in
    let few : length c.args.pieces.now ≤ most_kept = omega (arith, pieces_are_few c.args.inside.now s c.args.range c.args.spot.index c.args.taken.now c.args.pieces.now c.self.invariant.space ready) in
    room_to_count s c.args.pieces.now c.self.invariant.space few

pub move_counts-requires-clause-counted : goal.move_counts-requires-clause-counted
move_counts-requires-clause-counted c =
    let s : SpaceState = space_of c.self.inside in
    let ready : IsReady c.args.inside.now s c.args.range c.args.spot.index c.args.taken.now c.args.pieces.now =
    subst (λ (t : SpaceState). IsReady c.args.inside.now t c.args.range c.args.spot.index c.args.taken.now c.args.pieces.now) (sym c.self.view_is) c.requires in
    (run_is_counted s c.args.taken.now c.args.spot.index (length c.args.taken.now) c.self.invariant.space ready.taken_is)

pub invariant_of-self-2 : goal.invariant_of-self-2
invariant_of-self-2 c =
    let s : SpaceState = space_of c.self.inside in
    let ready : IsReady c.args.inside.now s c.args.range c.args.spot.index c.args.taken.now c.args.pieces.now =
    subst (λ (t : SpaceState). IsReady c.args.inside.now t c.args.range c.args.spot.index c.args.taken.now c.args.pieces.now) (sym c.self.view_is) c.requires in
    let list_is : c.edit.new.self.mappings ≡ after c.args.inside.now s c.args.range c.args.spot.index c.args.taken.now c.args.pieces.now c.self.invariant.space ready = c.in_ok-tables.ensures.mappings in
    let buffers_is : c.move_counts.new.buffers ≡ by_count less_used c.args.taken.now (by_count more_used c.args.pieces.now (by_count more_kept c.args.taken.now s.buffers)) = c.move_counts.ensures.counts in
    let state = state_after c.args.inside.now s c.args.range c.args.spot.index c.args.taken.now c.args.pieces.now c.self.invariant.space ready c.edit.new.self c.move_counts.new.buffers (length c.args.taken.now) list_is buffers_is refl in
    let new : SpaceState = record s { mappings = c.edit.new.self.mappings; room = c.edit.new.self.room; buffers = c.move_counts.new.buffers; kept_count = s.kept_count + (length c.args.taken.now) } in
    record {
      space = space_after c.args.inside.now s c.args.range c.args.spot.index c.args.taken.now c.args.pieces.now c.self.invariant.space ready new c.edit.new.self.room state;
      named = subst (AreLiveNamed c.move_counts.new.buffers) (sym c.edit.ensures.names)
          (λ id lives. c.self.invariant.named id (lived_after c.args.taken.now c.args.pieces.now s.buffers id (subst (λ (t : BuffersState). IsLive t id) buffers_is lives)));
      first_pages = subst (λ (ms : List Mapping). AreFirstPages ms c.move_counts.new.first_pages) (sym list_is)
          (first_pages_spliced s.mappings c.args.taken.now c.args.pieces.now c.args.spot.index (length c.args.taken.now) c.self.inside.first_pages c.move_counts.new.first_pages ready.taken_is
          c.self.invariant.space.laid_out (after_laid_out c.args.inside.now s c.args.range c.args.spot.index c.args.taken.now c.args.pieces.now c.self.invariant.space ready)
          c.move_counts.ensures.first_pages c.self.invariant.first_pages);
      rows = rows_kept s.buffers c.move_counts.new.buffers (length c.self.inside.first_pages) (length c.move_counts.new.first_pages)
          (λ id lives. lived_after c.args.taken.now c.args.pieces.now s.buffers id (subst (λ (t : BuffersState). IsLive t id) buffers_is lives)) (omega (arith, c.move_counts.ensures.rows)) c.self.invariant.rows;
    }

pub returns-clause-changed : goal.returns-clause-changed
returns-clause-changed c =
    let s : SpaceState = space_of c.self.inside in
    let ready : IsReady c.args.inside.now s c.args.range c.args.spot.index c.args.taken.now c.args.pieces.now =
    subst (λ (t : SpaceState). IsReady c.args.inside.now t c.args.range c.args.spot.index c.args.taken.now c.args.pieces.now) (sym c.self.view_is) c.requires in
    let list_is : c.edit.new.self.mappings ≡ after c.args.inside.now s c.args.range c.args.spot.index c.args.taken.now c.args.pieces.now c.self.invariant.space ready = c.in_ok-tables.ensures.mappings in
    let buffers_is : c.move_counts.new.buffers ≡ by_count less_used c.args.taken.now (by_count more_used c.args.pieces.now (by_count more_kept c.args.taken.now s.buffers)) = c.move_counts.ensures.counts in
    let state = state_after c.args.inside.now s c.args.range c.args.spot.index c.args.taken.now c.args.pieces.now c.self.invariant.space ready c.edit.new.self c.move_counts.new.buffers (length c.args.taken.now) list_is buffers_is refl in
    let new : SpaceState = record s { mappings = c.edit.new.self.mappings; room = c.edit.new.self.room; buffers = c.move_counts.new.buffers; kept_count = s.kept_count + (length c.args.taken.now) } in
    let owed : (table : PageTable) → IsTree (after c.args.inside.now s c.args.range c.args.spot.index c.args.taken.now c.args.pieces.now c.self.invariant.space ready) table → gained_by s.mappings table ≡ c.in_ok-tables.tables =
    λ table tree. c.in_ok-tables.ensures.tables table (subst (λ (ms : List Mapping). IsTree ms table) (sym list_is) tree) in
    let room : s.room ≤ new.room = omega (arith, c.edit.ensures.room) in
    let u : OpUndoState = record { change = change_of c.args.inside.now s c.args.range c.args.spot.index c.args.taken.now c.args.pieces.now c.self.invariant.space ready; range = c.args.range; tables = c.in_ok-tables.tables } in
    let is : IsChanged s new (after c.args.inside.now s c.args.range c.args.spot.index c.args.taken.now c.args.pieces.now c.self.invariant.space ready) u = change_is c.args.inside.now s c.args.range c.args.spot.index c.args.taken.now c.args.pieces.now c.self.invariant.space ready new c.in_ok-tables.tables state room owed in
    subst (λ (t : SpaceState). IsChanged t new (splice t.mappings c.args.spot.index (c.args.spot.index + length c.args.taken.now) c.args.pieces.now) u) c.self.view_is is
