-- A change of the list, once all is there for it.
use Rattle.std.proofs.Common.{◌≡◌, ℕ, ◌+◌, ◌≤◌, List, ◌++◌, length, arith, refl, sym, subst, ap, ◌∙◌, drop}
use Rattle.std.specs.List.{All, splice}
use Rattle.gv_types.specs.PageRange.{PageRangeState, end_of}
use Rattle.gv_types.specs.Mapping.{IsMapping}
use Rattle.gv_types.specs.declared.mapping.Mapping.{Mapping}
use Rattle.gv_ranges.specs.List.{AreEnded, IsLaidOut}
use Rattle.gv_ranges.proofs.IndexLemmas.{met-ended}
use Rattle.gv_ranges.specs.Edit.{Undo, clipped, replaced, undone}
use Rattle.gv_ranges.proofs.AllReplacedLemmas.{All-replaced}
use Rattle.gv_ranges.proofs.OrderLemmas.{laid_out-replaced}
use Rattle.gv_ranges.proofs.ReplacedLemmas.{all_mappings, replaced_run_in_place, undone-replaced}
use Rattle.gv_ranges.proofs.RestLemmas.{laid_out-take, laid_out-drop}
use Rattle.gv_table.specs.Reads.{AreAlikeOutside}
use Rattle.gv_table.specs.declared.kind_counts.KindCounts.{KindCounts}
use Rattle.gv_table.specs.Table.{IsTree, gained_by}
use Rattle.gv_table.specs.declared.page_table.PageTable.{PageTable}
use Rattle.gv_table.proofs.EditLemmas.{replaced-alike, replaced-pieces}
use Rattle.gv_buffers.specs.Buffers.{BuffersState}
use Rattle.gv_space.specs.ListWithTable.{ListWithTableState}
use Rattle.gv_space.specs.Counts.{by_count, counted, more_used, less_used, more_kept}
use Rattle.gv_space.specs.State.{SpaceState, IsSpace, IsValidMapping, AreKept}
use Rattle.gv_space.specs.Undo.{OpUndoState, IsUndoOf}
use Rattle.gv_space.specs.Change.{changed_to, IsChanged}
use Rattle.gv_space.specs.Ready.{IsReady}
use Rattle.gv_space.proofs.RestoredLengths.{length-splice}
use Rattle.gv_space.proofs.ValidPieces.{placed_pieces}
use Rattle.gv_space.proofs.Recounted.{moved_counts}
use Rattle.gv_space.proofs.KeptLemmas.{All-taken, AreKept-changed_room, reverted-changed_room}
use Rattle.gv_space.proofs.ByCountLemmas.{more_used_of_counts, less_used_of_counts, more_kept_of_counts}
use Rattle.gv_space.proofs.LiveNames.{LivedIn, lived-by_count}
use Rattle.gv_space.proofs.SpaceInvariant.{IsSpace-changed, IsSpace-room}

-- who lives after the change lived before it
pub lived_after : (taken pieces : List Mapping) (t : BuffersState) → LivedIn t (by_count less_used taken (by_count more_used pieces (by_count more_kept taken t)))
lived_after taken pieces t id lives =
    lived-by_count more_kept taken t more_kept_of_counts id
    (lived-by_count more_used pieces (by_count more_kept taken t) more_used_of_counts id
    (lived-by_count less_used taken (by_count more_used pieces (by_count more_kept taken t)) less_used_of_counts id lives))

module _ (inside : List Mapping) (s : SpaceState) (range : PageRangeState) (index : ℕ) (taken pieces : List Mapping) (space : IsSpace s) (ready : IsReady inside s range index taken pieces) where
  -- the list after the change
  abbrev pub after : List Mapping
  after = splice s.mappings index (index + length taken) pieces

  pub ended : AreEnded s.mappings range.first index
  ended = met-ended s.mappings range index (length taken) ready.met

  pub after_is : after ≡ replaced s.mappings range inside
  after_is =
      rw (ready.pieces_are)
      (rw (← ready.taken_is) at (sym (replaced_run_in_place s.mappings range inside index (length taken) space.laid_out ready.met)))

  pub after_laid_out : IsLaidOut after
  after_laid_out = rw after_is (laid_out-replaced s.mappings range inside space.laid_out ready.sorted ready.lie)

  pub after_alike : AreAlikeOutside range s.mappings after
  after_alike = rw after_is (replaced-alike s.mappings inside range space.laid_out ready.lie)

  pub after_pieces : clipped range.first (end_of range) after ≡ inside
  after_pieces = rw after_is (replaced-pieces s.mappings inside range space.laid_out ready.sorted ready.lie)

  pub taken_placed : All (IsValidMapping s.area s.buffers) taken
  taken_placed = All-taken (IsValidMapping s.area s.buffers) s.mappings taken index (length taken) ready.taken_is space.valid

  pub taken_laid_out : IsLaidOut taken
  taken_laid_out = subst IsLaidOut (sym ready.taken_is) (laid_out-take (drop index s.mappings) 0 (length taken) (laid_out-drop s.mappings 0 index space.laid_out))

  mappings_of : All IsMapping s.mappings
  mappings_of = all_mappings s.mappings 0 space.laid_out

  pub pieces_placed : All (IsValidMapping s.area s.buffers) pieces
  pieces_placed =
      subst (All (IsValidMapping s.area s.buffers)) (sym ready.pieces_are)
      (All-replaced (IsValidMapping s.area s.buffers) taken range inside (placed_pieces s.area s.buffers)
      (All-taken IsMapping s.mappings taken index (length taken) ready.taken_is mappings_of) taken_placed ready.valid)

  pub after_placed : All (IsValidMapping s.area s.buffers) after
  after_placed =
      subst (All (IsValidMapping s.area s.buffers)) (sym after_is)
      (All-replaced (IsValidMapping s.area s.buffers) s.mappings range inside (placed_pieces s.area s.buffers) mappings_of space.valid ready.valid)

  pub pieces_are_few : length pieces ≤ length after
  pieces_are_few = omega (arith, length-splice s.mappings pieces index (length taken) ready.met.within, ready.met.within)

  -- what the parts of the space are after the change
  pub state_after : (list : ListWithTableState) (buffers : BuffersState) (count : ℕ) → list.mappings ≡ after → buffers ≡ by_count less_used taken (by_count more_used pieces (by_count more_kept taken s.buffers)) → count ≡ length taken →
      record s { mappings = list.mappings; room = list.room; buffers = buffers; kept_count = s.kept_count + count } ≡ record (changed_to after taken s) { room = list.room }
  state_after list buffers count list_is buffers_is count_is =
      let tables : buffers ≡ by_count counted after (by_count more_kept taken s.buffers) =
      buffers_is ∙ moved_counts s.mappings taken pieces index (length taken) s.buffers ready.taken_is space.used in
      rw (list_is, tables, count_is) refl

  pub space_after : (new : SpaceState) (room : ℕ) → new ≡ record (changed_to after taken s) { room = room } → IsSpace new
  space_after new room is =
      subst IsSpace (sym is)
      (IsSpace-room (changed_to after taken s) room
      (IsSpace-changed s after taken space after_laid_out (subst (λ (ms : List Mapping). length ms ≤ s.limits.mappings) (sym after_is) ready.few) after_placed taken_placed ready.few_kept))

  abbrev pub change_of : Undo
  change_of = record { index = index; put_in = length pieces; taken = taken }

  pub undone_after : undone after change_of ≡ s.mappings
  undone_after =
      rw (after_is, ready.pieces_are) (rw (← ready.taken_is) at (undone-replaced s.mappings range inside index (length taken) space.laid_out ready.met))

  undo_after : (tables : KindCounts) → ((table : PageTable) → IsTree after table → gained_by s.mappings table ≡ tables) →
      IsUndoOf s.mappings after (record { change = change_of; range = range; tables = tables })
  undo_after tables owed = record {
    laid_out = space.laid_out;
    pieces = inside;
    sorted = ready.sorted;
    lie = ready.lie;
    made = after_is;
    met = ready.met;
    taken = ready.taken_is;
    put_in = ap (λ (l : List Mapping). length l) ready.pieces_are;
    tables = owed;
  }

  pub change_is : (new : SpaceState) (tables : KindCounts) → new ≡ record (changed_to after taken s) { room = new.room } → s.room ≤ new.room →
      ((table : PageTable) → IsTree after table → gained_by s.mappings table ≡ tables) →
      IsChanged s new after (record { change = change_of; range = range; tables = tables })
  change_is new tables is room owed =
      let u : OpUndoState = record { change = change_of; range = range; tables = tables } in
      let mappings_is : new.mappings ≡ after = ap (λ (t : SpaceState). t.mappings) is in
      let limits_is : new.limits.mappings ≡ s.limits.mappings = ap (λ (t : SpaceState). t.limits.mappings) is in
      let back : undone new.mappings change_of ≡ s.mappings = rw mappings_is undone_after in
      let undo : IsUndoOf s.mappings new.mappings u = subst (λ (ms : List Mapping). IsUndoOf s.mappings ms u) (sym mappings_is) (undo_after tables owed) in
      let long : length (undone new.mappings change_of) ≡ length s.mappings = ap (λ (l : List Mapping). length l) back in
      let keeps : (others : List Mapping) → AreKept s others → AreKept new (taken ++ others) =
      λ others saved. AreKept-changed_room s new after taken others is taken_placed saved in
      record {
        state = is;
        room = room;
        undo = undo;
        can_revert = record {
          undo = subst (λ (ms : List Mapping). IsUndoOf ms new.mappings u) (sym back) undo;
          few = omega (arith, long, limits_is, space.few);
          room = omega (arith, long, room, ready.old_room);
          kept = record { others = space.all_kept; are_kept = keeps space.all_kept space.are_kept };
        };
        kept = keeps;
        back = reverted-changed_room s new after u is space.used undone_after;
      }
