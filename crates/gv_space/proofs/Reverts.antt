-- A change taken back.
use Rattle.std.proofs.Common.{◌≡◌, ℕ, ◌+◌, ◌-◌, ◌≤◌, List, length, arith, refl, sym, subst, ap, ◌∙◌}
use Rattle.std.specs.List.{All, splice}
use Rattle.gv_types.specs.declared.mapping.Mapping.{Mapping}
use Rattle.gv_types.specs.PageRange.{end_of}
use Rattle.gv_ranges.specs.List.{AreEnded, run}
use Rattle.gv_ranges.proofs.OverlapLemmas.{clipped_run}
use Rattle.gv_ranges.proofs.IndexLemmas.{ended-unspliced}
use Rattle.gv_ranges.specs.Edit.{clipped, replaced, undone}
use Rattle.gv_ranges.proofs.ReplacedLemmas.{replaced_run_in_place, undone-replaced}
use Rattle.gv_table.specs.Reads.{AreAlikeOutside}
use Rattle.gv_table.specs.Kinds.{AreEnough}
use Rattle.gv_table.specs.Table.{IsTree, gained_by}
use Rattle.gv_table.proofs.KindLemmas.{enough-same}
use Rattle.gv_table.specs.declared.page_table.PageTable.{PageTable}
use Rattle.gv_table.proofs.EditLemmas.{replaced-alike, alike-mutual}
use Rattle.gv_buffers.specs.Buffers.{BuffersState, most_counted}
use Rattle.gv_space.specs.ListWithTable.{ListWithTableState}
use Rattle.gv_space.specs.Counts.{count_of, by_count, counted, more_used, less_used, less_kept}
use Rattle.gv_space.specs.Live.{IsLiveBacking}
use Rattle.gv_space.specs.State.{SpaceState, IsSpace, IsValidMapping}
use Rattle.gv_space.specs.Undo.{OpUndoState, IsUndoOf, CanRevert, reverted}
use Rattle.gv_space.specs.Inside.{space_of}
use Rattle.gv_space.specs.declared.space.Space.TheInside.{Inside}
use Rattle.gv_space.specs.declared.undo.OpUndo.TheInside.{Inside as UndoInside}
use Rattle.gv_space.proofs.ByCountLemmas.{live_from_placed, more_used_of_counts, less_used_of_counts, less_kept_of_counts}
use Rattle.gv_space.proofs.LiveNames.{LivedIn, lived-by_count}
use Rattle.gv_space.proofs.RestoredLengths.{length-splice}
use Rattle.gv_space.proofs.Recounted.{moved_back}
use Rattle.gv_space.proofs.RoomInCounts.{room_to_count, run_is_counted, saved_are_kept, length-taken-le-most_kept}
use Rattle.gv_space.proofs.KeptLemmas.{All-front, All-splice, All-taken}
use Rattle.gv_space.proofs.SpaceInvariant.{IsSpace-reverted}

-- to undo a change gives the list before it
pub undone_is : (before now : List Mapping) (u : OpUndoState) → IsUndoOf before now u → undone now u.change ≡ before
undone_is before now u is =
    let old = undone-replaced before u.range is.pieces u.change.index (length u.change.taken) is.laid_out is.met in
    rw (is.made, is.put_in) (rw (← is.taken) at old)

-- who lives after it is taken back lived before
pub lived_before : (gone taken : List Mapping) (t : BuffersState) → LivedIn t (by_count less_used gone (by_count more_used taken (by_count less_kept taken t)))
lived_before gone taken t id lives =
    lived-by_count less_kept taken t less_kept_of_counts id
    (lived-by_count more_used taken (by_count less_kept taken t) more_used_of_counts id
    (lived-by_count less_used gone (by_count more_used taken (by_count less_kept taken t)) less_used_of_counts id lives))

module _ (s : SpaceState) (u : OpUndoState) (space : IsSpace s) (fits : CanRevert s u) where
  -- the list before the change
  abbrev pub old : List Mapping
  old = undone s.mappings u.change

  -- the run that the change put in
  abbrev pub gone : List Mapping
  gone = run s.mappings u.change.index u.change.put_in

  made_in_place : s.mappings ≡ splice old u.change.index (u.change.index + length u.change.taken) (replaced u.change.taken u.range fits.undo.pieces)
  made_in_place =
      fits.undo.made ∙
      rw (← fits.undo.taken) at (replaced_run_in_place old u.range fits.undo.pieces u.change.index (length u.change.taken) fits.undo.laid_out fits.undo.met)

  pub ended : AreEnded s.mappings u.range.first u.change.index
  ended =
      let inside = fits.undo.met.within in
      ended-unspliced old s.mappings (replaced u.change.taken u.range fits.undo.pieces) u.range.first u.change.index (u.change.index + length u.change.taken)
      (omega (arith, inside)) made_in_place fits.undo.met.before

  pub within : u.change.index + u.change.put_in ≤ length s.mappings
  within =
      let long = length-splice old (replaced u.change.taken u.range fits.undo.pieces) u.change.index (length u.change.taken) fits.undo.met.within in
      let same = ap (λ (l : List Mapping). length l) made_in_place in
      omega (arith, long, same, fits.undo.put_in, fits.undo.met.within)

  pub room_to_undo : length s.mappings + length u.change.taken ≤ s.room + u.change.put_in
  room_to_undo = omega (arith, length-splice s.mappings u.change.taken u.change.index u.change.put_in within, fits.room)

  pub old_alike : AreAlikeOutside u.range s.mappings old
  old_alike =
      alike-mutual old s.mappings u.range
      (subst (λ (ms : List Mapping). AreAlikeOutside u.range old ms) (sym fits.undo.made) (replaced-alike old fits.undo.pieces u.range fits.undo.laid_out fits.undo.lie))

  -- what was taken out is in the range what the list before the change is there
  pub had_what_was : clipped u.range.first (end_of u.range) old ≡ clipped u.range.first (end_of u.range) u.change.taken
  had_what_was =
      clipped_run old u.range u.change.index (length u.change.taken) fits.undo.met ∙ sym (ap (clipped u.range.first (end_of u.range)) fits.undo.taken)

  pub tables_are_enough : (table : PageTable) → IsTree s.mappings table → AreEnough u.tables (gained_by old table)
  tables_are_enough table tree = enough-same (fits.undo.tables table tree)

  pub taken_placed : All (IsValidMapping s.area s.buffers) u.change.taken
  taken_placed = All-front (IsValidMapping s.area s.buffers) u.change.taken fits.kept.others fits.kept.are_kept.valid

  pub taken_live : All (λ m. IsLiveBacking s.buffers m.backing) u.change.taken
  taken_live = live_from_placed s.area s.buffers u.change.taken taken_placed

  pub gone_live : All (λ m. IsLiveBacking s.buffers m.backing) gone
  gone_live = live_from_placed s.area s.buffers gone (All-taken (IsValidMapping s.area s.buffers) s.mappings gone u.change.index u.change.put_in refl space.valid)

  pub taken_kept : All (λ b. count_of b.id u.change.taken ≤ b.kept) s.buffers.live
  taken_kept = saved_are_kept s u.change.taken fits.kept.others fits.kept.are_kept

  pub room_for_taken : All (λ b. b.uses + count_of b.id u.change.taken ≤ most_counted) s.buffers.live
  room_for_taken = room_to_count s u.change.taken space (length-taken-le-most_kept s u.change.taken fits.kept.others space fits.kept.are_kept)

  pub gone_counted : All (λ b. count_of b.id gone ≤ b.uses) s.buffers.live
  gone_counted = run_is_counted s gone u.change.index u.change.put_in space refl

  pub state_before : (list : ListWithTableState) (buffers : BuffersState) (count : ℕ) → list.mappings ≡ old → list.room ≡ s.room →
      buffers ≡ by_count less_used gone (by_count more_used u.change.taken (by_count less_kept u.change.taken s.buffers)) → count ≡ length u.change.taken →
      record s { mappings = list.mappings; room = list.room; buffers = buffers; kept_count = s.kept_count - count } ≡ reverted s u
  state_before list buffers count list_is room_is buffers_is count_is =
      let tables : buffers ≡ by_count counted old (by_count less_kept u.change.taken s.buffers) =
      buffers_is ∙ moved_back s.mappings gone u.change.taken u.change.index u.change.put_in s.buffers refl space.used in
      rw (list_is, room_is, tables, count_is) refl

  pub old_placed : All (IsValidMapping s.area s.buffers) old
  old_placed = All-splice (IsValidMapping s.area s.buffers) s.mappings u.change.taken u.change.index (u.change.index + u.change.put_in) space.valid taken_placed

  pub space_before : IsSpace (reverted s u)
  space_before =
      IsSpace-reverted s u fits.kept.others space fits.undo.laid_out fits.few old_placed fits.kept.are_kept

-- an undo value as contracts see it
abbrev pub undo_of : UndoInside → OpUndoState
undo_of u = record { change = record { index = u.index; put_in = u.put_in; taken = u.taken.items }; range = u.range; tables = u.tables }

pub fits_inside : (s : Inside) (u : UndoInside) (space : SpaceState) (undo : OpUndoState) → space_of s ≡ space → undo_of u ≡ undo → CanRevert space undo → CanRevert (space_of s) (undo_of u)
fits_inside s u space undo space_is undo_is fits =
    subst (λ (v : OpUndoState). CanRevert (space_of s) v) (sym undo_is) (subst (λ (t : SpaceState). CanRevert t undo) (sym space_is) fits)

-- the list is spliced and the counts are moved back: that is the space before the change
pub state_made : (s : SpaceState) (u : OpUndoState) (space : IsSpace s) (fits : CanRevert s u) (gone_now taken put_back : List Mapping) (list : ListWithTableState) (buffers : BuffersState) (count : ℕ) →
    gone_now ≡ run s.mappings u.change.index u.change.put_in → taken ≡ u.change.taken → put_back ≡ u.change.taken →
    list.mappings ≡ splice s.mappings u.change.index (u.change.index + u.change.put_in) put_back → list.room ≡ s.room →
    buffers ≡ by_count less_used gone_now (by_count more_used taken (by_count less_kept taken s.buffers)) →
    count ≡ length u.change.taken →
    record s { mappings = list.mappings; room = list.room; buffers = buffers; kept_count = s.kept_count - count } ≡ reverted s u
state_made s u space fits gone_now taken put_back list buffers count gone_is taken_is put_back_is list_is room_is buffers_is count_is =
    state_before s u space fits list buffers count (rw put_back_is at list_is) room_is (rw (gone_is, taken_is) at buffers_is) count_is
