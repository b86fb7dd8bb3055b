-- All that a change needs is there once its room was made.
use Rattle.std.proofs.Common.{◌≡◌, ℕ, ◌+◌, ◌-◌, ◌*◌, ◌<◌, ◌≤◌, ◌++◌, List, take, drop, Some, None, length, max, arith, refl, sym, subst, ap, ⊎_elim, ◌∙◌}
use Rattle.std.specs.List.{All, splice}
use Rattle.std.proofs.lemmas.Bool.{cases_lt}
use Rattle.std.proofs.lemmas.List.{append_assoc}
use Rattle.std.proofs.Math.Seq.{drop-append_seam, take-append_seam}
use Rattle.gv_types.specs.Page.{PAGES}
use Rattle.gv_types.specs.PageRange.{PageRangeState, end_of}
use Rattle.gv_types.specs.Mapping.{IsMapping}
use Rattle.gv_types.specs.declared.fault.Fault.TheVariants.{TooManyMappings}
use Rattle.gv_types.specs.declared.mapping.Mapping.{Mapping}
use Rattle.gv_ranges.specs.List.{IsLaidOut, IsOverlappingRun, run}
use Rattle.gv_ranges.specs.Edit.{LieIn, clipped, replaced, restored}
use Rattle.gv_ranges.proofs.AllReplacedLemmas.{All-clipped}
use Rattle.gv_ranges.proofs.OrderLemmas.{laid_out-clipped, lie_in-clipped}
use Rattle.gv_ranges.proofs.ReplacedLemmas.{all_mappings}
use Rattle.gv_space.specs.ListWithTable.{ListWithTableState}
use Rattle.gv_space.specs.State.{SpaceState, IsSpace, IsValidMapping, most_kept}
use Rattle.gv_space.specs.Undo.{OpUndoState, IsUndoOf}
use Rattle.gv_space.specs.Change.{IsChanged, GrowsJustFor}
use Rattle.gv_space.specs.Ready.{IsReady}
use Rattle.gv_space.specs.Refusal.{count_met, limit_fault}
use Rattle.gv_space.specs.Inside.{space_of}
use Rattle.gv_space.specs.declared.space.Space.TheInside.{Inside}
use Rattle.gv_space.proofs.RestoredLengths.{length-run, count_met-run, length-restored}
use Rattle.gv_space.proofs.LimitFaults.{too_long, held_too_much}
use Rattle.gv_space.proofs.Commits.{after_is}
use Rattle.gv_space.proofs.SpaceInvariant.{IsSpace-room}
use Rattle.gv_space.proofs.ValidPieces.{placed_pieces}

-- a change that meets no fault stays within the limits
pub limits_kept : (s : SpaceState) (range : PageRangeState) (ms : List Mapping) → limit_fault s range ms ≡ None →
    (length ms ≤ s.limits.mappings) × (s.kept_count + count_met s.mappings range ≤ most_kept)
limits_kept s range ms none = (
  ⊎_elim
      (λ (more : s.limits.mappings < length ms). let wrong : Some TooManyMappings ≡ None = sym (too_long s range ms more) ∙ none in absurd cc)
      (λ (few : length ms ≤ s.limits.mappings). few)
      (cases_lt s.limits.mappings (length ms)),
  ⊎_elim
      (λ (more : most_kept < s.kept_count + count_met s.mappings range). let wrong : Some TooManyMappings ≡ None = sym (held_too_much s range ms more) ∙ none in absurd cc)
      (λ (few : s.kept_count + count_met s.mappings range ≤ most_kept). few)
      (cases_lt most_kept (s.kept_count + count_met s.mappings range)),
)

module _ (s : SpaceState) (range : PageRangeState) (saved : List Mapping) (space : IsSpace s) (saved_laid : IsLaidOut saved) where
  -- what the saved mappings have in the range
  abbrev pub inside : List Mapping
  inside = clipped range.first (end_of range) saved

  pub inside_sorted : IsLaidOut inside
  inside_sorted = laid_out-clipped range.first (end_of range) 0 0 saved saved_laid (omega arith)

  pub inside_placed : All (IsValidMapping s.area s.buffers) saved → All (IsValidMapping s.area s.buffers) inside
  inside_placed valid =
      let mappings : All IsMapping saved = all_mappings saved 0 saved_laid in
      All-clipped (IsValidMapping s.area s.buffers) range.first (end_of range) saved
      (λ k d below n is. placed_pieces s.area s.buffers range.first (end_of range) _ n (mappings k d below) (valid k d below) is)

  pub ready_from : (list : ListWithTableState) (index count : ℕ) (taken pieces : List Mapping) (more : ℕ) → All (IsValidMapping s.area s.buffers) saved →
      IsOverlappingRun s.mappings range index count → taken ≡ run s.mappings index count → pieces ≡ restored taken range saved →
      list.mappings ≡ s.mappings → length list.mappings + more ≤ list.room → length pieces ≤ length taken + more →
      limit_fault s range (restored s.mappings range saved) ≡ None →
      IsReady inside (record s { mappings = list.mappings; room = list.room }) range index taken pieces
  ready_from list index count taken pieces more valid is taken_is pieces_is same room fits none =
      let lie : LieIn range inside = lie_in-clipped range saved in
      let limits = limits_kept s range (restored s.mappings range saved) none in
      let long : length taken ≡ count = ap (λ (l : List Mapping). length l) taken_is ∙ length-run s.mappings index count is.within in
      let met : count_met s.mappings range ≡ count = count_met-run s.mappings range index count is in
      let ready : IsReady inside (record s { room = list.room }) range index taken pieces = record {
        sorted = inside_sorted;
        lie = lie;
        valid = inside_placed valid;
        met = subst (λ (n : ℕ). IsOverlappingRun s.mappings range index n) (sym long) is;
        taken_is = subst (λ (n : ℕ). taken ≡ run s.mappings index n) (sym long) taken_is;
        pieces_are = pieces_is;
        room = omega (arith, ap (λ (l : List Mapping). length l) same, room, fits);
        old_room = omega (arith, ap (λ (l : List Mapping). length l) same, room);
        few = limits.0;
        few_kept = omega (arith, limits.1, long, met);
      } in
      subst (λ (ms : List Mapping). IsReady inside (record s { mappings = ms; room = list.room }) range index taken pieces) (sym same) ready

-- what stands between the rests is what lies in the range
pub between_rests : (pieces taken saved : List Mapping) (range : PageRangeState) (start stop : ℕ) → pieces ≡ restored taken range saved →
    start ≡ length (clipped 0 range.first taken) → stop ≡ start + length (clipped range.first (end_of range) saved) →
    take (stop - start) (drop start pieces) ≡ clipped range.first (end_of range) saved
between_rests pieces taken saved range start stop is start_is stop_is =
    let before : List Mapping = clipped 0 range.first taken in
    let within : List Mapping = clipped range.first (end_of range) saved in
    let behind : List Mapping = clipped (end_of range) PAGES taken in
    let many : stop - start ≡ length within = omega (arith, stop_is) in
    let parts : pieces ≡ before ++ (within ++ behind) = is ∙ append_assoc before within behind in
    rw (many, start_is, parts, drop-append_seam before (within ++ behind)) (take-append_seam within behind)

-- What room was made before a change is the change's own.
pub changed_before : (s : SpaceState) (list : ListWithTableState) (new : SpaceState) (within : List Mapping) (range : PageRangeState) (index : ℕ) (taken pieces : List Mapping) (u : OpUndoState) →
    IsSpace s → list.mappings ≡ s.mappings → s.room ≤ list.room →
    IsReady within (record s { mappings = list.mappings; room = list.room }) range index taken pieces →
    IsChanged (record s { mappings = list.mappings; room = list.room }) new (splice list.mappings index (index + length taken) pieces) u →
    IsChanged s new (replaced s.mappings range within) u
changed_before s list new within range index taken pieces u space same room ready is =
    let old : SpaceState = record s { mappings = list.mappings; room = list.room } in
    let old_space : IsSpace old = subst (λ (ms : List Mapping). IsSpace (record s { mappings = ms; room = list.room })) (sym same) (IsSpace-room s list.room space) in
    let list_is : splice list.mappings index (index + length taken) pieces ≡ replaced s.mappings range within =
    after_is within old range index taken pieces old_space ready ∙ ap (λ (ms : List Mapping). replaced ms range within) same in
    let is' : IsChanged old new (replaced s.mappings range within) u = subst (λ (ms : List Mapping). IsChanged old new ms u) list_is is in
    record {
      state = is'.state;
      room = omega (arith, room, is'.room);
      undo = subst (λ (ms : List Mapping). IsUndoOf ms new.mappings u) same is'.undo;
      can_revert = is'.can_revert;
      kept = λ others saved. is'.kept others (record { valid = saved.valid; kept = saved.kept; kept_count = saved.kept_count });
      back = is'.back ∙ ap (λ (ms : List Mapping). record s { mappings = ms; room = new.room }) same;
    }

-- the same from what each step of a change answers
pub made_ready : (i : Inside) (now : SpaceState) (range : PageRangeState) (saved : List Mapping) (space : IsSpace (space_of i)) (laid : IsLaidOut saved) (reserved : ListWithTableState) (index count : ℕ)
    (taken pieces : List Mapping) (more : ℕ) → space_of i ≡ now → IsOverlappingRun now.mappings range index count →
    taken ≡ run now.mappings index count → pieces ≡ restored taken range saved →
    All (IsValidMapping now.area now.buffers) saved → limit_fault now range (restored now.mappings range saved) ≡ None →
    reserved.mappings ≡ i.mapped.mappings → length reserved.mappings + more ≤ reserved.room → length pieces ≤ length taken + more →
    IsReady (inside (space_of i) range saved space laid) (record (space_of i) { mappings = reserved.mappings; room = reserved.room }) range index taken pieces
made_ready i now range saved space laid reserved index count taken pieces more space_is is taken_is pieces_is valid none same room fits =
    let s : SpaceState = space_of i in
    ready_from s range saved space laid reserved index count taken pieces more
    (subst (λ (t : SpaceState). All (IsValidMapping t.area t.buffers) saved) (sym space_is) valid)
    (subst (λ (t : SpaceState). IsOverlappingRun t.mappings range index count) (sym space_is) is)
    (subst (λ (t : SpaceState). taken ≡ run t.mappings index count) (sym space_is) taken_is)
    pieces_is same room fits
    (subst (λ (t : SpaceState). limit_fault t range (restored t.mappings range saved) ≡ None) (sym space_is) none)

-- where nothing was reserved the room is what it was
pub room_kept : (ms : List Mapping) (s : SpaceState) → GrowsJustFor ms s s
room_kept ms s = record { enough = λ _ _. refl; double_or_need = omega arith }

-- what is reserved for a change is what its list needs
grown_for : (s new : SpaceState) (range : PageRangeState) (saved taken pieces : List Mapping) (index count more room : ℕ) → IsSpace s → IsOverlappingRun s.mappings range index count →
    taken ≡ run s.mappings index count → pieces ≡ restored taken range saved →
    more ≡ length pieces - length taken → (length s.mappings + more ≤ s.room → room ≡ s.room) → room ≤ max (2 * s.room) (length s.mappings + more) → new.room ≡ room →
    GrowsJustFor (restored s.mappings range saved) s new
grown_for s new range saved taken pieces index count more room space is taken_is pieces_are more_is enough most room_is =
    let long_taken : length taken ≡ count = ap (λ (l : List Mapping). length l) taken_is ∙ length-run s.mappings index count is.within in
    let pieces_long : length pieces ≡ length (restored (run s.mappings index count) range saved) = ap (λ (l : List Mapping). length l) (pieces_are ∙ rw taken_is refl) in
    let long : length (restored s.mappings range saved) + count ≡ length s.mappings + length (restored (run s.mappings index count) range saved) =
    length-restored s.mappings saved range index count space.laid_out is in
    record {
      enough = λ (old_fits : length s.mappings ≤ s.room) (fits : length (restored s.mappings range saved) ≤ s.room). room_is ∙ enough (omega (arith, long_taken, pieces_long, long, more_is, old_fits, fits));
      double_or_need = omega (arith, long_taken, pieces_long, long, more_is, most, room_is, is.within);
    }

-- the same from what each step of a change answers
pub grown_just_for : (i : Inside) (now new : SpaceState) (range : PageRangeState) (saved taken pieces : List Mapping) (reserved : ListWithTableState) (index count more : ℕ) → IsSpace (space_of i) →
    space_of i ≡ now → IsOverlappingRun now.mappings range index count → taken ≡ run now.mappings index count →
    pieces ≡ restored taken range saved → more ≡ length pieces - length taken →
    (length i.mapped.mappings + more ≤ i.mapped.room → reserved.room ≡ i.mapped.room) → reserved.room ≤ max (2 * i.mapped.room) (length i.mapped.mappings + more) → new.room ≡ reserved.room →
    GrowsJustFor (restored now.mappings range saved) now new
grown_just_for i now new range saved taken pieces reserved index count more space space_is is taken_is pieces_are more_is enough most room_is =
    let s : SpaceState = space_of i in
    subst (λ (t : SpaceState). GrowsJustFor (restored t.mappings range saved) t new) space_is
    (grown_for s new range saved taken pieces index count more reserved.room space
    (subst (λ (t : SpaceState). IsOverlappingRun t.mappings range index count) (sym space_is) is)
    (subst (λ (t : SpaceState). taken ≡ run t.mappings index count) (sym space_is) taken_is)
    pieces_are more_is enough most room_is)
