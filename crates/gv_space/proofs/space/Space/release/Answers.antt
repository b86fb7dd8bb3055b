use Rattle.gv_space.proofs.FirstPageLists.{rows_kept}
use Rattle.std.proofs.Common.{◌≡◌, ◌-◌, arith, length, refl, sym, subst, ap, ◌∙◌, List, ◌++◌}
use Rattle.gv_types.specs.declared.mapping.Mapping.{Mapping}
use Rattle.gv_buffers.specs.Buffers.{BuffersState, IsLive}
use Rattle.gv_space.specs.Counts.{by_count, less_kept}
use Rattle.gv_space.specs.State.{SpaceState, IsSpace, IsValidMapping, AreKept}
use Rattle.gv_space.specs.Undo.{OpUndoState, released}
use Rattle.gv_space.specs.Inside.{space_of}
use Rattle.gv_space.proofs.SpaceInvariant.{IsSpace-released}
use Rattle.gv_space.proofs.ByCountLemmas.{live_from_placed, less_kept_of_counts}
use Rattle.gv_space.proofs.LiveNames.{lived-by_count}
use Rattle.gv_space.proofs.KeptLemmas.{All-front, AreKept-released}
use Rattle.gv_space.proofs.RoomInCounts.{saved_are_kept}
use Rattle.gv_space.proofs.space.Space.release.Goals as goal

pub unkeep-requires-clause-live : goal.unkeep-requires-clause-live
unkeep-requires-clause-live c =
    let s : SpaceState = space_of c.self.inside in
    let taken : List Mapping = c.args.undo.change.taken in
    let taken_is : c.undo.inside.taken.items ≡ taken = ap (λ (u : OpUndoState). u.change.taken) c.undo.view_is in
    let saved : AreKept s (taken ++ c.requires.others) = subst (λ (t : SpaceState). AreKept t (taken ++ c.requires.others)) (sym c.self.view_is) c.requires.are_kept in
    rw (c.as_slice.ensures, taken_is) (live_from_placed s.area s.buffers taken (All-front (IsValidMapping s.area s.buffers) taken c.requires.others saved.valid))

pub unkeep-requires-clause-counted : goal.unkeep-requires-clause-counted
unkeep-requires-clause-counted c =
    let s : SpaceState = space_of c.self.inside in
    let taken : List Mapping = c.args.undo.change.taken in
    let taken_is : c.undo.inside.taken.items ≡ taken = ap (λ (u : OpUndoState). u.change.taken) c.undo.view_is in
    let saved : AreKept s (taken ++ c.requires.others) = subst (λ (t : SpaceState). AreKept t (taken ++ c.requires.others)) (sym c.self.view_is) c.requires.are_kept in
    rw (c.as_slice.ensures, taken_is) (saved_are_kept s taken c.requires.others saved)

pub invariant_of-self : goal.invariant_of-self
invariant_of-self c =
    let s : SpaceState = space_of c.self.inside in
    let taken : List Mapping = c.args.undo.change.taken in
    let taken_is : c.undo.inside.taken.items ≡ taken = ap (λ (u : OpUndoState). u.change.taken) c.undo.view_is in
    let saved : AreKept s (taken ++ c.requires.others) = subst (λ (t : SpaceState). AreKept t (taken ++ c.requires.others)) (sym c.self.view_is) c.requires.are_kept in
    let new : SpaceState = record s { buffers = c.unkeep.new.buffers; kept_count = s.kept_count - c.len.result } in
    let state : new ≡ released s taken = rw (c.unkeep.ensures, c.len.ensures.value, c.as_slice.ensures, taken_is) refl in
    let buffers_is : c.unkeep.new.buffers ≡ by_count less_kept taken s.buffers = rw (c.unkeep.ensures, c.as_slice.ensures, taken_is) refl in
    record {
      space = subst IsSpace (sym state) (IsSpace-released s taken c.requires.others c.self.invariant.space saved);
      named = λ id lives. c.self.invariant.named id (lived-by_count less_kept taken s.buffers less_kept_of_counts id (subst (λ (t : BuffersState). IsLive t id) buffers_is lives));
      first_pages = c.self.invariant.first_pages;
      rows = rows_kept s.buffers c.unkeep.new.buffers (length c.self.inside.first_pages) (length c.self.inside.first_pages)
          (λ id lives. lived-by_count less_kept taken s.buffers less_kept_of_counts id (subst (λ (t : BuffersState). IsLive t id) buffers_is lives)) (omega arith) c.self.invariant.rows;
    }

pub returns-clause-state : goal.returns-clause-state
returns-clause-state c =
    let s : SpaceState = space_of c.self.inside in
    let taken : List Mapping = c.args.undo.change.taken in
    let taken_is : c.undo.inside.taken.items ≡ taken = ap (λ (u : OpUndoState). u.change.taken) c.undo.view_is in
    let new : SpaceState = record s { buffers = c.unkeep.new.buffers; kept_count = s.kept_count - c.len.result } in
    let state : new ≡ released s taken = rw (c.unkeep.ensures, c.len.ensures.value, c.as_slice.ensures, taken_is) refl in
    state ∙ ap (λ (t : SpaceState). released t taken) c.self.view_is

pub returns-clause-kept : goal.returns-clause-kept
returns-clause-kept c =
    let s : SpaceState = space_of c.self.inside in
    let taken : List Mapping = c.args.undo.change.taken in
    let taken_is : c.undo.inside.taken.items ≡ taken = ap (λ (u : OpUndoState). u.change.taken) c.undo.view_is in
    let new : SpaceState = record s { buffers = c.unkeep.new.buffers; kept_count = s.kept_count - c.len.result } in
    let state : new ≡ released s taken = rw (c.unkeep.ensures, c.len.ensures.value, c.as_slice.ensures, taken_is) refl in
    λ others are_kept.
    subst (λ (t : SpaceState). AreKept t others) (sym state)
    (AreKept-released s taken others (subst (λ (t : SpaceState). AreKept t (taken ++ others)) (sym c.self.view_is) are_kept))
