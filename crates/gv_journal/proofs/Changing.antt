-- `AreChanges` and `AreApplied` after one operation more, or with more room.
use Rattle.std.proofs.Common.{◌≡◌, ℕ, ◌≤◌, List, [], ◌∷◌, ◌++◌, Option, IsTrue, cond, refl, ap, sym, ◌∙◌, subst, arith, append_assoc}
use Rattle.gv_types.specs.Page.{IsPage}
use Rattle.gv_types.specs.PageRange.{covers}
use Rattle.gv_types.specs.Operation.{range_of, own_part, after}
use Rattle.gv_types.specs.declared.mapping.Entry.{Entry}
use Rattle.gv_types.specs.declared.mapping.Mapping.{Mapping}
use Rattle.gv_types.specs.declared.operation.PageOp.{PageOp}
use Rattle.gv_ranges.specs.List.{at}
use Rattle.gv_ranges.specs.Edit.{edited, edited_by_all, undone}
use Rattle.gv_space.specs.State.{SpaceState, AreKept, IsUnchanged}
use Rattle.gv_space.specs.Undo.{OpUndoState, IsUndoOf, TookWhatWas, reverted}
use Rattle.gv_space.specs.Change.{IsChanged, changed_to}
use Rattle.gv_space.proofs.KeptLemmas.{AreKept-room_alone}
use Rattle.gv_journal.specs.Undoing.{taken_by, undone_by, reverted_by, AreRevertible}
use Rattle.gv_journal.specs.Applying.{met, after_op, after_all, AreChanges, AreApplied}
use Rattle.gv_journal.proofs.Runs.{taken_met}

-- more room does no harm
pub AreRevertible-room : (limit room more : ℕ) (ms : List Mapping) (us : List OpUndoState) → room ≤ more → AreRevertible limit room ms us → AreRevertible limit more ms us
AreRevertible-room limit room more ms [] le h = tt
AreRevertible-room limit room more ms (u ∷ us) le h =
    (record { undo = h.0.undo; few = h.0.few; room_for = omega (arith, h.0.room_for) }, AreRevertible-room limit room more (undone ms u.change) us le h.1)

-- a space is reverted to the same with other room
pub reverted_by-room : (s : SpaceState) (room : ℕ) (us : List OpUndoState) → reverted_by (record s { room = room }) us ≡ record (reverted_by s us) { room = room }
reverted_by-room s room [] = refl
reverted_by-room s room (u ∷ us) = reverted_by-room (reverted s u) room us

pub AreChanges-none : (s : SpaceState) → AreChanges s s []
AreChanges-none s = record { room = omega arith; revertible = tt; list = refl; kept = λ others saved. saved; back = refl }

-- one change more
pub AreChanges-more : (old mid new : SpaceState) (ms : List Mapping) (u : OpUndoState) (us : List OpUndoState) → AreChanges old mid us →
    IsChanged mid new ms u → undone new.mappings u.change ≡ mid.mappings → AreChanges old new (u ∷ us)
AreChanges-more old mid new ms u us was did undone_is =
    let limit_is : new.limits.mappings ≡ mid.limits.mappings = ap (λ (s : SpaceState). s.limits.mappings) did.state in
    let others : AreRevertible mid.limits.mappings new.room mid.mappings us = AreRevertible-room mid.limits.mappings mid.room new.room mid.mappings us did.room was.revertible in
    record {
      room = omega (arith, was.room, did.room);
      revertible = (
        record { undo = did.can_revert.undo; few = did.can_revert.few; room_for = did.can_revert.room },
        subst (λ (xs : List Mapping). AreRevertible new.limits.mappings new.room xs us) (sym undone_is)
            (subst (λ (n : ℕ). AreRevertible n new.room mid.mappings us) (sym limit_is) others),
      );
      list = ap (λ (xs : List Mapping). undone_by xs us) undone_is ∙ was.list;
      kept = λ xs saved. subst (λ (all : List Mapping). AreKept new all) (sym (append_assoc u.change.taken (taken_by us) xs)) (did.kept (taken_by us ++ xs) (was.kept xs saved));
      back = ap (λ (s : SpaceState). reverted_by s us) did.back ∙ reverted_by-room mid new.room us ∙ ap (λ (s : SpaceState). record s { room = new.room }) was.back;
    }

-- a space that only has more room
pub AreChanges-room : (old mid new : SpaceState) (us : List OpUndoState) → AreChanges old mid us → IsUnchanged mid new → AreChanges old new us
AreChanges-room old mid new us was same =
    let limit_is : new.limits.mappings ≡ mid.limits.mappings = ap (λ (s : SpaceState). s.limits.mappings) same.state in
    let list_is : new.mappings ≡ mid.mappings = ap (λ (s : SpaceState). s.mappings) same.state in
    let roomy : AreRevertible mid.limits.mappings new.room mid.mappings us = AreRevertible-room mid.limits.mappings mid.room new.room mid.mappings us same.room was.revertible in
    record {
      room = omega (arith, was.room, same.room);
      revertible = subst (λ (xs : List Mapping). AreRevertible new.limits.mappings new.room xs us) (sym list_is)
          (subst (λ (n : ℕ). AreRevertible n new.room mid.mappings us) (sym limit_is) roomy);
      list = ap (λ (xs : List Mapping). undone_by xs us) list_is ∙ was.list;
      kept = λ xs saved. AreKept-room_alone mid new (taken_by us ++ xs) same.state (was.kept xs saved);
      back = ap (λ (s : SpaceState). reverted_by s us) same.state ∙ reverted_by-room mid new.room us ∙ ap (λ (s : SpaceState). record s { room = new.room }) was.back;
    }

-- the list after operations is the edited one
pub after_all-mappings : (ops : List PageOp) (s : SpaceState) → (after_all ops s).mappings ≡ edited_by_all ops s.mappings
after_all-mappings [] s = refl
after_all-mappings (op ∷ ops) s = ap (λ (ms : List Mapping). edited ms op) (after_all-mappings ops s)

pub list_applied : (old new : SpaceState) (ops : List PageOp) → new ≡ record (after_all ops old) { room = new.room } → new.mappings ≡ edited_by_all ops old.mappings
list_applied old new ops is = ap (λ (s : SpaceState). s.mappings) is ∙ after_all-mappings ops old

pub AreApplied-none : (s : SpaceState) → AreApplied s s [] []
AreApplied-none s = record { state = refl; changes = AreChanges-none s; pages = λ p _. refl; undos = tt; save = tt }

-- the space after one operation
pub state_after : (mid new : SpaceState) (op : PageOp) (u : OpUndoState) → IsChanged mid new (edited mid.mappings op) u → u.range ≡ range_of op →
    new ≡ record (after_op mid op) { room = new.room }
state_after mid new op u did range_is =
    let taken_is : u.change.taken ≡ met mid.mappings (range_of op) = rw range_is at (taken_met mid.mappings new.mappings u did.undo) in
    did.state ∙ ap (λ (ms : List Mapping). record (changed_to (edited mid.mappings op) ms mid) { room = new.room }) taken_is

-- one operation more
pub AreApplied-more : (old mid new : SpaceState) (ops : List PageOp) (us : List OpUndoState) (op : PageOp) (u : OpUndoState) → AreApplied old mid ops us →
    IsChanged mid new (edited mid.mappings op) u → u.range ≡ range_of op →
    ((page : ℕ) → IsPage page → at new.mappings page ≡ after op (at mid.mappings) page) →
    TookWhatWas mid.mappings u → undone new.mappings u.change ≡ mid.mappings → AreApplied old new (op ∷ ops) (u ∷ us)
AreApplied-more old mid new ops us op u was did range_is says holds undone_is =
    let mid_list : mid.mappings ≡ edited_by_all ops old.mappings = list_applied old mid ops was.state in
    let new_list : new.mappings ≡ edited mid.mappings op = ap (λ (s : SpaceState). s.mappings) did.state in
    record {
      state = state_after mid new op u did range_is ∙ ap (λ (s : SpaceState). record (after_op s op) { room = new.room }) was.state;
      changes = AreChanges-more old mid new (edited mid.mappings op) u us was.changes did undone_is;
      pages = λ page is. says page is ∙ ap (λ (e : Option Entry). cond (covers (range_of op) page) (own_part op page) e) (was.pages page is);
      undos = (
        range_is,
        subst (λ (ms : List Mapping). IsUndoOf ms (edited ms op) u) mid_list (subst (λ (ms : List Mapping). IsUndoOf mid.mappings ms u) new_list did.undo),
        was.undos,
      );
      save = (λ page is c. holds page (subst (λ r. IsTrue (covers r page)) (sym range_is) c) ∙ was.pages page is, was.save);
    }

pub AreApplied-room : (old mid new : SpaceState) (ops : List PageOp) (us : List OpUndoState) → AreApplied old mid ops us → IsUnchanged mid new → AreApplied old new ops us
AreApplied-room old mid new ops us was same = record {
  state = same.state ∙ ap (λ (s : SpaceState). record s { room = new.room }) was.state;
  changes = AreChanges-room old mid new us was.changes same;
  pages = λ page is. ap (λ (s : SpaceState). at s.mappings page) same.state ∙ was.pages page is;
  undos = was.undos;
  save = was.save;
}

-- changes taken back leave all as it was, but for room
pub unchanged_back : (old new t : SpaceState) (us : List OpUndoState) → AreChanges old new us → t ≡ reverted_by new us → IsUnchanged old t
unchanged_back old new t us changes is =
    let whole : t ≡ record old { room = new.room } = is ∙ changes.back in
    let room_is : t.room ≡ new.room = ap (λ (s : SpaceState). s.room) whole in
    record { state = whole ∙ ap (λ (n : ℕ). record old { room = n }) (sym room_is); room = omega (arith, changes.room, room_is) }
