-- The undo values of what was put back, and so of a withdrawal.
use Rattle.std.proofs.Common.{◌≡◌, List, [], ◌∷◌, ◌++◌, refl, ap, ◌∙◌, subst}
use Rattle.gv_types.specs.PageRange.{PageRangeState}
use Rattle.gv_types.specs.Operation.{range_of}
use Rattle.gv_types.specs.declared.mapping.Mapping.{Mapping}
use Rattle.gv_types.specs.declared.operation.PageOp.{PageOp}
use Rattle.gv_ranges.specs.Edit.{restored, edited_by_all}
use Rattle.gv_space.specs.State.{SpaceState}
use Rattle.gv_space.specs.Undo.{OpUndoState, IsUndoOf}
use Rattle.gv_space.specs.Change.{IsChanged}
use Rattle.gv_journal.specs.History.{AreUndosOf}
use Rattle.gv_journal.specs.Restoring.{after_put, after_puts, list_after_puts, AreUndosOfPuts, ArePutBack}
use Rattle.gv_journal.specs.Withdrawing.{AreUndosOfWithdrawal}
use Rattle.gv_journal.proofs.WithdrawableItem.{restored_same}

pub after_puts-mappings : (us : List OpUndoState) (s : SpaceState) → (after_puts us s).mappings ≡ list_after_puts us s.mappings
after_puts-mappings [] s = refl
after_puts-mappings (u ∷ us) s = after_puts-mappings us (after_put s u)

one_more : (ms : List Mapping) (us later : List OpUndoState) (u fresh : OpUndoState) → AreUndosOfPuts ms us later → fresh.range ≡ u.range →
    IsUndoOf (list_after_puts us ms) (restored (list_after_puts us ms) u.range u.change.taken) fresh → AreUndosOfPuts ms (us ++ u ∷ []) (later ++ fresh ∷ [])
one_more ms [] [] u fresh were range_is is = (range_is, is, tt)
one_more ms (v ∷ us) (f ∷ later) u fresh were range_is is = (were.0, were.1, one_more (restored ms v.range v.change.taken) us later u fresh were.2 range_is is)
one_more ms [] (f ∷ later) u fresh were range_is is = absurd were
one_more ms (v ∷ us) [] u fresh were range_is is = absurd were

-- one undo value more
pub AreUndosOfPuts-more : (old mid new : SpaceState) (us older later : List OpUndoState) (u fresh : OpUndoState) → ArePutBack old mid us older → AreUndosOfPuts old.mappings us later →
    IsChanged mid new (restored mid.mappings u.range u.change.taken) fresh → fresh.range ≡ u.range → AreUndosOfPuts old.mappings (us ++ u ∷ []) (later ++ fresh ∷ [])
AreUndosOfPuts-more old mid new us older later u fresh put were did range_is =
    let list : mid.mappings ≡ list_after_puts us old.mappings = ap (λ (s : SpaceState). s.mappings) put.state ∙ after_puts-mappings us old in
    let made : new.mappings ≡ restored mid.mappings u.range u.change.taken = ap (λ (s : SpaceState). s.mappings) did.state in
    let own : IsUndoOf mid.mappings (restored mid.mappings u.range u.change.taken) fresh = subst (λ (ms : List Mapping). IsUndoOf mid.mappings ms fresh) made did.undo in
    one_more old.mappings us later u fresh were range_is
    (subst (λ (ms : List Mapping). IsUndoOf ms (restored ms u.range u.change.taken) fresh) list own)

-- those of an item's own undo values, put back, are those of its withdrawal
pub AreUndosOfWithdrawal-puts : (before : List Mapping) (ops : List PageOp) (us later : List OpUndoState) (ms : List Mapping) → AreUndosOf before ops us → AreUndosOfPuts ms us later →
    AreUndosOfWithdrawal before ops ms later
AreUndosOfWithdrawal-puts before [] [] [] ms undos puts = tt
AreUndosOfWithdrawal-puts before (op ∷ ops) (u ∷ us) (fresh ∷ later) ms undos puts =
    let same : restored ms u.range u.change.taken ≡ restored ms (range_of op) (edited_by_all ops before) =
    restored_same ms (edited_by_all ops before) _ u undos.1 ∙ ap (λ (r : PageRangeState). restored ms r (edited_by_all ops before)) undos.0 in (
      puts.0 ∙ undos.0,
      subst (λ (xs : List Mapping). IsUndoOf ms xs fresh) same puts.1,
      AreUndosOfWithdrawal-puts before ops us later (restored ms (range_of op) (edited_by_all ops before)) undos.2 (subst (λ (xs : List Mapping). AreUndosOfPuts xs us later) same puts.2),
    )
AreUndosOfWithdrawal-puts before [] [] (fresh ∷ later) ms undos puts = absurd puts
AreUndosOfWithdrawal-puts before (op ∷ ops) (u ∷ us) [] ms undos puts = absurd puts
AreUndosOfWithdrawal-puts before [] (u ∷ us) later ms undos puts = absurd undos
AreUndosOfWithdrawal-puts before (op ∷ ops) [] later ms undos puts = absurd undos
