-- The item that is withdrawn, among those newer and older than it.
use Rattle.std.proofs.Common.{◌≡◌, ℕ, ◌+◌, ◌<◌, suc, Bool, true, false, cond, List, [], ◌∷◌, ◌++◌, length, take, drop, reverse, get_or, Option, Some, None, Vec, Global, refl, ap, sym, ◌∙◌, subst, arith, append_assoc}
use Rattle.std.proofs.lemmas.List.{drop_more, reverse-append, reverse-reverse, length-reverse, length-take-le, take-append-drop}
use Rattle.gv_types.specs.PageRange.{PageRangeState, end_of}
use Rattle.gv_types.specs.Operation.{range_of}
use Rattle.gv_types.specs.declared.fault.Fault.{Fault}
use Rattle.gv_types.specs.declared.fault.Fault.TheVariants.{Withdrawn}
use Rattle.gv_types.specs.declared.mapping.Entry.{Entry}
use Rattle.gv_types.specs.declared.mapping.Mapping.{Mapping}
use Rattle.gv_types.specs.declared.operation.PageOp.{PageOp}
use Rattle.gv_types.specs.declared.request.Request.{Request}
use Rattle.gv_ranges.specs.Edit.{clipped, replaced, restored, edited_by_all}
use Rattle.gv_ranges.proofs.OverlapLemmas.{clipped_run}
use Rattle.gv_space.specs.State.{SpaceState, AreKept}
use Rattle.gv_space.specs.Undo.{OpUndoState, IsUndoOf, AreAmongKept}
use Rattle.gv_space.specs.Refusal.{first_of, limit_fault}
use Rattle.gv_space.specs.Change.{changed_to}
use Rattle.gv_space.proofs.KeptLemmas.{kept_in_any_order}
use Rattle.gv_journal.specs.Undoing.{taken_by, undone_by}
use Rattle.gv_journal.specs.Items.{JournalState, entries, is_withdrawn}
use Rattle.gv_journal.specs.History.{undos_of, kept_by, back, Rewinds, IsDone, AreUndosOf}
use Rattle.gv_journal.specs.Applying.{met}
use Rattle.gv_journal.specs.Withdrawing.{touched_by, touched_fault, kind_fault, found_fault, after_restore, after_withdrawal, withdrawal_limits, withdrawn}
use Rattle.gv_journal.specs.Restoring.{after_put, after_puts, put_limits}
use Rattle.gv_journal.specs.declared.item.Item.{Item}
use Rattle.gv_journal.specs.declared.item.ItemKind.{ItemKind}
use Rattle.gv_journal.specs.declared.item.ItemKind.TheVariants.{Bind, Withdrawal}
use Rattle.gv_journal.proofs.KeptMappings.{kept_by-append}

-- a Bind that is live, and that no later live item touches
pub record IsWithdrawable (j : JournalState) (n : ℕ) (kind : ItemKind) : Type 0 where
  pub queue : ℕ
  pub number : ℕ
  pub request : Request
  pub seen : Vec ℕ Global
  pub done : Vec PageOp Global
  pub is : kind ≡ Bind queue number request seen done
  pub live : is_withdrawn (entries j) n ≡ false
  pub untouched : touched_by j n done.items ≡ None

no_touch : (o : Option ℕ) → touched_fault o ≡ None → o ≡ None
no_touch None none = refl
no_touch (Some by) none = cc

pub withdrawable : (j : JournalState) (n : ℕ) (kind : ItemKind) → kind_fault j n kind ≡ None → IsWithdrawable j n kind
withdrawable j n (Withdrawal of) none = cc
withdrawable j n (Bind queue number request seen done) none = by_cases (is_withdrawn (entries j) n) refl none
  where
    by_cases : (b : Bool) → is_withdrawn (entries j) n ≡ b → cond b (Some Withdrawn) (touched_fault (touched_by j n done.items)) ≡ None →
        IsWithdrawable j n (Bind queue number request seen done)
    by_cases true is h = cc
    by_cases false is h = record { queue = queue; number = number; request = request; seen = seen; done = done; is = refl; live = is; untouched = no_touch (touched_by j n done.items) h }

-- an item that can be withdrawn is live
pub found_live : (j : JournalState) (n : ℕ) (o : Option Item) → found_fault j n o ≡ None → is_withdrawn (entries j) n ≡ false
found_live j n None none = cc
found_live j n (Some item) none = (withdrawable j n item.kind none).live

-- the items on both sides of an index
pub items_around : (items : List Item) (index : ℕ) (item : Item) → index < length items → item ≡ get_or (reverse items) index item →
    items ≡ reverse (drop (index + 1) (reverse items)) ++ item ∷ reverse (take index (reverse items))
items_around items index item below is =
    let here : drop index (reverse items) ≡ item ∷ drop (index + 1) (reverse items) =
    drop_more (reverse items) index item (omega (arith, length-reverse items)) ∙ ap (λ (x : Item). x ∷ drop (index + 1) (reverse items)) (sym is) in
    sym (reverse-reverse items)
    ∙ ap (λ (xs : List Item). reverse xs) (sym (take-append-drop index (reverse items)))
    ∙ reverse-append (take index (reverse items)) (drop index (reverse items))
    ∙ ap (λ (xs : List Item). reverse xs ++ reverse (take index (reverse items))) here
    ∙ ap (λ (xs : List Item). xs ++ reverse (take index (reverse items))) (reverse-append (item ∷ []) (drop (index + 1) (reverse items)))
    ∙ append_assoc (reverse (drop (index + 1) (reverse items))) (item ∷ []) (reverse (take index (reverse items)))

pub older_count : (items : List Item) (index : ℕ) → index < length items → length (reverse (take index (reverse items))) ≡ index
older_count items index below = length-reverse (take index (reverse items)) ∙ length-take-le index (reverse items) (omega (arith, length-reverse items))

-- the undo values of a Bind are those of what it did
pub done_at : (limit room first : ℕ) (ms : List Mapping) (newer : List Item) (item : Item) (older : List Item) (below : ℕ → Option Entry) → Rewinds limit room first ms (newer ++ item ∷ older) below →
    IsDone item.kind (undos_of item) (back ms (newer ++ item ∷ older) (suc (length newer)))
done_at limit room first ms [] item older below h = h.1
done_at limit room first ms (x ∷ newer) item older below h = done_at limit room first (undone_by ms (undos_of x)) newer item older below h.4

-- what an item keeps is kept
pub item_kept : (s : SpaceState) (newer : List Item) (item : Item) (older : List Item) → AreKept s (kept_by (newer ++ item ∷ older)) → AreAmongKept s (taken_by (undos_of item))
item_kept s newer item older kept = record {
  others = kept_by newer ++ kept_by older;
  are_kept = kept_in_any_order s (kept_by newer) (taken_by (undos_of item)) (kept_by older)
      (subst (λ (ms : List Mapping). AreKept s ms) (kept_by-append newer (item ∷ older)) kept);
}

-- to put back what an undo value took is to put back what the list before it held
pub restored_same : (ms old new : List Mapping) (u : OpUndoState) → IsUndoOf old new u → restored ms u.range u.change.taken ≡ restored ms u.range old
restored_same ms old new u is =
    ap (λ (xs : List Mapping). replaced ms u.range xs)
    (ap (clipped u.range.first (end_of u.range)) is.taken ∙ sym (clipped_run old u.range u.change.index (length u.change.taken) is.met))

put_is : (s : SpaceState) (before : List Mapping) (op : PageOp) (ops : List PageOp) (u : OpUndoState) (us : List OpUndoState) → AreUndosOf before (op ∷ ops) (u ∷ us) →
    restored s.mappings u.range u.change.taken ≡ restored s.mappings (range_of op) (edited_by_all ops before)
put_is s before op ops u us undos =
    restored_same s.mappings (edited_by_all ops before) _ u undos.1 ∙ ap (λ (r : PageRangeState). restored s.mappings r (edited_by_all ops before)) undos.0

after_put_is : (s : SpaceState) (before : List Mapping) (op : PageOp) (ops : List PageOp) (u : OpUndoState) (us : List OpUndoState) → AreUndosOf before (op ∷ ops) (u ∷ us) →
    after_put s u ≡ after_restore s op (edited_by_all ops before)
after_put_is s before op ops u us undos =
    ap (λ (ms : List Mapping). changed_to ms (met s.mappings u.range) s) (put_is s before op ops u us undos)
    ∙ ap (λ (r : PageRangeState). changed_to (restored s.mappings (range_of op) (edited_by_all ops before)) (met s.mappings r) s) undos.0

pub after_puts_are : (before : List Mapping) (ops : List PageOp) (us : List OpUndoState) (s : SpaceState) → AreUndosOf before ops us → after_puts us s ≡ after_withdrawal before ops s
after_puts_are before [] [] s undos = refl
after_puts_are before (op ∷ ops) (u ∷ us) s undos =
    ap (λ (t : SpaceState). after_puts us t) (after_put_is s before op ops u us undos) ∙ after_puts_are before ops us (after_restore s op (edited_by_all ops before)) undos.2
after_puts_are before [] (u ∷ us) s undos = absurd undos
after_puts_are before (op ∷ ops) [] s undos = absurd undos

pub put_limits_are : (before : List Mapping) (ops : List PageOp) (us : List OpUndoState) (s : SpaceState) → AreUndosOf before ops us → put_limits us s ≡ withdrawal_limits before ops s
put_limits_are before [] [] s undos = refl
put_limits_are before (op ∷ ops) (u ∷ us) s undos =
    ap (λ (ms : List Mapping). first_of (limit_fault s u.range ms) (put_limits us (after_put s u))) (put_is s before op ops u us undos)
    ∙ ap (λ (r : PageRangeState). first_of (limit_fault s r (restored s.mappings (range_of op) (edited_by_all ops before))) (put_limits us (after_put s u))) undos.0
    ∙ ap (λ (t : SpaceState). first_of (limit_fault s (range_of op) (restored s.mappings (range_of op) (edited_by_all ops before))) (put_limits us t)) (after_put_is s before op ops u us undos)
    ∙ ap (λ (o : Option Fault). first_of (limit_fault s (range_of op) (restored s.mappings (range_of op) (edited_by_all ops before))) o)
    (put_limits_are before ops us (after_restore s op (edited_by_all ops before)) undos.2)
put_limits_are before [] (u ∷ us) s undos = absurd undos
put_limits_are before (op ∷ ops) [] s undos = absurd undos

pub after_withdrawal-mappings : (before : List Mapping) (ops : List PageOp) (s : SpaceState) → (after_withdrawal before ops s).mappings ≡ withdrawn before ops s.mappings
after_withdrawal-mappings before [] s = refl
after_withdrawal-mappings before (op ∷ ops) s = after_withdrawal-mappings before ops (after_restore s op (edited_by_all ops before))

pub after_withdrawal-limit : (before : List Mapping) (ops : List PageOp) (s : SpaceState) → (after_withdrawal before ops s).limits.mappings ≡ s.limits.mappings
after_withdrawal-limit before [] s = refl
after_withdrawal-limit before (op ∷ ops) s = after_withdrawal-limit before ops (after_restore s op (edited_by_all ops before))
