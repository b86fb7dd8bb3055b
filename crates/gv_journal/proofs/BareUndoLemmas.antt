-- For callers: undo values of the same change are the same, bare of memory, and those that are take the same back.
use Rattle.std.proofs.Common.{◌≡◌, ℕ, ◌+◌, List, [], ◌∷◌, ◌++◌, map, length, arith, refl, sym, ap, ◌∙◌, subst}
use Rattle.std.proofs.lemmas.List.{length-append}
use Rattle.gv_types.specs.Page.{PAGES}
use Rattle.gv_types.specs.PageRange.{PageRangeState, end_of}
use Rattle.gv_types.specs.Operation.{range_of}
use Rattle.gv_types.specs.declared.mapping.Mapping.{Mapping}
use Rattle.gv_types.specs.declared.operation.PageOp.{PageOp}
use Rattle.gv_ranges.specs.List.{IsOverlappingRun}
use Rattle.gv_ranges.specs.Edit.{clipped, replaced, edited, edited_by_all, restored, undone}
use Rattle.gv_ranges.proofs.OverlapLemmas.{filter_meets, index_alike}
use Rattle.gv_space.specs.State.{SpaceState}
use Rattle.gv_space.specs.Undo.{OpUndoState, IsUndoOf, reverted}
use Rattle.gv_journal.specs.Undoing.{taken_by, undone_by, reverted_by}
use Rattle.gv_journal.specs.History.{AreUndosOf}
use Rattle.gv_journal.specs.Withdrawing.{AreUndosOfWithdrawal}
use Rattle.gv_journal.specs.Bare.{BareUndo, bare_undo}

-- What was put in is as much.

length-replaced : (ms pieces : List Mapping) (range : PageRangeState) → length (replaced ms range pieces) ≡ length (clipped 0 range.first ms) + length pieces + length (clipped (end_of range) PAGES ms)
length-replaced ms pieces range =
    length-append (clipped 0 range.first ms ++ pieces) (clipped (end_of range) PAGES ms)
    ∙ ap (λ n. n + length (clipped (end_of range) PAGES ms)) (length-append (clipped 0 range.first ms) pieces)

change_same : (index index' put_in put_in' : ℕ) (taken taken' : List Mapping) (range : PageRangeState) → index ≡ index' → put_in ≡ put_in' → taken ≡ taken' →
    let one : BareUndo = record { change = record { index = index; put_in = put_in; taken = taken }; range = range } in
    let other : BareUndo = record { change = record { index = index'; put_in = put_in'; taken = taken' }; range = range } in
    one ≡ other
change_same index index' put_in put_in' taken taken' range indices puts takes = rw (indices, puts, takes) refl

same_undo : (old new : List Mapping) (u v : OpUndoState) → u.range ≡ v.range → IsUndoOf old new u → IsUndoOf old new v → bare_undo u ≡ bare_undo v
same_undo old new u v range is also =
    let met : IsOverlappingRun old u.range v.change.index (length v.change.taken) =
    subst (λ (r : PageRangeState). IsOverlappingRun old r v.change.index (length v.change.taken)) (sym range) also.met in
    let taken : u.change.taken ≡ v.change.taken =
    is.taken ∙ sym (filter_meets old u.range u.change.index (length u.change.taken) is.met)
    ∙ filter_meets old u.range v.change.index (length v.change.taken) met ∙ sym also.taken in
    let index : u.change.index ≡ v.change.index =
    index_alike old u.range 0 u.change.index v.change.index (length u.change.taken) is.laid_out is.met
    (subst (λ (ms : List Mapping). IsOverlappingRun old u.range v.change.index (length ms)) (sym taken) met) in
    let made : replaced old u.range is.pieces ≡ replaced old u.range also.pieces =
    sym is.made ∙ subst (λ (r : PageRangeState). new ≡ replaced old r also.pieces) (sym range) also.made in
    let long : length (replaced old u.range is.pieces) ≡ length (replaced old u.range also.pieces) = ap (λ (ms : List Mapping). length ms) made in
    let put : v.change.put_in ≡ length (replaced u.change.taken u.range also.pieces) =
    also.put_in ∙ ap (λ (ms : List Mapping). length (replaced ms v.range also.pieces)) (sym taken) ∙ ap (λ (r : PageRangeState). length (replaced u.change.taken r also.pieces)) (sym range) in
    let put_in : u.change.put_in ≡ v.change.put_in =
    omega (
      arith,
      is.put_in,
      put,
      long,
      length-replaced old is.pieces u.range,
      length-replaced old also.pieces u.range,
      length-replaced u.change.taken is.pieces u.range,
      length-replaced u.change.taken also.pieces u.range,
    ) in
    change_same u.change.index v.change.index u.change.put_in v.change.put_in u.change.taken v.change.taken u.range index put_in taken
    ∙ ap (λ (r : PageRangeState). let x : BareUndo = record { change = v.change; range = r } in x) range

cons_same : {X : Type 0} {x y : X} {xs ys : List X} → x ≡ y → xs ≡ ys → x ∷ xs ≡ y ∷ ys
cons_same first rest = cc

-- of the same operations
pub undos_alike : (before : List Mapping) (ops : List PageOp) (us vs : List OpUndoState) → AreUndosOf before ops us → AreUndosOf before ops vs → map bare_undo us ≡ map bare_undo vs
undos_alike before [] [] [] are also = refl
undos_alike before [] [] (v ∷ vs) are also = absurd also
undos_alike before [] (u ∷ us) vs are also = absurd are
undos_alike before (op ∷ ops) [] vs are also = absurd are
undos_alike before (op ∷ ops) (u ∷ us) [] are also = absurd also
undos_alike before (op ∷ ops) (u ∷ us) (v ∷ vs) are also =
    cons_same (same_undo (edited_by_all ops before) (edited (edited_by_all ops before) op) u v (are.0 ∙ sym also.0) are.1 also.1) (undos_alike before ops us vs are.2 also.2)

-- of the same withdrawal
pub withdrawal_undos_alike : (before : List Mapping) (ops : List PageOp) (ms : List Mapping) (us vs : List OpUndoState) →
    AreUndosOfWithdrawal before ops ms us → AreUndosOfWithdrawal before ops ms vs → map bare_undo us ≡ map bare_undo vs
withdrawal_undos_alike before [] ms [] [] are also = refl
withdrawal_undos_alike before [] ms [] (v ∷ vs) are also = absurd also
withdrawal_undos_alike before [] ms (u ∷ us) vs are also = absurd are
withdrawal_undos_alike before (op ∷ ops) ms [] vs are also = absurd are
withdrawal_undos_alike before (op ∷ ops) ms (u ∷ us) [] are also = absurd also
withdrawal_undos_alike before (op ∷ ops) ms (u ∷ us) (v ∷ vs) are also =
    let now : List Mapping = restored ms (range_of op) (edited_by_all ops before) in
    cons_same (same_undo ms now u v (are.0 ∙ sym also.0) are.1 also.1) (withdrawal_undos_alike before ops now us vs are.2 also.2)

-- What they take back has nothing of memory.

abbrev filled : BareUndo → OpUndoState
filled u = record { change = u.change; range = u.range; tables = record { pages = 0; slots = 0 } }

abbrev pub all_filled : List BareUndo → List OpUndoState
all_filled us = map filled us

pub taken_by_bare : (us : List OpUndoState) → taken_by us ≡ taken_by (all_filled (map bare_undo us))
taken_by_bare [] = refl
taken_by_bare (u ∷ older) = ap (λ (ms : List Mapping). u.change.taken ++ ms) (taken_by_bare older)

pub undone_by_bare : (ms : List Mapping) (us : List OpUndoState) → undone_by ms us ≡ undone_by ms (all_filled (map bare_undo us))
undone_by_bare ms [] = refl
undone_by_bare ms (u ∷ older) = undone_by_bare (undone ms u.change) older

pub reverted_by_bare : (s : SpaceState) (us : List OpUndoState) → reverted_by s us ≡ reverted_by s (all_filled (map bare_undo us))
reverted_by_bare s [] = refl
reverted_by_bare s (u ∷ older) = reverted_by_bare (reverted s u) older
