-- Edits and restored ranges as replaced ranges.
use Rattle.std.proofs.Common.{◌≡◌, ℕ, ◌+◌, ◌-◌, take, drop, sym, List, [], ◌∷◌, Bool, true, false, cond, arith, refl, ◌∙◌, None}
use Rattle.std.proofs.lemmas.Bool.{le-leb, leb-true, ltb-true, and_from, and_parts}
use Rattle.std.proofs.lemmas.List.Elements.{All-nil, All-cons}
use Rattle.std.specs.Prelude.{IsTrue}
use Rattle.std.specs.List.{splice}
use Rattle.gv_types.specs.PageRange.{PageRangeState, span, end_of, covers, lies_in}
use Rattle.gv_types.specs.Operation.{range_of, own_mapping, own_part, after, view, IsPageOp}
use Rattle.gv_types.specs.declared.mapping.Mapping.{Mapping}
use Rattle.gv_types.specs.declared.operation.PageOp.{PageOp}
use Rattle.gv_types.specs.declared.operation.PageOp.TheVariants.{Map, Unmap, UnmapBuffer}
use Rattle.gv_ranges.specs.List.{at, IsLaidOut, IsOverlappingRun, run}
use Rattle.gv_ranges.specs.Edit.{clipped, edited, edited_by_all, LieIn}
use Rattle.gv_ranges.specs.Laws.{EditedListSays, EditedListIsViewed, EditedListIsLaidOut, EditedRunInPlace, UndoneEditIsOld, RestoredListSays, RestoredListIsLaidOut, RestoredRunInPlace, UndoneRestoreIsOld}
use Rattle.gv_ranges.proofs.ClipLemmas.{at-clipped}
use Rattle.gv_ranges.proofs.ReplacedLemmas.{at-replaced, replaced_run_in_place, undone-replaced}
use Rattle.gv_ranges.proofs.OrderLemmas.{laid_out-clipped, laid_out-replaced, lie_in-clipped}

-- a choice whose first answer is the same where it is taken
cond_then : {X : Type 0} (b : Bool) (x y z : X) → (b ≡ true → x ≡ y) → cond b x z ≡ cond b y z
cond_then true x y z same = same refl
cond_then false x y z same = refl

own_lies_in : (op : PageOp) → LieIn (range_of op) (own_mapping op)
own_lies_in (Map range backing flags) =
    All-cons (λ (m : Mapping). IsTrue (lies_in m.range range)) (record { range = range; backing = backing; flags = flags }) []
    (and_from _ _ (le-leb range.first range.first (omega arith)) (le-leb (end_of range) (end_of range) (omega arith))) (All-nil (λ (m : Mapping). IsTrue (lies_in m.range range)))
own_lies_in (Unmap range) = All-nil (λ (m : Mapping). IsTrue (lies_in m.range range))
own_lies_in (UnmapBuffer buffer) = All-nil (λ (m : Mapping). IsTrue (lies_in m.range (span 0 0)))

own_laid_out : (op : PageOp) → IsPageOp op → IsLaidOut (own_mapping op)
own_laid_out (Map range backing flags) is = (omega arith, is, tt)
own_laid_out (Unmap range) is = tt
own_laid_out (UnmapBuffer buffer) is = absurd is

-- an operation's own mapping says of a page that it covers what the operation says
at-own : (op : PageOp) (ms : List Mapping) (page : ℕ) →
    cond (covers (range_of op) page) (at (own_mapping op) page) (at ms page) ≡ after op (at ms) page
at-own (Map range backing flags) ms page =
    elim (covers range page) as (λ b. cond b (cond b (own_part (Map range backing flags) page) None) (at ms page) ≡ cond b (own_part (Map range backing flags) page) (at ms page))
    [ true ↦ refl | false ↦ refl ]
at-own (Unmap range) ms page = refl
at-own (UnmapBuffer buffer) ms page = refl

pub at-edited : EditedListSays
at-edited ms op page in_space =
    at-replaced ms (range_of op) (own_mapping op) page (own_lies_in op) in_space ∙ at-own op ms page

pub at-edited_by_all : EditedListIsViewed
at-edited_by_all [] ms page in_space = refl
at-edited_by_all (op ∷ older) ms page in_space =
    let rest : at (edited_by_all older ms) page ≡ view older (at ms) page = at-edited_by_all older ms page in_space in
    at-edited (edited_by_all older ms) op page in_space ∙ rw rest refl

pub laid_out-edited : EditedListIsLaidOut
laid_out-edited ms op laid is = laid_out-replaced ms (range_of op) (own_mapping op) laid (own_laid_out op is) (own_lies_in op)

pub edited_run_in_place : EditedRunInPlace
edited_run_in_place ms op index count laid is = replaced_run_in_place ms (range_of op) (own_mapping op) index count laid is

pub undone-edited : UndoneEditIsOld
undone-edited ms op index count laid is = undone-replaced ms (range_of op) (own_mapping op) index count laid is

-- The edited list is a splice of what `replacement` gives for the run that `overlapping` found. The premises are what
-- the calls ensure: `now` is the list at the splice, `all` the list that the run was taken from.
pub spliced_edit : (ms now all ys pieces : List Mapping) (op : PageOp) (range : PageRangeState) (index count : ℕ) →
    IsLaidOut ms → range ≡ range_of op → IsOverlappingRun ms range index count →
    now ≡ ms → all ≡ ms → ys ≡ pieces → pieces ≡ edited (take (index + count - index) (drop index all)) op →
    splice now index (index + count) ys ≡ edited ms op
spliced_edit ms now all ys pieces op range index count laid range_is is now_is all_is ys_is pieces_are =
    let is' : IsOverlappingRun ms (range_of op) index count = rw range_is at is in
    let size : index + count - index ≡ count = omega arith in
    let pieces' : pieces ≡ edited (run ms index count) op = rw (all_is, size) at pieces_are in
    rw (now_is, ys_is, pieces') (sym (edited_run_in_place ms op index count laid is'))

pub at-restored : RestoredListSays
at-restored ms saved range page in_space =
    at-replaced ms range (clipped range.first (end_of range) saved) page (lie_in-clipped range saved) in_space ∙
    cond_then (covers range page) _ _ _ (λ is.
    let parts = and_parts _ _ is in
    at-clipped range.first (end_of range) saved page (leb-true _ _ parts.0) (ltb-true _ _ parts.1))

pub laid_out-restored : RestoredListIsLaidOut
laid_out-restored ms saved range laid saved_laid =
    laid_out-replaced ms range (clipped range.first (end_of range) saved) laid
    (laid_out-clipped range.first (end_of range) 0 0 saved saved_laid (omega arith)) (lie_in-clipped range saved)

pub restored_run_in_place : RestoredRunInPlace
restored_run_in_place ms saved range index count laid is =
    replaced_run_in_place ms range (clipped range.first (end_of range) saved) index count laid is

pub undone-restored : UndoneRestoreIsOld
undone-restored ms saved range index count laid is =
    undone-replaced ms range (clipped range.first (end_of range) saved) index count laid is
