-- Where a rest of the first mapping stays in its place, the first pages of the others move alone.
use Rattle.std.proofs.Common.{◌≡◌, ◌-◌, ◌<◌, List, [], ◌∷◌, ◌++◌, length, drop, get_or, arith, sym, ◌∙◌, ap, subst}
use Rattle.std.proofs.lemmas.List.{append_assoc, drop_more, take_all, length-drop}
use Rattle.gv_types.specs.Mapping.{one_page_of_zeros}
use Rattle.gv_types.specs.declared.mapping.BufferId.{BufferId}
use Rattle.gv_types.specs.declared.mapping.Mapping.{Mapping}
use Rattle.gv_ranges.specs.List.{IsLaidOut}
use Rattle.gv_buffers.specs.FirstPages.{FirstPagesState}
use Rattle.gv_space.specs.Counts.{IsFirstOf}
use Rattle.gv_space.specs.ListFirstPages.{between, AreFirstPages, BeginAlike}
use Rattle.gv_space.proofs.FirstPageMoves.{stays_one}
use Rattle.gv_space.proofs.FirstKept.{rest}

abbrev first : List Mapping → Mapping
first ms = get_or ms 0 one_page_of_zeros

-- a list of a first one and the rest
parts : (before ms behind : List Mapping) → 0 < length ms → between before ms behind ≡ between (before ++ first ms ∷ []) (rest ms) behind
parts before ms behind some =
    let all : drop 1 ms ≡ rest ms = sym (take_all (length ms - 1) (drop 1 ms) (omega (arith, length-drop 1 ms))) in
    let whole : ms ≡ first ms ∷ rest ms = drop_more ms 0 one_page_of_zeros some ∙ ap (λ (xs : List Mapping). first ms ∷ xs) all in
    ap (λ (xs : List Mapping). between before xs behind) whole ∙ sym (append_assoc before (first ms ∷ []) (rest ms ++ behind))

pub stays_between : (before behind taken pieces : List Mapping) (id : BufferId) (old mid new : List FirstPagesState) → IsFirstOf id taken → IsFirstOf id pieces → BeginAlike taken pieces →
    ((xs ys : List Mapping) → IsLaidOut (between xs (rest taken) ys) → AreFirstPages (between xs (rest taken) ys) old → AreFirstPages (xs ++ ys) mid) →
    ((xs ys : List Mapping) → IsLaidOut (between xs (rest pieces) ys) → AreFirstPages (xs ++ ys) mid → AreFirstPages (between xs (rest pieces) ys) new) →
    IsLaidOut (between before taken behind) → IsLaidOut (between before pieces behind) → AreFirstPages (between before taken behind) old → AreFirstPages (between before pieces behind) new
stays_between before behind taken pieces id old mid new is stands alike left came laid laid' are =
    let out = parts before taken behind is.some in
    let in' = parts before pieces behind stands.some in
    let without : AreFirstPages (before ++ first taken ∷ behind) mid =
    subst (λ (xs : List Mapping). AreFirstPages xs mid) (append_assoc before (first taken ∷ []) behind)
    (left (before ++ first taken ∷ []) behind (subst IsLaidOut out laid) (subst (λ (xs : List Mapping). AreFirstPages xs old) out are)) in
    let instead : AreFirstPages ((before ++ first pieces ∷ []) ++ behind) mid =
    subst (λ (xs : List Mapping). AreFirstPages xs mid) (sym (append_assoc before (first pieces ∷ []) behind))
    (stays_one before (first taken) (first pieces) behind id is.page stands.page mid (is.is one_page_of_zeros) (stands.is one_page_of_zeros) (alike one_page_of_zeros) without) in
    subst (λ (xs : List Mapping). AreFirstPages xs new) (sym in') (came (before ++ first pieces ∷ []) behind (subst IsLaidOut in' laid') instead)
