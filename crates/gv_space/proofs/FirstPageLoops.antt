-- Steps of the loops that move first pages, and how they begin and end.
use Rattle.std.proofs.Common.{◌≡◌, ℕ, ◌+◌, ◌<◌, ◌≤◌, List, [], ◌∷◌, ◌++◌, length, take, drop, get_or, true, false, eqb, arith, refl, sym, ◌∙◌, ap, subst}
use Rattle.std.proofs.lemmas.Bool.{eqb-true, eqb-false}
use Rattle.std.proofs.lemmas.List.{append_assoc, take_more, take_all, drop_more, drop_all, take-append-drop}
use Rattle.gv_types.specs.declared.mapping.Backing.TheVariants.{Buffer, Zero}
use Rattle.gv_types.specs.declared.mapping.BufferId.{BufferId}
use Rattle.gv_types.specs.declared.mapping.Mapping.{Mapping}
use Rattle.gv_ranges.specs.List.{IsLaidOut}
use Rattle.gv_buffers.specs.FirstPages.{FirstPagesState, page_added, page_removed, first_pages_at, AreSameElsewhere}
use Rattle.std.specs.List.{All}
use Rattle.gv_space.specs.ListFirstPages.{between, AreFirstPages, HasRow}
use Rattle.gv_space.proofs.FirstPageMoves.{left_one, left_zero, came_one, came_zero, laid_out-without}

module _ (before behind ms : List Mapping) (k : ℕ) (m : Mapping) (within : k < length ms) (is : m ≡ get_or ms k m) where
  next : drop k ms ≡ m ∷ drop (k + 1) ms
  next = drop_more ms k m within ∙ ap (λ (x : Mapping). x ∷ drop (k + 1) ms) (sym is)

  -- those that are still there
  there : between before (drop k ms) behind ≡ before ++ m ∷ (drop (k + 1) ms ++ behind)
  there = ap (λ (xs : List Mapping). between before xs behind) next

  laid_there : IsLaidOut (between before ms behind) → IsLaidOut (before ++ m ∷ (drop (k + 1) ms ++ behind))
  laid_there laid =
      let parts : between before ms behind ≡ before ++ (take k ms ++ (drop k ms ++ behind)) =
      ap (λ (xs : List Mapping). between before xs behind) (sym (take-append-drop k ms)) ∙ ap (λ (xs : List Mapping). before ++ xs) (append_assoc (take k ms) (drop k ms) behind) in
      subst IsLaidOut there (laid_out-without before (take k ms) (drop k ms ++ behind) 0 (subst IsLaidOut parts laid))

  pub left_turn : (id : BufferId) (page : ℕ) (rows after : List FirstPagesState) → m.backing ≡ Buffer id page → IsLaidOut (between before ms behind) →
      first_pages_at after id.index ≡ page_removed m.range.first (first_pages_at rows id.index) → AreSameElsewhere id.index rows after →
      AreFirstPages (between before (drop k ms) behind) rows → AreFirstPages (between before (drop (k + 1) ms) behind) after
  left_turn id page rows after of laid here others are =
      left_one before m (drop (k + 1) ms ++ behind) id page rows after of (laid_there laid) here others (subst (λ (xs : List Mapping). AreFirstPages xs rows) there are)

  pub left_none : (rows : List FirstPagesState) → m.backing ≡ Zero → AreFirstPages (between before (drop k ms) behind) rows → AreFirstPages (between before (drop (k + 1) ms) behind) rows
  left_none rows of are = left_zero before m (drop (k + 1) ms ++ behind) rows of (subst (λ (xs : List Mapping). AreFirstPages xs rows) there are)

  -- those that have come, and the next
  here_so_far : between before (take k ms) behind ≡ (before ++ take k ms) ++ behind
  here_so_far = sym (append_assoc before (take k ms) behind)

  one_more : between before (take (k + 1) ms) behind ≡ (before ++ take k ms) ++ m ∷ behind
  one_more =
      ap (λ (xs : List Mapping). between before xs behind) (take_more ms k m within ∙ ap (λ (x : Mapping). take k ms ++ x ∷ []) (sym is))
      ∙ ap (λ (xs : List Mapping). before ++ xs) (append_assoc (take k ms) (m ∷ []) behind)
      ∙ sym (append_assoc before (take k ms) (m ∷ behind))

  laid_so_far : IsLaidOut (between before ms behind) → IsLaidOut ((before ++ take k ms) ++ m ∷ behind)
  laid_so_far laid =
      let up : List Mapping = before ++ take (k + 1) ms in
      let parts : between before ms behind ≡ up ++ (drop (k + 1) ms ++ behind) =
      ap (λ (xs : List Mapping). between before xs behind) (sym (take-append-drop (k + 1) ms))
      ∙ ap (λ (xs : List Mapping). before ++ xs) (append_assoc (take (k + 1) ms) (drop (k + 1) ms) behind)
      ∙ sym (append_assoc before (take (k + 1) ms) (drop (k + 1) ms ++ behind)) in
      subst IsLaidOut (append_assoc before (take (k + 1) ms) behind ∙ one_more) (laid_out-without up (drop (k + 1) ms) behind 0 (subst IsLaidOut parts laid))

  pub came_turn : (id : BufferId) (page : ℕ) (rows after : List FirstPagesState) → m.backing ≡ Buffer id page → IsLaidOut (between before ms behind) →
      first_pages_at after id.index ≡ page_added m.range.first (first_pages_at rows id.index) → AreSameElsewhere id.index rows after →
      AreFirstPages (between before (take k ms) behind) rows → AreFirstPages (between before (take (k + 1) ms) behind) after
  came_turn id page rows after of laid here others are =
      subst (λ (xs : List Mapping). AreFirstPages xs after) (sym one_more)
      (came_one (before ++ take k ms) m behind id page rows after of (laid_so_far laid) here others (subst (λ (xs : List Mapping). AreFirstPages xs rows) here_so_far are))

  pub came_none : (rows : List FirstPagesState) → m.backing ≡ Zero → AreFirstPages (between before (take k ms) behind) rows → AreFirstPages (between before (take (k + 1) ms) behind) rows
  came_none rows of are =
      subst (λ (xs : List Mapping). AreFirstPages xs rows) (sym one_more)
      (came_zero (before ++ take k ms) m behind rows of (subst (λ (xs : List Mapping). AreFirstPages xs rows) here_so_far are))

pub left_end : (before behind ms : List Mapping) (k : ℕ) (rows : List FirstPagesState) → length ms ≤ k → AreFirstPages (between before (drop k ms) behind) rows → AreFirstPages (before ++ behind) rows
left_end before behind ms k rows past are =
    subst (λ (xs : List Mapping). AreFirstPages (between before xs behind) rows) (drop_all k ms past) are

pub came_end : (before behind ms : List Mapping) (k : ℕ) (rows : List FirstPagesState) → length ms ≤ k → AreFirstPages (between before (take k ms) behind) rows → AreFirstPages (between before ms behind) rows
came_end before behind ms k rows past are =
    subst (λ (xs : List Mapping). AreFirstPages (between before xs behind) rows) (take_all k ms past) are

-- what holds of the index where one moved, and of each other, holds of each
each : (P : FirstPagesState → FirstPagesState → Type 0) (index : ℕ) (rows after : List FirstPagesState) → P (first_pages_at rows index) (first_pages_at after index) →
    ((p : FirstPagesState) → P p p) → AreSameElsewhere index rows after → (other : ℕ) → P (first_pages_at rows other) (first_pages_at after other)
each P index rows after here same others other =
    elim (eqb other index) as (λ t. eqb other index ≡ t → P (first_pages_at rows other) (first_pages_at after other)) [
      | true ↦ (λ e. subst (λ (i : ℕ). P (first_pages_at rows i) (first_pages_at after i)) (sym (eqb-true _ _ e)) here)
      | false ↦ (λ e. subst (λ (p : FirstPagesState). P (first_pages_at rows other) p) (sym (others other (eqb-false _ _ e))) (same (first_pages_at rows other)))
    ] refl

-- no index has more, once one left
pub fewer : (index page : ℕ) (rows after : List FirstPagesState) → first_pages_at after index ≡ page_removed page (first_pages_at rows index) → AreSameElsewhere index rows after →
    (other : ℕ) → (first_pages_at after other).count ≤ (first_pages_at rows other).count
fewer index page rows after here others =
    each (λ p q. q.count ≤ p.count) index rows after (rw here (omega arith)) (λ p. omega arith) others

-- nor more than one more, once one came
pub one_more_at : (index page : ℕ) (rows after : List FirstPagesState) → first_pages_at after index ≡ page_added page (first_pages_at rows index) → AreSameElsewhere index rows after →
    (other : ℕ) → (first_pages_at after other).count ≤ (first_pages_at rows other).count + 1
one_more_at index page rows after here others =
    each (λ p q. q.count ≤ p.count + 1) index rows after (rw here (omega arith)) (λ p. omega arith) others

-- the table has a row for a mapping of a buffer
pub has_row : (ms : List Mapping) (k : ℕ) (m : Mapping) (id : BufferId) (page rows : ℕ) → k < length ms → m ≡ get_or ms k m → m.backing ≡ Buffer id page →
    All (λ m. HasRow rows m.backing) ms → id.index < rows
has_row ms k m id page rows within is of all = subst (HasRow rows) of (subst (λ (x : Mapping). HasRow rows x.backing) (sym is) (all k m within))
