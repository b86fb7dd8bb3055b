-- The shares of all seats are one whole: at first, after a step and after a split. So no seat comes from elsewhere, and one that has the whole is the only one.
use Rattle.std.proofs.Common.{◌≡◌, ◌≢◌, ℕ, zero, suc, ◌+◌, ◌-◌, ◌^◌, ◌<◌, ◌≤◌, List, [], ◌∷◌, ◌++◌, set, sum_by, slice_index, sym, refl, ap, ◌∙◌, subst, ⊎_elim, arith}
use Rattle.std.proofs.lemmas.List.Sums.{sum_by-cons, sum_by_push}
use Rattle.std.proofs.lemmas.Nat.{pow_pos}
use Rattle.std.proofs.Math.Nat.{two-pow-succ}
use mathlib.Core.Option.{some, some-injective, some-ne-none}
use native.Mathlib.Decide.{ℕ_discrete}
use lib.ListN.{get_elem?}
use Rattle.atomic_table.specs.Table.{State}
use Rattle.atomic_table.proofs.Lists.{at_longer, set_else}
use Rattle.gv_sync.specs.declared.marks.SeatKnowledge.{SeatKnowledge}
use Rattle.gv_sync.specs.Marks.{first_known, known_after_split, known_split_off, mark_at}
use Rattle.gv_sync.specs.Rule.{AreHalvedAtMost, AreOneWhole, IsOwnRaise, Knows, SeatsAgree, share}
use Rattle.gv_sync.specs.Laws.{NoSeatFromElsewhere, WholeIsTheOnlySeat}

pub at_set_here : (l : List SeatKnowledge) (i : ℕ) (x y : SeatKnowledge) → get_elem? l i ≡ some x → get_elem? (set l i y) i ≡ some y
at_set_here [] i x y e = absurd (some-ne-none x (sym e))
at_set_here (z ∷ l) zero x y e = refl
at_set_here (z ∷ l) (suc i) x y e = at_set_here l i x y e

-- sums, as numbers
first_of : (new old v w x rest : ℕ) → new ≡ w + rest → old ≡ x + rest → x ≡ v → new + v ≡ old + w
first_of new old v w x rest a b e = omega (arith, a, b, e)

behind : (new old v w x rest rest' : ℕ) → new ≡ x + rest' → old ≡ x + rest → rest' + v ≡ rest + w → new + v ≡ old + w
behind new old v w x rest rest' a b e = omega (arith, a, b, e)

module _ (f : SeatKnowledge → ℕ) where
  replaced : (l : List SeatKnowledge) (i : ℕ) (v w : SeatKnowledge) → get_elem? l i ≡ some v → sum_by f (set l i w) + f v ≡ sum_by f l + f w
  replaced [] i v w e = absurd (some-ne-none v (sym e))
  replaced (x ∷ l) zero v w e = first_of _ _ (f v) (f w) (f x) (sum_by f l) (sum_by-cons f w l) (sum_by-cons f x l) (ap f (some-injective x v e))
  replaced (x ∷ l) (suc i) v w e = behind _ _ (f v) (f w) (f x) (sum_by f l) (sum_by f (set l i w)) (sum_by-cons f x (set l i w)) (sum_by-cons f x l) (replaced l i v w e)

  more_than : (a b x rest total : ℕ) → total ≡ x + rest → a ≡ x → b ≤ rest → a + b ≤ total
  more_than a b x rest total t e le = omega (arith, t, e, le)

  least_of : (a x rest total : ℕ) → total ≡ x + rest → a ≤ rest → a ≤ total
  least_of a x rest total t le = omega (arith, t, le)

  turned : (a b total : ℕ) → b + a ≤ total → a + b ≤ total
  turned a b total le = omega (arith, le)

  one_in : (l : List SeatKnowledge) (i : ℕ) (v : SeatKnowledge) → get_elem? l i ≡ some v → f v ≤ sum_by f l
  one_in [] i v e = absurd (some-ne-none v (sym e))
  one_in (x ∷ l) zero v e = first_in (f v) (f x) (sum_by f l) _ (sum_by-cons f x l) (ap f (sym (some-injective x v e)))
    where
      first_in : (a x rest total : ℕ) → total ≡ x + rest → a ≡ x → a ≤ total
      first_in a x rest total t e = omega (arith, t, e)
  one_in (x ∷ l) (suc i) v e = least_of (f v) (f x) (sum_by f l) _ (sum_by-cons f x l) (one_in l i v e)

  two_in : (l : List SeatKnowledge) (i j : ℕ) (v u : SeatKnowledge) → i ≢ j → get_elem? l i ≡ some v → get_elem? l j ≡ some u → f v + f u ≤ sum_by f l
  two_in [] i j v u ne at_i at_j = absurd (some-ne-none v (sym at_i))
  two_in (x ∷ l) zero zero v u ne at_i at_j = absurd (ne refl)
  two_in (x ∷ l) zero (suc j) v u ne at_i at_j = more_than (f v) (f u) (f x) (sum_by f l) _ (sum_by-cons f x l) (ap f (sym (some-injective x v at_i))) (one_in l j u at_j)
  two_in (x ∷ l) (suc i) zero v u ne at_i at_j = turned (f v) (f u) _ (more_than (f u) (f v) (f x) (sum_by f l) _ (sum_by-cons f x l) (ap f (sym (some-injective x u at_j))) (one_in l i v at_i))
  two_in (x ∷ l) (suc i) (suc j) v u ne at_i at_j = least_of (f v + f u) (f x) (sum_by f l) _ (sum_by-cons f x l) (two_in l i j v u (λ e. ne (ap suc e)) at_i at_j)

-- some number bounds all halvings
abbrev most_of : List SeatKnowledge → ℕ
most_of seats = sum_by (λ (k : SeatKnowledge). k.halvings) seats

at_most : (seats : List SeatKnowledge) → AreHalvedAtMost (most_of seats) seats
at_most seats j u at = one_in (λ (k : SeatKnowledge). k.halvings) seats j u at

uncut : (n : ℕ) → n - 0 ≡ n
uncut n = omega arith

whole_share : (most : ℕ) (k : SeatKnowledge) → k.halvings ≡ 0 → share most k ≡ 2 ^ most
whole_share most k e = ap (λ (h : ℕ). 2 ^ (most - h)) e ∙ ap (λ (n : ℕ). 2 ^ n) (uncut most)

pub opened : (count : ℕ) → AreOneWhole (first_known count ∷ [])
opened count most top = plain (share most (first_known count)) ∙ whole_share most (first_known count) refl
  where
    plain : (n : ℕ) → 0 + n ≡ n
    plain n = omega arith

-- a seat whose share is halved no less than before shows the same bound
module _ (seats : List SeatKnowledge) (seat : ℕ) (before after : SeatKnowledge) (here : get_elem? seats seat ≡ some before) (no_less : before.halvings ≤ after.halvings) (most : ℕ) where
  tops : AreHalvedAtMost most (set seats seat after) → AreHalvedAtMost most seats
  tops top j u at = elim (ℕ_discrete j seat) [
    | yes e ↦
        let same : before ≡ u = some-injective before u (sym here ∙ subst (λ (k : ℕ). get_elem? seats k ≡ some u) e at) in
        let b : ℕ = before.halvings in let a : ℕ = after.halvings in let m : ℕ = most in
        let le : b ≤ a = no_less in
        let up : a ≤ m = top seat after (at_set_here seats seat before after here) in
        let low : b ≤ m = omega (arith, le, up) in
        subst (λ (k : SeatKnowledge). k.halvings ≤ most) same low
    | no ne ↦ top j u (set_else seats seat j after ne ∙ at)
  ]

evened : (new old v w whole : ℕ) → new + v ≡ old + w → w ≡ v → old ≡ whole → new ≡ whole
evened new old v w whole a e b = omega (arith, a, e, b)

pub stepped_on : (seats : List SeatKnowledge) (seat : ℕ) (before after : SeatKnowledge) → get_elem? seats seat ≡ some before → after.halvings ≡ before.halvings → AreOneWhole seats → AreOneWhole (set seats seat after)
stepped_on seats seat before after here same whole most top =
    let le : before.halvings ≤ after.halvings = omega (arith, same) in
    evened _ _ (share most before) (share most after) (2 ^ most) (replaced (share most) seats seat before after here)
    (ap (λ (h : ℕ). 2 ^ (most - h)) same) (whole most (tops seats seat before after here le most top))

-- the two halves of a share
halves : (most h : ℕ) → h + 1 ≤ most → 2 ^ (most - h) ≡ 2 ^ (most - (h + 1)) + 2 ^ (most - (h + 1))
halves most h le =
    let e : most - h ≡ suc (most - (h + 1)) = omega (arith, le) in
    ap (λ (n : ℕ). 2 ^ n) e ∙ two-pow-succ (most - (h + 1))

joined : (all left old v half whole : ℕ) → all ≡ left + half → left + v ≡ old + half → v ≡ half + half → old ≡ whole → all ≡ whole
joined all left old v half whole a b c d = omega (arith, a, b, c, d)

pub halved : (seats : List SeatKnowledge) (seat : ℕ) (before : SeatKnowledge) → get_elem? seats seat ≡ some before → AreOneWhole seats → AreOneWhole (set seats seat (known_after_split before) ++ known_split_off before ∷ [])
halved seats seat before here whole most top =
    let mine : SeatKnowledge = known_after_split before in
    let given : SeatKnowledge = known_split_off before in
    let left : List SeatKnowledge = set seats seat mine in
    let left_top : AreHalvedAtMost most left = λ j u at. top j u (at_longer left (given ∷ []) j u at) in
    let le : before.halvings ≤ before.halvings + 1 = omega arith in
    joined _ _ _ (share most before) (share most mine) (2 ^ most) (sum_by_push (share most) left given) (replaced (share most) seats seat before mine here)
    (halves most before.halvings (left_top seat mine (at_set_here seats seat before mine here))) (whole most (tops seats seat before mine here le most left_top))

too_many : {X : Type 0} (whole a b total : ℕ) → a ≡ whole → 0 < b → a + b ≤ total → total ≡ whole → X
too_many whole a b total e pos le t = absurd (omega (arith, e, pos, le, t))

pub only_seat : WholeIsTheOnlySeat
only_seat count seat other known u s kept here uncut_here at = elim (ℕ_discrete other seat) [
  | yes e ↦ e
  | no ne ↦
      let most : ℕ = most_of s.views in
      too_many (2 ^ most) (share most known) (share most u) (sum_by (share most) s.views) (whole_share most known uncut_here) (pow_pos (most - u.halvings))
      (two_in (share most) s.views seat other known u (λ e. ne (sym e)) here at) (kept.shared most (at_most s.views))
]

-- where a seat has the whole, a number is what it raised it to
pub own_raise : (count seat timeline : ℕ) (known : SeatKnowledge) (s : State ℕ SeatKnowledge) → SeatsAgree count s → Knows s.views seat known → IsOwnRaise known timeline (slice_index s.words timeline)
own_raise count seat timeline known s kept here uncut_here = ⊎_elim
    (λ (none : slice_index s.words timeline ≡ 0). lowest _ _ _ none ((kept.within seat known here).raised timeline) ((kept.within seat known here).seen timeline))
    (λ (w : (j : ℕ) × (u : SeatKnowledge) × (get_elem? s.views j ≡ some u) × ((mark_at u.marks timeline).raised ≡ slice_index s.words timeline)).
    let e : w.0 ≡ seat = only_seat count seat w.0 known w.1 s kept here uncut_here w.2 in
    let same : known ≡ w.1 = some-injective known w.1 (sym here ∙ subst (λ (k : ℕ). get_elem? s.views k ≡ some w.1) e w.2) in
    sym (ap (λ (k : SeatKnowledge). (mark_at k.marks timeline).raised) same ∙ w.3))
    (kept.raised timeline)
  where
    lowest : (word raised seen : ℕ) → word ≡ 0 → raised ≤ seen → seen ≤ word → word ≡ raised
    lowest word raised seen e a b = omega (arith, e, a, b)

pub none_from_elsewhere : NoSeatFromElsewhere
none_from_elsewhere count s next known kept is more =
    let all : List SeatKnowledge = s.views ++ known ∷ [] in
    let most : ℕ = most_of all in
    let old_top : AreHalvedAtMost most s.views = λ j u at. at_most all j u (at_longer s.views (known ∷ []) j u at) in
    let more_shared : AreOneWhole all = subst (λ (l : List SeatKnowledge). AreOneWhole l) is more.shared in
    none_left (2 ^ most) (sum_by (share most) s.views) (share most known) (sum_by (share most) all) (kept.shared most old_top) (pow_pos (most - known.halvings)) (sum_by_push (share most) s.views known) (more_shared most (at_most all))
  where
    none_left : (whole old b total : ℕ) → old ≡ whole → 0 < b → total ≡ old + b → total ≡ whole → ⊥
    none_left whole old b total e pos t f = absurd (omega (arith, e, pos, t, f))
