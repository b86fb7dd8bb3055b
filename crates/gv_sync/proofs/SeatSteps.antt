-- What a list of raises makes of a seat.
use Rattle.std.proofs.Common.{◌≡◌, ◌≢◌, ℕ, ◌+◌, ◌<◌, ◌≤◌, List, [], ◌∷◌, ◌++◌, true, false, nat_eq, length, get_or, set, max, sym, refl, ap, ◌∙◌, subst, ⊎_elim, le_refl, le_trans, arith, append-nil, append_assoc}
use Rattle.std.proofs.lemmas.List.{get_or-set_same, get_or-set_other, length-append}
use Rattle.std.proofs.lemmas.Bool.Decides.{eqb_tells}
use Rattle.std.proofs.Math.ListN.{length-set}
use Rattle.gv_types.specs.declared.request.Point.{Point}
use Rattle.gv_sync.specs.declared.marks.Mark.{Mark}
use Rattle.gv_sync.specs.Marks.{IsNoLess, fresh_mark, mark, mark_at}
use Rattle.gv_sync.specs.Raises.{raised, values_on}
use Rattle.gv_sync.specs.Seats.{SeatState, mark_of}
use Rattle.gv_sync.specs.SeatSteps.{HasRaised, NoRaisesYet, OneMoreRaise}
use Rattle.gv_sync.proofs.Raised.{once_more, values_on-other, values_on-same}

pub none_yet : NoRaisesYet
none_yet seat = record {
  of = refl;
  raises = sym (append-nil seat.raises);
  halvings = refl;
  counted = refl;
  taken = λ t. none_taken (mark_of seat t).taken;
  raised = λ t. none_raised (mark_of seat t).raised;
  seen = λ t. le_refl _;
}
  where
    none_taken : (n : ℕ) → n ≡ n + 0
    none_taken n = omega arith

    none_raised : (n : ℕ) → n ≡ max n 0
    none_raised n = omega arith

-- one timeline after one more raise
module _ (points : List Point) (point : Point) (number : ℕ) (old seat : SeatState) (so_far : HasRaised points old seat)
    (named : point.timeline < length seat.marks) (no_less : IsNoLess (mark_of seat point.timeline) number) (t : ℕ) where
  abbrev moved : Mark
  moved = let was = mark_at seat.marks point.timeline in mark number (max was.raised point.value) (was.taken + 1)

  abbrev next : List Mark
  next = set seat.marks point.timeline moved

  abbrev all_points : List Point
  all_points = points ++ point ∷ []

  record Here : Type 0 where
    pub taken : (mark_at next t).taken ≡ (mark_of old t).taken + length (values_on t all_points)
    pub raised : (mark_at next t).raised ≡ max (mark_of old t).raised (raised (values_on t all_points))
    pub seen : (mark_of old t).seen ≤ (mark_at next t).seen

  more_taken : (new was first n m : ℕ) → new ≡ was + 1 → was ≡ first + n → m ≡ n + 1 → new ≡ first + m
  more_taken new was first n m a b c = omega (arith, a, b, c)

  more_raised : (new was first v r m : ℕ) → new ≡ max was v → was ≡ max first r → m ≡ max r v → new ≡ max first m
  more_raised new was first v r m a b c = omega (arith, a, b, c)

  on_it : nat_eq point.timeline t ≡ true → point.timeline ≡ t → Here
  on_it test e =
      let there : mark_at next t ≡ moved = ap (λ (k : ℕ). get_or next k fresh_mark) (sym e) ∙ get_or-set_same seat.marks point.timeline moved fresh_mark named in
      let same : mark_at seat.marks point.timeline ≡ mark_at seat.marks t = ap (λ (k : ℕ). mark_at seat.marks k) e in record {
        taken = more_taken _ (mark_of seat t).taken (mark_of old t).taken (length (values_on t points)) _
            (ap (λ (k : Mark). k.taken) there ∙ ap (λ (k : Mark). k.taken + 1) same) (so_far.taken t)
            (ap (λ (l : List ℕ). length l) (values_on-same t points point test) ∙ length-append (values_on t points) (point.value ∷ []));
        raised = more_raised _ (mark_of seat t).raised (mark_of old t).raised point.value (raised (values_on t points)) _
            (ap (λ (k : Mark). k.raised) there ∙ ap (λ (k : Mark). max k.raised point.value) same) (so_far.raised t)
            (ap raised (values_on-same t points point test) ∙ once_more (values_on t points) point.value);
        seen = le_trans (so_far.seen t) (subst (λ (n : ℕ). (mark_of seat t).seen ≤ n) (sym (ap (λ (k : Mark). k.seen) there)) (subst (λ (k : ℕ). (mark_of seat k).seen ≤ number) e no_less.seen));
      }

  beside : nat_eq point.timeline t ≡ false → point.timeline ≢ t → Here
  beside test ne =
      let there : mark_at next t ≡ mark_at seat.marks t = get_or-set_other seat.marks point.timeline t moved fresh_mark (λ e. ne (sym e)) in
      let values : values_on t all_points ≡ values_on t points = values_on-other t points point test in record {
        taken = ap (λ (k : Mark). k.taken) there ∙ (so_far.taken t ∙ ap (λ (l : List ℕ). (mark_of old t).taken + length l) (sym values));
        raised = ap (λ (k : Mark). k.raised) there ∙ (so_far.raised t ∙ ap (λ (l : List ℕ). max (mark_of old t).raised (raised l)) (sym values));
        seen = subst (λ (k : Mark). (mark_of old t).seen ≤ k.seen) (sym there) (so_far.seen t);
      }

  at_one : Here
  at_one = ⊎_elim (λ (w : (nat_eq point.timeline t ≡ true) × (point.timeline ≡ t)). on_it w.0 w.1)
      (λ (w : (nat_eq point.timeline t ≡ false) × (point.timeline ≢ t)). beside w.0 w.1) (eqb_tells point.timeline t)

pub one_more : OneMoreRaise
one_more points point number old seat so_far named no_less = record {
  of = so_far.of;
  raises = ap (λ (l : List Point). l ++ point ∷ []) so_far.raises ∙ append_assoc old.raises points (point ∷ []);
  halvings = so_far.halvings;
  counted = length-set seat.marks point.timeline _ ∙ so_far.counted;
  taken = λ t. (at_one points point number old seat so_far named no_less t).taken;
  raised = λ t. (at_one points point number old seat so_far named no_less t).raised;
  seen = λ t. (at_one points point number old seat so_far named no_less t).seen;
}
