-- What looks and raises make of a seat, for callers that make them one by one.
use Rattle.std.proofs.Common.{◌≡◌, ◌≢◌, ℕ, ◌+◌, ◌<◌, ◌≤◌, List, map, true, false, nat_eq, length, get_or, set, sym, refl, ap, ◌∙◌, subst, ⊎_elim, le_refl, le_trans, arith}
use Rattle.std.proofs.lemmas.List.{get_or-set_same, get_or-set_other, get_or-map, get_or_past, length-map}
use Rattle.std.proofs.lemmas.Bool.Decides.{eqb_tells}
use Rattle.std.proofs.Math.ListN.{length-set}
use Rattle.gv_sync.specs.declared.marks.Mark.{Mark}
use Rattle.gv_sync.specs.Marks.{IsNoLess, fresh_mark, mark, mark_at}
use Rattle.gv_sync.specs.Seats.{SeatState, after_load, mark_of, split_from}
use native.Mathlib.Decide.{dec_lt}
use Rattle.gv_sync.specs.SeatSteps.{HasLooked}

pub no_looks : (seat : SeatState) → HasLooked seat seat
no_looks seat = record {
  of = refl;
  raises = refl;
  halvings = refl;
  counted = refl;
  raised = λ t. refl;
  seen = λ t. le_refl _;
}

pub looks_after_looks : (first second third : SeatState) → HasLooked first second → HasLooked second third → HasLooked first third
looks_after_looks first second third a b = record {
  of = b.of ∙ a.of;
  raises = b.raises ∙ a.raises;
  halvings = b.halvings ∙ a.halvings;
  counted = b.counted ∙ a.counted;
  raised = λ t. b.raised t ∙ a.raised t;
  seen = λ t. le_trans (a.seen t) (b.seen t);
}

-- one timeline after one load
module _ (timeline number : ℕ) (old : SeatState) (named : timeline < length old.marks) (no_less : IsNoLess (mark_of old timeline) number) (t : ℕ) where
  abbrev moved : Mark
  moved = let was = mark_at old.marks timeline in mark number was.raised (was.taken + 1)

  abbrev next : List Mark
  next = set old.marks timeline moved

  record Here : Type 0 where
    pub raised : (mark_at next t).raised ≡ (mark_of old t).raised
    pub seen : (mark_of old t).seen ≤ (mark_at next t).seen

  on_it : timeline ≡ t → Here
  on_it e =
      let there : mark_at next t ≡ moved = ap (λ (k : ℕ). get_or next k fresh_mark) (sym e) ∙ get_or-set_same old.marks timeline moved fresh_mark named in record {
        raised = ap (λ (k : Mark). k.raised) there ∙ ap (λ (k : ℕ). (mark_at old.marks k).raised) e;
        seen = subst (λ (n : ℕ). (mark_of old t).seen ≤ n) (sym (ap (λ (k : Mark). k.seen) there)) (subst (λ (k : ℕ). (mark_of old k).seen ≤ number) e no_less.seen);
      }

  beside : timeline ≢ t → Here
  beside ne =
      let there : mark_at next t ≡ mark_at old.marks t = get_or-set_other old.marks timeline t moved fresh_mark (λ e. ne (sym e)) in record {
        raised = ap (λ (k : Mark). k.raised) there;
        seen = subst (λ (k : Mark). (mark_of old t).seen ≤ k.seen) (sym there) (le_refl (mark_of old t).seen);
      }

  at_one : Here
  at_one = ⊎_elim (λ (w : (nat_eq timeline t ≡ true) × (timeline ≡ t)). on_it w.1) (λ (w : (nat_eq timeline t ≡ false) × (timeline ≢ t)). beside w.1) (eqb_tells timeline t)

-- a load of a timeline is a look
pub one_look : (timeline number : ℕ) (old : SeatState) → timeline < length old.marks → IsNoLess (mark_of old timeline) number → HasLooked old (after_load old timeline number)
one_look timeline number old named no_less = record {
  of = refl;
  raises = refl;
  halvings = refl;
  counted = length-set old.marks timeline _;
  raised = λ t. (at_one timeline number old named no_less t).raised;
  seen = λ t. (at_one timeline number old named no_less t).seen;
}

abbrev unraised : Mark → Mark
unraised m = mark m.seen 0 0

-- a seat that was split off raised nothing
pub split_raised : (seat : SeatState) (timeline : ℕ) → (mark_of (split_from seat) timeline).raised ≡ 0
split_raised seat timeline = elim (dec_lt timeline (length seat.marks)) [
  | yes low ↦ ap (λ (k : Mark). k.raised) (get_or-map unraised seat.marks timeline fresh_mark fresh_mark low)
  | no high ↦ (
      let past : length (map unraised seat.marks) ≤ timeline = omega (arith, length-map seat.marks unraised, high) in
      ap (λ (k : Mark). k.raised) (get_or_past (map unraised seat.marks) timeline fresh_mark past))
]
