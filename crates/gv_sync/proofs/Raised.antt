-- Laws of specs/Raises.antt: a timeline after raises is the greatest of them, or 0.
use Rattle.std.proofs.Common.{◌≡◌, ◌≢◌, ℕ, zero, suc, ◌<◌, ◌≤◌, List, [], ◌∷◌, ◌++◌, Bool, true, false, nat_eq, cond, length, get_or, set, max, map, filter, slice_index, slice_set, sym, refl, ap, ◌∙◌, subst, inl, inr, ⊎_elim, le_trans, arith, append-nil, Contains}
use Rattle.std.proofs.lemmas.List.{get_or-set_same, get_or-set_other, map-append}
use Rattle.std.proofs.lemmas.List.Elements.{filter-append}
use Rattle.std.proofs.lemmas.Bool.Decides.{eqb_tells}
use Rattle.std.proofs.Math.Nat.{le-max_left, le-max_right, max_comm, max-eq_left, max-eq_right}
use Rattle.std.proofs.Math.ListN.{length-set}
use native.Mathlib.Decide.{dec_le}
use Rattle.gv_types.specs.declared.request.Point.{Point}
use Rattle.gv_sync.specs.Raises.{raised, values_on, IsAfter}
use Rattle.gv_sync.specs.Laws.{RaisedIsGreatest, RaisedIsReached, RaisedOnceMore}

max-max : (a b c : ℕ) → max a (max b c) ≡ max (max a b) c
max-max a b c = omega arith

pub once_more : RaisedOnceMore
once_more [] value = max_comm value 0
once_more (v ∷ values) value =
    ap (λ (n : ℕ). max v n) (once_more values value) ∙ max-max v (raised values) value

pub is_greatest : RaisedIsGreatest
is_greatest [] k d lt = absurd (omega (arith, lt))
is_greatest (v ∷ values) zero d lt = le-max_left v (raised values)
is_greatest (v ∷ values) (suc k) d lt =
    le_trans (is_greatest values k d (omega (arith, lt))) (le-max_right v (raised values))

contains_behind : (v : ℕ) (values : List ℕ) (n m : ℕ) → m ≡ n → Contains values n → Contains (v ∷ values) m
contains_behind v values n m e (k, lt, at) =
    (suc k, omega (arith, lt), subst (λ (x : ℕ). get_or values k x ≡ x) (sym e) at)

pub is_reached : RaisedIsReached
is_reached [] = inl refl
is_reached (v ∷ values) = elim (dec_le (raised values) v) [
  | yes low ↦ inr (0, omega arith, sym (max-eq_left low))
  | no high ↦
      let up : v ≤ raised values = omega (arith, high) in
      let top : max v (raised values) ≡ raised values = max-eq_right up in
      ⊎_elim (λ none. inl (top ∙ none)) (λ at. inr (contains_behind v values (raised values) (max v (raised values)) top at)) (is_reached values)
]

-- the values on one timeline, with one more raise at the end
module _ (timeline : ℕ) (raises : List Point) (point : Point) where
  both : values_on timeline (raises ++ point ∷ []) ≡ values_on timeline raises ++ map (λ (p : Point). p.value) (cond (nat_eq point.timeline timeline) (point ∷ []) [])
  both = ap (λ (l : List Point). map (λ (p : Point). p.value) l) (filter-append (λ (p : Point). nat_eq p.timeline timeline) raises (point ∷ [])) ∙ map-append (λ (p : Point). p.value) (filter (λ (p : Point). nat_eq p.timeline timeline) raises) (filter (λ (p : Point). nat_eq p.timeline timeline) (point ∷ []))

  pub values_on-same : nat_eq point.timeline timeline ≡ true → values_on timeline (raises ++ point ∷ []) ≡ values_on timeline raises ++ point.value ∷ []
  values_on-same e = both ∙ ap (λ (b : Bool). values_on timeline raises ++ map (λ (p : Point). p.value) (cond b (point ∷ []) [])) e

  pub values_on-other : nat_eq point.timeline timeline ≡ false → values_on timeline (raises ++ point ∷ []) ≡ values_on timeline raises
  values_on-other e = both ∙ ap (λ (b : Bool). values_on timeline raises ++ map (λ (p : Point). p.value) (cond b (point ∷ []) [])) e ∙ append-nil (values_on timeline raises)

-- numbers that are those of their raises still are, after one more
pub is_after_more : (raises : List Point) (point : Point) (numbers : List ℕ) (m : ℕ) → m ≡ max (slice_index numbers point.timeline) point.value → point.timeline < length numbers
    → IsAfter raises numbers → IsAfter (raises ++ point ∷ []) (slice_set numbers point.timeline m)
is_after_more raises point numbers m is named after timeline below =
    let old : timeline < length numbers = subst (λ (n : ℕ). timeline < n) (length-set numbers point.timeline m) below in
    ⊎_elim
    (λ (w : (nat_eq point.timeline timeline ≡ true) × (point.timeline ≡ timeline)).
    ap (λ (k : ℕ). get_or (set numbers point.timeline m) k 0) (sym w.1) ∙ (get_or-set_same numbers point.timeline m 0 named
    ∙ (is ∙ (ap (λ (k : ℕ). max (slice_index numbers k) point.value) w.1 ∙ (ap (λ (k : ℕ). max k point.value) (after timeline old)
    ∙ (sym (once_more (values_on timeline raises) point.value) ∙ sym (ap raised (values_on-same timeline raises point w.0))))))))
    (λ (w : (nat_eq point.timeline timeline ≡ false) × (point.timeline ≢ timeline)).
    get_or-set_other numbers point.timeline timeline m 0 (λ e. w.1 (sym e)) ∙ (after timeline old ∙ sym (ap raised (values_on-other timeline raises point w.0))))
    (eqb_tells point.timeline timeline)
