-- A derived `==` of outcomes holds just where they are one.
use Rattle.std.proofs.Common.{◌≡◌, ℕ, Bool, true, false, true≢false, ◌&&◌, eqb, Decides, refl, sym, ap}
use Rattle.std.proofs.lemmas.Bool.Decides.{Decides-eqb}
use Rattle.gv_queues.proofs.DerivedEquality.{AllDecide, same_decides}
use Rattle.gv_types.specs.declared.fault.Fault.{Fault}
use Rattle.gv_types.specs.contracts.fault.FaultPartialEq.TheImpl.{eq-value as fault-eq}
use Rattle.gv_types.specs.contracts.fault.Fault.{enum as fault_enum}
use Rattle.gv_types.specs.declared.request.Point.{Point}
use Rattle.gv_types.specs.contracts.request.PointPartialEq.TheImpl.{eq-value as point-eq}
use Rattle.gv_vm.specs.declared.outcome.Outcome.{Outcome}
use Rattle.gv_vm.specs.contracts.outcome.OutcomePartialEq.TheImpl.{eq-value as outcome-eq}
use Rattle.gv_vm.specs.contracts.outcome.Outcome.{enum as outcome_enum}

nat : (a b : ℕ) → Decides (eqb a b) (a ≡ b)
nat = Decides-eqb

-- a variant of no field, of one and of two
point : (x y : Unit {0}) → Decides true (x ≡ y)
point x y = ((λ _. refl), λ _. refl)

one : {A : Type 0} {E : A → A → Bool} → ((a b : A) → Decides (E a b) (a ≡ b)) → (x y : A × Unit {0}) → Decides (E x.0 y.0) (x ≡ y)
one each x y = ((λ e. let f = (each x.0 y.0).0 e in λ i. (f i, tt)), λ e. (each x.0 y.0).1 (ap (λ z. z.0) e))

both : (s t : Bool) → (s && t) ≡ true → (s ≡ true) × (t ≡ true)
both true t e = (refl, e)
both false t e = (e, absurd (true≢false (sym e)))

two : {A B : Type 0} {E : A → A → Bool} {F : B → B → Bool} → ((a b : A) → Decides (E a b) (a ≡ b)) → ((a b : B) → Decides (F a b) (a ≡ b))
    → (x y : A × (B × Unit {0})) → Decides (E x.0 y.0 && F x.1.0 y.1.0) (x ≡ y)
two {E = E} {F = F} first second x y = (
  (λ e.
      let h = both (E x.0 y.0) (F x.1.0 y.1.0) e in let f = (first x.0 y.0).0 h.0 in let g = (second x.1.0 y.1.0).0 h.1 in λ i. (f i, (g i, tt))),
  (λ e. let f = (first x.0 y.0).1 (ap (λ z. z.0) e) in let g = (second x.1.0 y.1.0).1 (ap (λ z. z.1.0) e) in λ i. f i && g i),
)

point_decides : (a b : Point) → Decides (point-eq.it a b) (a ≡ b)
point_decides a b = (
  (λ e. let h = both (eqb a.timeline b.timeline) (eqb a.value b.value) e in let f = (nat a.timeline b.timeline).0 h.0 in let g = (nat a.value b.value).0 h.1 in λ i. record { timeline = f i; value = g i }),
  (λ e. let f = (nat a.timeline b.timeline).1 (ap (λ (z : Point). z.timeline) e) in let g = (nat a.value b.value).1 (ap (λ (z : Point). z.value) e) in λ i. f i && g i),
)

fault_decides : (a b : Fault) → Decides (fault-eq.it a b) (a ≡ b)
fault_decides a b =
    let go : AllDecide fault_enum.parts _ → Decides (fault-eq.it a b) (a ≡ b) = same_decides fault_enum _ a b in
    go (point, (point, (point, (point, (point, (point, (point, (point, (one nat, (one nat, (one nat, (one nat, (point, (point, (point, (point, (point, (point, (one nat, (one nat, (one nat, (point, (one nat, (one nat, (point, (point, (point, (point, (point, (point, (one nat, (point, tt))))))))))))))))))))))))))))))))

pub outcome_decides : (a b : Outcome) → Decides (outcome-eq.it a b) (a ≡ b)
outcome_decides a b =
    let go : AllDecide outcome_enum.parts _ → Decides (outcome-eq.it a b) (a ≡ b) = same_decides outcome_enum _ a b in
    go (one nat, (two nat fault_decides, (two point_decides nat, tt)))
