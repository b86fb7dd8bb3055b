-- What a worker's seat raised: the signals that the requests it served were owed.
use Rattle.std.proofs.Common.{◌≡◌, ℕ, ◌≤◌, List, [], ◌∷◌, ◌++◌, length, map, max, nat_eq, sym, refl, ap, ◌∙◌, arith, append_assoc}
use Rattle.std.proofs.lemmas.List.{append-nil, map-append, length-append, drop-append-le}
use Rattle.std.proofs.lemmas.List.Elements.{filter-append}
use Rattle.gv_types.specs.declared.request.Point.{Point}
use Rattle.gv_types.specs.declared.request.Request.{Request}
use Rattle.gv_sync.specs.Raises.{raised, values_on}
use Rattle.gv_sync.specs.Seats.{SeatState}
use Rattle.gv_vm.specs.declared.outcome.Outcome.{Outcome}
use Rattle.gv_queues.specs.Paying.{RaisedJust, all_owed, owed}
use Rattle.gv_queues.specs.Working.{AreLeft, RaisedJustOwed}

raised-append : (xs ys : List ℕ) → raised (xs ++ ys) ≡ max (raised xs) (raised ys)
raised-append [] ys = omega arith
raised-append (x ∷ xs) ys = let h = raised-append xs ys in omega (arith, h)

values_on-append : (t : ℕ) (xs ys : List Point) → values_on t (xs ++ ys) ≡ values_on t xs ++ values_on t ys
values_on-append t xs ys = ap (λ (l : List Point). map (λ (p : Point). p.value) l) (filter-append (λ (p : Point). nat_eq p.timeline t) xs ys) ∙ map-append _ _ _

-- requests behind those that got an outcome are owed nothing
all_owed-longer : (gave : List Outcome) (taken more : List Request) → length gave ≤ length taken → all_owed gave (taken ++ more) ≡ all_owed gave taken
all_owed-longer [] taken more few = refl
all_owed-longer (g ∷ gave) [] more few = absurd (omega arith)
all_owed-longer (g ∷ gave) (r ∷ taken) more few = ap (λ (l : List Point). owed g r.signals.items ++ l) (all_owed-longer gave taken more (omega arith))

all_owed-more : (gave : List Outcome) (taken : List Request) (g : Outcome) (r : Request) → length taken ≡ length gave → all_owed (gave ++ g ∷ []) (taken ++ r ∷ []) ≡ all_owed gave taken ++ owed g r.signals.items
all_owed-more [] [] g r even = append-nil (owed g r.signals.items)
all_owed-more [] (r' ∷ taken) g r even = absurd (omega arith)
all_owed-more (g' ∷ gave) [] g r even = absurd (omega arith)
all_owed-more (g' ∷ gave) (r' ∷ taken) g r even =
    ap (λ (l : List Point). owed g' r'.signals.items ++ l) (all_owed-more gave taken g r (omega arith)) ∙ sym (append_assoc (owed g' r'.signals.items) (all_owed gave taken) (owed g r.signals.items))

-- one request more was served
pub owed_more : (gave : List Outcome) (taken : List Request) (g : Outcome) (r : Request) (old new : SeatState)
    → length taken ≡ length gave → RaisedJustOwed gave taken old → RaisedJust (owed g r.signals.items) old new → RaisedJustOwed (gave ++ g ∷ []) (taken ++ r ∷ []) new
owed_more gave taken g r old new even was step =
    let signals : List Point = owed g r.signals.items in record {
      raises = step.raises ∙ (ap (λ (l : List Point). l ++ signals) was.raises ∙ sym (all_owed-more gave taken g r even));
      raised = λ t.
          step.raised t
          ∙ (ap (λ (n : ℕ). max n (raised (values_on t signals))) (was.raised t)
          ∙ (sym (raised-append (values_on t (all_owed gave taken)) (values_on t signals))
          ∙ (ap raised (sym (values_on-append t (all_owed gave taken) signals))
          ∙ ap (λ (l : List Point). raised (values_on t l)) (sym (all_owed-more gave taken g r even)))));
    }

-- one request more was taken, and nothing is owed for it
pub owed_same : (gave : List Outcome) (taken : List Request) (r : Request) (seat : SeatState)
    → length gave ≤ length taken → RaisedJustOwed gave taken seat → RaisedJustOwed gave (taken ++ r ∷ []) seat
owed_same gave taken r seat few was =
    let longer : all_owed gave taken ≡ all_owed gave (taken ++ r ∷ []) = sym (all_owed-longer gave taken (r ∷ []) few) in record {
      raises = was.raises ∙ longer;
      raised = λ t. was.raised t ∙ ap (λ (l : List Point). raised (values_on t l)) longer;
    }

-- a seat that raised nothing more
pub owed_still : (gave : List Outcome) (taken : List Request) (old new : SeatState)
    → RaisedJustOwed gave taken old → RaisedJust [] old new → RaisedJustOwed gave taken new
owed_still gave taken old new was step = record {
  raises = step.raises ∙ (append-nil old.raises ∙ was.raises);
  raised = λ t. let a = step.raised t in let b = was.raised t in omega (arith, a, b);
}

-- one request more was taken and is left
pub left_more : (taken : List Request) (gave : List Outcome) (left : List Request) (r : Request) → AreLeft taken gave left → AreLeft (taken ++ r ∷ []) gave (left ++ r ∷ [])
left_more taken gave left r was = record {
  few = omega (arith, length-append taken (r ∷ []), was.few);
  left_is = drop-append-le (length gave) taken (r ∷ []) was.few ∙ ap (λ (l : List Request). l ++ r ∷ []) was.left_is;
}
