-- A derived `==` at an enum holds just where the two values are one, where that is so of their fields.
use Rattle.std.proofs.Common.{◌≡◌, Bool, false, true≢false, Decides, List, [], ◌∷◌, sym, ap, subst}
use mathlib.Core.Logic.{◌⊎◌, inl, inr}
use denote.Struct.Field.{Field}
use denote.Struct.Values.{Values}
use denote.Enum.Declared.{Choice, Record, values_one}
use denote.Enum.Compared.{Each, by}

-- each variant's function decides whether two values of its fields are the same
abbrev pub AllDecide : (Fss : List (List Field)) → Each Bool Fss → Type 0
AllDecide [] each = Unit {0}
AllDecide (Fs ∷ Fss) each = ((x y : Values Fs) → Decides (each.0 x y) (x ≡ y)) × AllDecide Fss each.1

abbrev OnLeft : {A B : Type 0} → A ⊎ B → Type 0
OnLeft (inl x) = Unit {0}
OnLeft (inr y) = ⊥

abbrev left_or : {A B : Type 0} → A → A ⊎ B → A
left_or a (inl x) = x
left_or a (inr y) = a

abbrev right_or : {A B : Type 0} → B → A ⊎ B → B
right_or b (inl x) = b
right_or b (inr y) = y

pub by_decides : (Fss : List (List Field)) (each : Each Bool Fss) → AllDecide Fss each → (c d : Choice Fss) → Decides (by false false Fss each c d) (c ≡ d)
by_decides [] each all c d = absurd c
by_decides (Fs ∷ Fss) each all (inl x) (inl y) = ((λ e. ap inl ((all.0 x y).0 e)), λ e. (all.0 x y).1 (ap (left_or x) e))
by_decides (Fs ∷ Fss) each all (inl x) (inr d) = ((λ e. absurd (true≢false (sym e))), λ e. absurd (subst OnLeft e tt))
by_decides (Fs ∷ Fss) each all (inr c) (inl y) = ((λ e. absurd (true≢false (sym e))), λ e. absurd (subst OnLeft (sym e) tt))
by_decides (Fs ∷ Fss) each all (inr c) (inr d) = ((λ e. ap inr ((by_decides Fss each.1 all.1 c d).0 e)), λ e. (by_decides Fss each.1 all.1 c d).1 (ap (right_or c) e))

-- the same of the enum's own values
pub same_decides : (N : Record) (each : Each Bool N.parts) (a b : N.D) → AllDecide N.parts each → Decides (by false false N.parts each (N.as_values a) (N.as_values b)) (a ≡ b)
same_decides N each a b all =
    let d = by_decides N.parts each all (N.as_values a) (N.as_values b) in ((λ e. values_one N a b (d.0 e)), λ e. d.1 (ap N.as_values e))
