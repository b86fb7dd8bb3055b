-- A reversed list begins with the last element.
use Rattle.std.proofs.Common.{◌≡◌, List, [], ◌∷◌, ◌++◌, reverse, ap, ◌∙◌}
use Rattle.std.proofs.lemmas.List.{reverse-append}

-- the last element comes first
pub last_first : {A : Type 0} (all rest : List A) (x : A) → all ≡ rest ++ x ∷ [] → reverse all ≡ x ∷ reverse rest
last_first all rest x is = ap (λ xs. reverse xs) is ∙ reverse-append rest (x ∷ [])
