-- A list that is parsed item by item.
use Rattle.std.proofs.Common.{◌≡◌, List, [], ◌∷◌, ◌++◌, Option, Some, None, refl, sym, ap, append_assoc}
use Rattle.gv_lines.specs.OptionSteps.{◌>>=◌, all_read}

-- what was read so far, and what the rest is read as
abbrev pub read_behind : {A B : Type 0} → (A → Option B) → List B → List A → Option (List B)
read_behind read front more = all_read read more >>= (λ back. Some (front ++ back))

pub read_start : {A B : Type 0} (read : A → Option B) (parts : List A) → all_read read parts ≡ read_behind read [] parts
read_start {A} {B} read parts = elim (all_read read parts) as (λ (o : Option (List B)). o ≡ o >>= (λ back. Some ([] ++ back))) [ None ↦ refl | Some xs ↦ refl ]

-- one more is read
pub read_more : {A B : Type 0} (read : A → Option B) (front : List B) (part : A) (more : List A) (x : B) → read part ≡ Some x →
    read_behind read front (part ∷ more) ≡ read_behind read (front ++ x ∷ []) more
read_more {A} {B} read front part more x is =
    rw is
    (elim (all_read read more) as (λ (o : Option (List B)). (o >>= (λ xs. Some (x ∷ xs))) >>= (λ back. Some (front ++ back)) ≡ o >>= (λ back. Some ((front ++ x ∷ []) ++ back))) [
      | None ↦ refl
      | Some xs ↦ ap Some (sym (append_assoc front (x ∷ []) xs))
    ])

-- one can't be read
pub read_fails : {A B : Type 0} (read : A → Option B) (front : List B) (part : A) (more : List A) → read part ≡ None → read_behind read front (part ∷ more) ≡ None
read_fails read front part more is = rw is refl
