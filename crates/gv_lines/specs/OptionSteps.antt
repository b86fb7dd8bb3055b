-- Parsing that may fail: a next step, and all items of a list.
use Rattle.std.specs.Prelude.{List, [], ◌∷◌, Option, Some, None}

-- the next step, where there is something to go on with
infixl 10 ◌>>=◌
abbrev pub ◌>>=◌ : {A B : Type 0} → Option A → (A → Option B) → Option B
None >>= f = None
(Some x) >>= f = f x

-- what each of these is read as, if all can be read
abbrev pub all_read : {A B : Type 0} → (A → Option B) → List A → Option (List B)
all_read read [] = Some []
all_read read (first ∷ more) = do
  x ← read first
  xs ← all_read read more
  Some (x ∷ xs)
