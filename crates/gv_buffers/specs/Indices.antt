-- Which indices are noted for a job. No public clause cites this module.
use Rattle.std.specs.Prelude.{ℕ, nat_eq, List, [], Option, Some, None, Contains}
use Rattle.std.specs.declared.hash.FoldHasher.{FoldHasher}
use Rattle.std.specs.declared.hash.BuildHasherDefault.{BuildHasherDefault}
use Rattle.std.specs.Global.{Vec}
use Rattle.std.specs.HashMap.{get, HashMap}

-- antt has no name for an alias
abbrev pub Notes : Type 0
Notes = HashMap ℕ (Vec ℕ) (BuildHasherDefault FoldHasher)

abbrev pub indices_in : Option (Vec ℕ) → List ℕ
indices_in None = []
indices_in (Some noted) = noted.items

-- the indices that are noted for a job
abbrev pub indices_of : Notes → ℕ → List ℕ
indices_of notes job = indices_in (get nat_eq notes job)

abbrev pub IsNoted : Notes → ℕ → ℕ → Type 0
IsNoted notes job index = Contains (indices_of notes job) index
