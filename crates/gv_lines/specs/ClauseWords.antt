-- Words cut into clauses.
use Rattle.std.specs.Prelude.{ℕ, nat_eq, if◌then◌else◌, List, [], ◌∷◌}
use Rattle.gv_lines.specs.Words.{clauses}

-- the clauses of words that are left to be cut, by the number that says how many: 0 for none, 1 for one, any other for all of them
abbrev pub clauses_left : ℕ → List (List ℕ) → List (List (List ℕ))
clauses_left left words = if nat_eq left 0 then [] else if nat_eq left 1 then words ∷ [] else clauses words
