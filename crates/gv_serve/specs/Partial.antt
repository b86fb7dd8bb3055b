-- A line that is not at its end yet.
use Rattle.std.specs.Prelude.{◌≡◌, ℕ, ◌<◌, Bool, true, false, List, length}

-- how many bytes a line may have, without its line end
abbrev pub line_limit : ℕ
line_limit = 1048576

-- a line has more
abbrev pub IsOver : List ℕ → Type 0
IsOver line = line_limit < length line

-- what is kept of a line, and whether it has too many bytes already
pub record PartialState : Type 0 where
  pub kept : List ℕ
  pub is_over : Bool

abbrev pub HoldsSo : Bool → List ℕ → List ℕ → Type 0
HoldsSo false kept line = kept ≡ line
HoldsSo true kept line = IsOver line

-- these are the bytes of the line so far
abbrev pub Holds : PartialState → List ℕ → Type 0
Holds p line = HoldsSo p.is_over p.kept line
