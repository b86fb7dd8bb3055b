-- A point that was looked at, and the number that its timeline had.
use Rattle.std.specs.Prelude.{ℕ, Result, Ok, Err}
use Rattle.gv_types.specs.declared.request.Point.{Point}

pub record Sight : Type 0 where
  pub point : Point
  pub number : ℕ

abbrev pub sight : Point → ℕ → Sight
sight point number = record { point = point; number = number }

-- what a look saw, reached or not
abbrev pub sight_of : Result Sight Sight → Sight
sight_of (Ok reached) = reached
sight_of (Err lacking) = lacking

-- the number that the look saw
abbrev pub number_seen : Result Sight Sight → ℕ
number_seen look = (sight_of look).number
