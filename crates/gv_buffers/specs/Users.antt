-- The jobs that use one buffer, and which of them conflict.
use Rattle.std.specs.Prelude.{◌≡◌, ◌≢◌, ℕ, Bool, true, false, not, ◌&&◌, ◌||◌, ◌==◌, if◌then◌else◌, min, List, [], ◌∷◌, map, filter, Option}
use Rattle.std.specs.List.{AllPairs, reduce}
use Rattle.gv_buffers.specs.declared.usage.Usage.{Usage}
use Rattle.gv_buffers.specs.declared.usage.Usage.TheVariants.{Read, Write}
use Rattle.gv_buffers.specs.declared.usage.User.{User}

abbrev pub is_write : Usage → Bool
is_write Read = false
is_write Write = true

-- `Write` if either is
abbrev pub stronger : Usage → Usage → Usage
stronger Read other = other
stronger Write other = Write

-- another job than this one, and one of the two writes
abbrev pub conflicts : ℕ → Usage → User → Bool
conflicts job usage user = not (user.job == job) && (is_write usage || is_write user.usage)

-- the least job that conflicts with such a use
abbrev pub conflict : ℕ → Usage → List User → Option ℕ
conflict job usage users = reduce min (map (λ user. user.job) (filter (conflicts job usage) users))

-- the users with one more, or with the stronger usage where the job is one of them already
abbrev pub joined : ℕ → Usage → List User → List User
joined job usage [] = record { job = job; usage = usage } ∷ []
joined job usage (user ∷ users) =
    if user.job == job then record user { usage = stronger user.usage usage } ∷ users
    else user ∷ joined job usage users

-- the users without a job
abbrev pub users_without : ℕ → List User → List User
users_without job = filter (λ user. not (user.job == job))

-- two users of one buffer: different jobs, neither of which writes
pub record AreCompatible (a b : User) : Type 0 where
  pub apart : a.job ≢ b.job
  pub first_reads : a.usage ≡ Read
  pub second_reads : b.usage ≡ Read

-- a job that writes the buffer is its only user
abbrev pub HaveNoConflict : List User → Type 0
HaveNoConflict = AllPairs AreCompatible
