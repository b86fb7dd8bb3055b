-- The users of a buffer in the order of their jobs. No public clause cites this module.
use Rattle.std.specs.Prelude.{ℕ, ◌<◌, nat_lt, Bool, List}
use Rattle.std.specs.List.{AllPairs, list_all}
use Rattle.gv_buffers.specs.declared.usage.User.{User}

-- each job has a lower number than those behind it
abbrev pub AreAscending : List User → Type 0
AreAscending = AllPairs (λ a b. a.job < b.job)

-- whether each job has a lower number than this one
abbrev pub are_below : ℕ → List User → Bool
are_below job users = list_all (λ user. nat_lt user.job job) users
