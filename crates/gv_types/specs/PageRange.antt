-- What contracts see of a `PageRange` (`PageRangeState`): a run of pages, and what it covers. `span first count` makes one.
use Rattle.std.specs.Prelude.{ℕ, ◌+◌, ◌<◌, ◌≤◌, Bool, ◌&&◌, nat_lt, nat_le}
use Rattle.gv_types.specs.Page.{PAGES}

pub record PageRangeState : Type 0 where
  pub first : ℕ
  pub count : ℕ

abbrev pub span : ℕ → ℕ → PageRangeState
span first count = record { first = first; count = count }

-- the first page past the run
abbrev pub end_of : PageRangeState → ℕ
end_of s = s.first + s.count

-- at least one page, and none past the end of the address space
abbrev pub IsInSpace : PageRangeState → Type 0
IsInSpace s = (0 < s.count) × (s.first + s.count ≤ PAGES)

abbrev pub covers : PageRangeState → ℕ → Bool
covers s page = nat_le s.first page && nat_lt page (end_of s)

-- some page is in both
abbrev pub meets : PageRangeState → PageRangeState → Bool
meets s t = nat_lt s.first (end_of t) && nat_lt t.first (end_of s)

-- each page of the one is in the other
abbrev pub lies_in : PageRangeState → PageRangeState → Bool
lies_in s t = nat_le t.first s.first && nat_le (end_of s) (end_of t)

-- the test of `IsInSpace`
abbrev pub is_in_space : PageRangeState → Bool
is_in_space s = nat_lt 0 s.count && nat_le (end_of s) (PAGES)
