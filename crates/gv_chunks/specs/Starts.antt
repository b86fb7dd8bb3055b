-- Starts of chunks. Each is the sum, which wraps, of its own number and a base of its block.
use Rattle.std.specs.Prelude.{ℕ, ◌+◌, ◌/◌, ◌%◌, ◌^◌, List, map, slice_index_or}
use Rattle.std.specs.List.{enumerate_from}
use Rattle.gv_chunks.specs.declared.TheConstants.{BLOCK}

-- the number at an index: both together, which wrap
abbrev pub sum_at : List ℕ → ℕ → ℕ → ℕ
sum_at bases k number = (number + slice_index_or bases (k / BLOCK) 0) % 2 ^ 64

-- the numbers
abbrev pub sums : List ℕ → List ℕ → List ℕ
sums numbers bases = map (λ p. sum_at bases p.0 p.1) (enumerate_from 0 numbers)

-- what contracts see of them: the numbers, and for how many each of their two vectors has room
pub record StartsState : Type 0 where
  pub numbers : List ℕ
  pub capacities : List ℕ
