-- What contracts see of `Limits` (`LimitsState`): how many things of each kind an address space may hold.
use Rattle.std.specs.Prelude.{ℕ, ◌≤◌}

pub record LimitsState : Type 0 where
  pub buffers : ℕ
  pub mappings : ℕ
  pub items : ℕ
  pub told : ℕ

abbrev pub caps : ℕ → ℕ → ℕ → ℕ → LimitsState
caps buffers mappings items told = record { buffers = buffers; mappings = mappings; items = items; told = told }

-- the greatest limits
abbrev pub greatest : LimitsState
greatest = caps 65536 1048576 65536 65536

abbrev pub IsFromOneTo : ℕ → ℕ → Type 0
IsFromOneTo top n = (1 ≤ n) × (n ≤ top)

abbrev pub IsWithin : LimitsState → Type 0
IsWithin c =
    IsFromOneTo greatest.buffers c.buffers × IsFromOneTo greatest.mappings c.mappings
    × IsFromOneTo greatest.items c.items × IsFromOneTo greatest.told c.told
