-- The accesses of a job.
use Rattle.std.specs.Prelude.{ℕ, List, [], ◌∷◌, Option, None, if◌then◌else◌, codes, bytes_eq}
use Rattle.gv_lines.specs.OptionSteps.{◌>>=◌, all_read}
use Rattle.gv_lines.specs.Words.{first_number, ended}
use Rattle.gv_lines.specs.declared.job.Access.{Access}
use Rattle.gv_lines.specs.declared.job.Access.TheVariants.{Read, Write}

-- read NUM
abbrev pub read_access : List (List ℕ) → Option Access
read_access words = do
  addr ← first_number words
  ended addr.1 (Read addr.0)

-- write NUM
abbrev pub write_access : List (List ℕ) → Option Access
write_access words = do
  addr ← first_number words
  ended addr.1 (Write addr.0)

-- ACCESS, by its first word
abbrev pub access_of : List (List ℕ) → Option Access
access_of [] = None
access_of (first ∷ more) =
    if bytes_eq first (codes "read") then read_access more
    else if bytes_eq first (codes "write") then write_access more
    else None

-- the accesses that these clauses are read as
abbrev pub accesses_read : List (List (List ℕ)) → Option (List Access)
accesses_read parts = all_read access_of parts
