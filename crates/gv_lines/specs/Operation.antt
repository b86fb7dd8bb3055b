-- The operations: changes of what an address space maps.
use Rattle.std.specs.Prelude.{ℕ, Bool, true, false, List, [], ◌∷◌, Option, Some, None, if◌then◌else◌, codes, bytes_eq}
use Rattle.gv_lines.specs.OptionSteps.{◌>>=◌}
use Rattle.gv_lines.specs.Words.{first_name, first_number, ended}
use Rattle.gv_lines.specs.declared.operation.Operation.{Operation}
use Rattle.gv_lines.specs.declared.operation.Operation.TheVariants.{Map, Zero, Unmap, UnmapAll}

-- whether ro stands at the end, and nothing else may
abbrev pub read_only_end : List (List ℕ) → Option Bool
read_only_end [] = Some false
read_only_end (word ∷ more) = if bytes_eq word (codes "ro") then ended more true else None

-- map ADDR LEN NAME OFFSET, or map ADDR LEN NAME OFFSET ro
abbrev pub map_operation : List (List ℕ) → Option Operation
map_operation words = do
  addr ← first_number words
  len ← first_number addr.1
  buffer ← first_name len.1
  offset ← first_number buffer.1
  read_only ← read_only_end offset.1
  Some (Map addr.0 len.0 buffer.0 offset.0 read_only)

-- zero ADDR LEN, or zero ADDR LEN ro
abbrev pub zero_operation : List (List ℕ) → Option Operation
zero_operation words = do
  addr ← first_number words
  len ← first_number addr.1
  read_only ← read_only_end len.1
  Some (Zero addr.0 len.0 read_only)

-- unmap ADDR LEN
abbrev pub unmap_operation : List (List ℕ) → Option Operation
unmap_operation words = do
  addr ← first_number words
  len ← first_number addr.1
  ended len.1 (Unmap addr.0 len.0)

-- unmapall NAME
abbrev pub unmapall_operation : List (List ℕ) → Option Operation
unmapall_operation words = do
  buffer ← first_name words
  ended buffer.1 (UnmapAll buffer.0)

-- an operation on a range of addresses, by its first word
abbrev pub range_operation : List ℕ → List (List ℕ) → Option Operation
range_operation first more =
    if bytes_eq first (codes "map") then map_operation more
    else if bytes_eq first (codes "zero") then zero_operation more
    else if bytes_eq first (codes "unmap") then unmap_operation more
    else None

-- the operation of a plan line: one on a range
abbrev pub planned_operation : List (List ℕ) → Option Operation
planned_operation [] = None
planned_operation (first ∷ more) = range_operation first more
