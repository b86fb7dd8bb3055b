-- What the words of a line ask of the world, with names for ids and timelines.
use Rattle.std.specs.Prelude.{◌≡◌, ℕ, Bool, List, Option, Some}
use Rattle.std.specs.Option.{option_map}
use Rattle.gv_types.specs.declared.mapping.Flags.{Flags}
use Rattle.gv_types.specs.declared.operation.Op.{Op}
use Rattle.gv_types.specs.declared.operation.Op.TheVariants.{Map, MapZero, Unmap, UnmapBuffer}
use Rattle.gv_types.specs.declared.request.Point.{Point}
use Rattle.gv_types.specs.declared.request.Request.{Request}
use Rattle.gv_buffers.specs.declared.usage.Usage.TheVariants.{Read as ReadUsage, Write as WriteUsage}
use Rattle.gv_vm.specs.declared.jobs.Access.{Access}
use Rattle.gv_lines.specs.OptionSteps.{all_read}
use Rattle.gv_lines.specs.Clause.{operations_of, waits_of, signals_of}
use Rattle.gv_lines.specs.declared.clause.Clause.{Clause}
use Rattle.gv_lines.specs.declared.job.Access.{Access as NamedAccess}
use Rattle.gv_lines.specs.declared.job.Access.TheVariants.{Read, Write}
use Rattle.gv_lines.specs.declared.operation.Operation.{Operation}
use Rattle.gv_lines.specs.declared.operation.Operation.TheVariants.{Map as MapWords, Zero as ZeroWords, Unmap as UnmapWords, UnmapAll as UnmapAllWords}
use Rattle.gv_lines.specs.declared.point.NamedPoint.{NamedPoint}
use Rattle.gv_session.specs.State.{SessionState, Buffers, buffer_named, timeline_named}

abbrev pub flags_of : Bool → Flags
flags_of read_only = record { read_only = read_only }

-- an operation, unless its buffer's name is not declared
abbrev pub op_named : Buffers → Operation → Option Op
op_named buffers (MapWords addr len buffer offset read_only) =
    option_map (λ id. Map addr len id offset (flags_of read_only)) (buffer_named buffers buffer)
op_named buffers (ZeroWords addr len read_only) = Some (MapZero addr len (flags_of read_only))
op_named buffers (UnmapWords addr len) = Some (Unmap addr len)
op_named buffers (UnmapAllWords buffer) = option_map (λ id. UnmapBuffer id) (buffer_named buffers buffer)

-- this number on the timeline of this index
abbrev pub point_on : ℕ → ℕ → Point
point_on value timeline = record { timeline = timeline; value = value }

-- a point, unless its timeline's name is not declared
abbrev pub point_named : List (List ℕ) → NamedPoint → Option Point
point_named timelines point = option_map (point_on point.value) (timeline_named timelines point.timeline)

-- A request of these clauses: their operations, waits and signals, each in the order of the line, where every name in them
-- is declared.
pub record IsRequest (s : SessionState) (clauses : List Clause) (request : Request) : Type 0 where
  pub ops : all_read (op_named s.buffers) (operations_of clauses) ≡ Some request.ops.items
  pub waits : all_read (point_named s.timelines) (waits_of clauses) ≡ Some request.waits.items
  pub signals : all_read (point_named s.timelines) (signals_of clauses) ≡ Some request.signals.items

-- an access of a job
abbrev pub access_named : NamedAccess → Access
access_named (Read addr) = record { addr = addr; usage = ReadUsage }
access_named (Write addr) = record { addr = addr; usage = WriteUsage }
