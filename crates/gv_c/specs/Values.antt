-- What the numbers that cross to C stand for.
use Rattle.std.specs.Prelude.{ℕ, true, false, ◌==◌, ◌*◌, ◌%◌, ◌^◌, if◌then◌else◌, List, [], ◌∷◌, Bool, Option, Some, None, unwrap_or}
use Rattle.std.specs.Option.{option_map}
use Rattle.gv_types.specs.Fault.{number_of, carried_by}
use Rattle.gv_types.specs.Mapping.{buffer_id}
use Rattle.gv_types.specs.Page.{bytes_per_page}
use Rattle.gv_types.specs.declared.mapping.Backing.{Backing}
use Rattle.gv_types.specs.declared.mapping.Backing.TheVariants.{Buffer as OfBuffer, Zero as OfZeros}
use Rattle.gv_types.specs.declared.mapping.BufferId.{BufferId}
use Rattle.gv_types.specs.declared.mapping.Flags.{Flags}
use Rattle.gv_types.specs.declared.mapping.Mapping.{Mapping}
use Rattle.gv_types.specs.declared.operation.Op.{Op}
use Rattle.gv_types.specs.declared.operation.Op.TheVariants.{Map, MapZero, Unmap, UnmapBuffer}
use Rattle.gv_types.specs.declared.request.Point.{Point}
use Rattle.gv_split.specs.declared.step.Step.{Step}
use Rattle.gv_split.specs.declared.step.Step.TheVariants.{Unmap as StepUnmap, Remap as StepRemap, Map as StepMap}
use Rattle.gv_vm.specs.declared.outcome.Outcome.{Outcome}
use Rattle.gv_vm.specs.declared.outcome.Outcome.TheVariants.{Accepted, Refused, NotReady}
use Rattle.gv_vm.specs.declared.places.Place.{Place}
use Rattle.gv_vm.specs.declared.places.Target.{Target}
use Rattle.gv_vm.specs.declared.places.Target.TheVariants.{Buffer as IsOfBuffer, Zero as IsZero}
use Rattle.gv_c.specs.declared.values.Buffer.{Buffer}
use Rattle.gv_c.specs.declared.values.Operation.{Operation}
use Rattle.gv_c.specs.declared.values.SyncPoint.{SyncPoint}
use Rattle.gv_c.specs.declared.space_values.Translation.{Translation}
use Rattle.gv_c.specs.declared.space_values.ListedMapping.{ListedMapping}
use Rattle.gv_c.specs.declared.space_values.SplitStep.{SplitStep}
use Rattle.gv_c.specs.declared.space_values.BufferUses.{BufferUses}
use Rattle.gv_c.specs.declared.outcome.RequestOutcome.{RequestOutcome}

-- Buffers.

abbrev pub c_buffer : BufferId → Buffer
c_buffer id = record { generation = id.generation; index = id.index; made = 1 }

abbrev pub no_buffer : Buffer
no_buffer = record { generation = 0; index = 0; made = 0 }

-- an id that no buffer has: its index is past every table of buffers
abbrev pub nobody : BufferId
nobody = buffer_id 4294967295 0

abbrev pub id_of : Buffer → BufferId
id_of b = if b.made == 1 then buffer_id b.index b.generation else nobody

-- Operations.

abbrev pub c_flags : Flags → ℕ
c_flags f = if f.read_only then 1 else 0

-- bit 0 is `read_only`, and there is no other
abbrev pub flags_of : ℕ → Option Flags
flags_of bits =
    if bits == 0 then Some (record { read_only = false })
    else if bits == 1 then Some (record { read_only = true })
    else None

-- the kinds are 1 to 4; an unmap takes no flags
abbrev pub op_of : Operation → Option Op
op_of o =
    if o.kind == 1 then option_map (λ flags. Map o.start o.size (id_of o.buffer) o.offset flags) (flags_of o.flags)
    else if o.kind == 2 then option_map (λ flags. MapZero o.start o.size flags) (flags_of o.flags)
    else if o.kind == 3 then (if o.flags == 0 then Some (Unmap o.start o.size) else None)
    else if o.kind == 4 then (if o.flags == 0 then Some (UnmapBuffer (id_of o.buffer)) else None)
    else None

abbrev pub also : {Y : Type 0} → Option Y → Option (List Y) → Option (List Y)
also None ys = None
also (Some y) None = None
also (Some y) (Some ys) = Some (y ∷ ys)

-- what each is, if each is something
abbrev pub all_of : {X Y : Type 0} → (X → Option Y) → List X → Option (List Y)
all_of f [] = Some []
all_of f (x ∷ xs) = also (f x) (all_of f xs)

-- each is an operation
abbrev pub ops_of : List Operation → Option (List Op)
ops_of operations = all_of op_of operations

abbrev pub point_of : SyncPoint → Point
point_of p = record { timeline = p.timeline; value = p.value }

abbrev pub c_point : Point → SyncPoint
c_point p = record { timeline = p.timeline; value = p.value }

abbrev pub no_point : SyncPoint
no_point = record { timeline = 0; value = 0 }

-- What became of a request.

abbrev pub no_outcome : RequestOutcome
no_outcome = record { kind = 0; fault = 0; number = 0; entry = 0; op = 0; carried = 0; point = no_point; have = 0 }

abbrev pub c_outcome : ℕ → Outcome → RequestOutcome
c_outcome number (Accepted entry) = record no_outcome { kind = 1; number = number; entry = entry }
c_outcome number (Refused op fault) =
    record no_outcome { kind = 2; number = number; op = op; fault = number_of fault; carried = unwrap_or (carried_by fault) 0 }
c_outcome number (NotReady point have) = record no_outcome { kind = 3; number = number; point = c_point point; have = have }

-- it stays on its queue
abbrev pub pending : ℕ → RequestOutcome
pending number = record no_outcome { kind = 4; number = number }

-- where an address leads, and for how many bytes

abbrev pub c_target : Target → Flags → ℕ → Translation
c_target (IsOfBuffer id byte) flags run = record { kind = 1; flags = c_flags flags; run = run; buffer = c_buffer id; byte = byte }
c_target IsZero flags run = record { kind = 2; flags = c_flags flags; run = run; buffer = no_buffer; byte = 0 }

abbrev pub c_place : Option Place → ℕ → Translation
c_place None run = record { kind = 0; flags = 0; run = run; buffer = no_buffer; byte = 0 }
c_place (Some p) run = c_target p.target p.flags run

-- Mappings and steps. A buffer has at most 2^36 pages, so no offset of a mapping wraps.

abbrev pub no_mapping : ListedMapping
no_mapping = record { kind = 0; flags = 0; start = 0; size = 0; buffer = no_buffer; offset = 0 }

abbrev pub c_backed : Backing → ListedMapping → ListedMapping
c_backed (OfBuffer id page) m = record m { kind = 1; buffer = c_buffer id; offset = (page * bytes_per_page) % 2 ^ 64 }
c_backed OfZeros m = record m { kind = 2 }

abbrev pub c_mapping : Mapping → ListedMapping
c_mapping m = c_backed m.backing (record no_mapping {
  flags = c_flags m.flags;
  start = m.range.first * bytes_per_page;
  size = m.range.count * bytes_per_page;
})

abbrev pub c_rest : Option Mapping → ListedMapping
c_rest None = no_mapping
c_rest (Some m) = c_mapping m

abbrev pub bit : Bool → ℕ
bit b = if b then 1 else 0

abbrev pub c_step : Step → SplitStep
c_step (StepUnmap m keep) = record { kind = 1; keep = bit keep; mapping = c_mapping m; prev = no_mapping; next = no_mapping }
c_step (StepRemap m prev next keep) =
    record { kind = 2; keep = bit keep; mapping = c_mapping m; prev = c_rest prev; next = c_rest next }
c_step (StepMap m) = record { kind = 3; keep = 0; mapping = c_mapping m; prev = no_mapping; next = no_mapping }

abbrev pub no_uses : BufferUses
no_uses = record { pages = 0; mapped = 0; kept = 0 }
