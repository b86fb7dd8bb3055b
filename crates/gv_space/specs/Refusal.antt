-- Why an address space refuses an operation.
use Rattle.std.specs.Prelude.{ℕ, ◌+◌, ◌||◌, nat_lt, if◌then◌else◌, Option, Some, None, List, filter, length}
use Rattle.gv_types.specs.PageRange.{PageRangeState, meets}
use Rattle.gv_types.specs.Bounds.{first_fault}
use Rattle.gv_types.specs.Operation.{in_pages, range_of}
use Rattle.gv_types.specs.declared.fault.Fault.{Fault}
use Rattle.gv_types.specs.declared.fault.Fault.TheVariants.{NoBuffer, OutOfBuffer, TooManyMappings}
use Rattle.gv_types.specs.declared.mapping.Backing.{Backing}
use Rattle.gv_types.specs.declared.mapping.Backing.TheVariants.{Buffer, Zero}
use Rattle.gv_types.specs.declared.mapping.Mapping.{Mapping}
use Rattle.gv_types.specs.declared.operation.Op.{Op}
use Rattle.gv_types.specs.declared.operation.PageOp.{PageOp}
use Rattle.gv_types.specs.declared.operation.PageOp.TheVariants.{Map, Unmap, UnmapBuffer}
use Rattle.gv_ranges.specs.Edit.{edited}
use Rattle.gv_buffers.specs.Buffers.{BuffersState, pages}
use Rattle.gv_space.specs.State.{SpaceState, most_kept}

-- the first of two faults
abbrev pub first_of : Option Fault → Option Fault → Option Fault
first_of None later = later
first_of (Some fault) later = Some fault

-- no live buffer has this size, or the end is past it
abbrev pub past_end : Option ℕ → ℕ → Option Fault
past_end None end = Some NoBuffer
past_end (Some size) end = if nat_lt size end then Some OutOfBuffer else None

-- why these pages can't stand behind a mapping
abbrev pub backing_fault : BuffersState → Backing → ℕ → Option Fault
backing_fault t (Buffer id page) count = past_end (pages t id) (page + count)
backing_fault t Zero count = None

-- no live buffer has a size
abbrev pub dead_fault : Option ℕ → Option Fault
dead_fault None = Some NoBuffer
dead_fault (Some size) = None

-- why an operation's buffer refuses it
abbrev pub buffer_fault : BuffersState → PageOp → Option Fault
buffer_fault t (Map range backing flags) = backing_fault t backing range.count
buffer_fault t (Unmap range) = None
buffer_fault t (UnmapBuffer id) = dead_fault (pages t id)

-- the first fault of an operation: those of `check` in their order, then of its buffer
abbrev pub operation_fault : SpaceState → Op → Option Fault
operation_fault s op = first_of (first_fault s.area op) (buffer_fault s.buffers (in_pages op))

-- how many mappings meet a range
abbrev pub count_met : List Mapping → PageRangeState → ℕ
count_met ms range = length (filter (λ m. meets m.range range) ms)

-- why the list can't become this one by a change in the range: it would be too long, or undo values hold too much
abbrev pub limit_fault : SpaceState → PageRangeState → List Mapping → Option Fault
limit_fault s range ms =
    if nat_lt s.limits.mappings (length ms) || nat_lt most_kept (s.kept_count + count_met s.mappings range)
    then Some TooManyMappings
    else None

-- why an operation is not applied, where memory suffices
abbrev pub apply_fault : SpaceState → Op → Option Fault
apply_fault s op =
    first_of (operation_fault s op) (limit_fault s (range_of (in_pages op)) (edited s.mappings (in_pages op)))
