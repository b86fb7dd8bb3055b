-- What contracts see of a `Session` (`SessionState`), and of its names: what stands between two lines of a script.
use Rattle.std.specs.Prelude.{ℕ, ◌+◌, ◌≤◌, List, [], Option, map, slice_get, position, bytes_eq, option_and_then}
use Rattle.std.specs.Option.{option_map}
use Rattle.gv_types.specs.Page.{pages_per_buffer}
use Rattle.gv_types.specs.Bounds.{BoundsState, whole_area}
use Rattle.gv_types.specs.Limits.{LimitsState, greatest}
use Rattle.gv_types.specs.declared.mapping.Backing.{Backing}
use Rattle.gv_types.specs.declared.mapping.Backing.TheVariants.{Buffer, Zero}
use Rattle.gv_types.specs.declared.mapping.BufferId.{BufferId}
use Rattle.gv_types.specs.declared.mapping.Mapping.{Mapping}
use Rattle.gv_sync.specs.Seats.{most_timelines}
use Rattle.gv_vm.specs.Outcomes.{queues}
use Rattle.gv_vm.specs.World.{WorldState, new_world}
use Rattle.gv_session.specs.declared.stage.Stage.{Stage}
use Rattle.gv_session.specs.declared.stage.Stage.TheVariants.{Fresh, Begun}

-- the declared buffers in the order of their lines: each one's name and its id; a destroyed buffer's name stays
abbrev pub Buffers : Type 0
Buffers = List (List ℕ × BufferId)

-- the names alone
abbrev pub names_alone : Buffers → List (List ℕ)
names_alone buffers = map (λ entry. entry.0) buffers

-- the declared names of buffers, and for how many more there is room
pub record BufferNamesState : Type 0 where
  pub entries : Buffers
  pub room : ℕ

-- the declared names of timelines, and for how many more there is room
pub record TimelineNamesState : Type 0 where
  pub names : List (List ℕ)
  pub room : ℕ

-- the buffer of a name, if it is declared
abbrev pub buffer_named : Buffers → List ℕ → Option BufferId
buffer_named buffers name =
    option_and_then (λ index. option_map (λ entry. entry.1) (slice_get buffers index)) (position (bytes_eq name) (names_alone buffers))

-- the timeline of a name, if it is declared: that of its index
abbrev pub timeline_named : List (List ℕ) → List ℕ → Option ℕ
timeline_named names name = position (bytes_eq name) names

-- which settings may still come, the world, the declared buffers, and the declared timelines
pub record SessionState : Type 0 where
  pub stage : Stage
  pub world : WorldState
  pub buffers : Buffers
  pub timelines : List (List ℕ)

-- how many requests may wait on a queue
abbrev pub depth : ℕ
depth = 65536

-- the world of a script in these bounds and limits
abbrev pub empty_world : BoundsState → LimitsState → WorldState
empty_world area limits = new_world area limits queues depth most_timelines

-- before the first line
abbrev pub start : SessionState
start = record { stage = Fresh; world = empty_world whole_area greatest; buffers = []; timelines = [] }

-- a line has run that is neither empty, nor a comment, nor a setting
abbrev pub begun : SessionState → SessionState
begun s = record s { stage = Begun }

-- the pages are no further in a buffer than a buffer goes, so its bytes have numbers that fit
abbrev pub HavePagesThatFit : Backing → ℕ → Type 0
HavePagesThatFit (Buffer id page) count = page + count ≤ pages_per_buffer
HavePagesThatFit Zero count = Unit {0}

-- the same of a mapping
abbrev pub HasBytesThatFit : Mapping → Type 0
HasBytesThatFit m = HavePagesThatFit m.backing m.range.count
