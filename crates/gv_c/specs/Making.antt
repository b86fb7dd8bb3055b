-- Worlds that C makes and gives up.
use Rattle.std.specs.Prelude.{◌≡◌, ℕ, ◌⊎◌, Option, Some, None}
use Rattle.gv_types.specs.Bounds.{BoundsState, byte_area}
use Rattle.gv_types.specs.Limits.{LimitsState, caps, IsFromOneTo, IsWithin}
use Rattle.gv_sync.specs.Seats.{most_timelines}
use Rattle.gv_vm.specs.Outcomes.{queues}
use Rattle.gv_vm.specs.World.{WorldState, new_world}
use Rattle.gv_c.specs.Statuses.{ok, out_of_memory, bad_argument, no_vm, not_null}
use Rattle.gv_c.specs.declared.held.Held.{Held}
use Rattle.gv_c.specs.declared.values.Config.{Config}

abbrev pub limits_of : Config → LimitsState
limits_of c = caps c.buffers c.mappings c.items c.told

-- each number is in its range
pub record IsGood (c : Config) : Type 0 where
  pub limits : IsWithin (limits_of c)
  pub area : BoundsState
  pub area_is : byte_area c.start c.size c.reserved_start c.reserved_size ≡ Some area
  pub few_queues : IsFromOneTo queues c.queues
  pub depth : IsFromOneTo 65536 c.depth
  pub timelines : IsFromOneTo most_timelines c.timelines

-- a world of these limits and bounds in which nothing happened
pub record IsNew (c : Config) (w : WorldState) : Type 0 where
  pub good : IsGood c
  pub world : w ≡ new_world good.area (limits_of c) c.queues c.depth c.timelines

-- the handle was empty, and has such a world
abbrev pub HasNew : Config → Option Held → Type 0
HasNew c None = ⊥
HasNew c (Some held) = IsNew c held.world

-- what a create answers, and what the handle has then
abbrev pub IsCreated : Config → Option Held → ℕ → Option Held → Type 0
IsCreated c (Some there) status new = (status ≡ not_null) × (new ≡ Some there)
IsCreated c None status new =
    ((status ≡ ok) × HasNew c new)
    ⊎ (((status ≡ bad_argument) × (¬ IsGood c) × (new ≡ None))
    ⊎ ((status ≡ out_of_memory) × IsGood c × (new ≡ None)))

abbrev pub destroyed : Option Held → ℕ
destroyed None = no_vm
destroyed (Some held) = ok
