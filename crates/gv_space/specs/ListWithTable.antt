-- What the list with its page table shows, and when each live buffer has its name there.
use Rattle.std.specs.Prelude.{◌≡◌, ◌≢◌, ℕ, List, Some, slice_get}
use Rattle.std.specs.List.{All}
use Rattle.gv_types.specs.declared.mapping.Backing.{Backing}
use Rattle.gv_types.specs.declared.mapping.Backing.TheVariants.{Buffer, Zero}
use Rattle.gv_types.specs.declared.mapping.BufferId.{BufferId}
use Rattle.gv_types.specs.declared.mapping.Mapping.{Mapping}
use Rattle.gv_ranges.specs.List.{RangeListState}
use Rattle.gv_buffers.specs.Buffers.{BuffersState, IsLive}

-- the mappings and for how many there is room, and the ids that the table's indexes stand for
pub record ListWithTableState : Type 0 where
  pub mappings : List Mapping
  pub room : ℕ
  pub names : List BufferId

-- its list
abbrev pub list_of : ListWithTableState → RangeListState
list_of m = record { mappings = m.mappings; room = m.room }

-- the index of each live buffer stands for it
abbrev pub AreLiveNamed : BuffersState → List BufferId → Type 0
AreLiveNamed t names = (id : BufferId) → IsLive t id → slice_get names id.index ≡ Some id

-- no page of a buffer with that index stands behind a mapping
abbrev pub IsApart : ℕ → Backing → Type 0
IsApart index (Buffer id page) = id.index ≢ index
IsApart index Zero = Unit {0}

abbrev pub AreApart : ℕ → List Mapping → Type 0
AreApart index = All (λ m. IsApart index m.backing)
