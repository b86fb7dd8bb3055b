-- What an address space holds, and what always holds of it.
use Rattle.std.specs.Prelude.{◌≡◌, ℕ, ◌+◌, ◌^◌, ◌≤◌, true, false, List, [], length, IsSomeAnd}
use Rattle.std.specs.List.{All}
use Rattle.gv_types.specs.PageRange.{lies_in}
use Rattle.gv_types.specs.Bounds.{BoundsState, meets_region}
use Rattle.gv_types.specs.Limits.{LimitsState, IsWithin}
use Rattle.gv_types.specs.declared.mapping.Backing.{Backing}
use Rattle.gv_types.specs.declared.mapping.Backing.TheVariants.{Buffer, Zero}
use Rattle.gv_types.specs.declared.mapping.Mapping.{Mapping}
use Rattle.gv_ranges.specs.List.{IsLaidOut}
use Rattle.gv_buffers.specs.Buffers.{BuffersState, pages, no_buffers, IsTable}
use Rattle.gv_table.specs.Table.{IsTree}
use Rattle.gv_table.specs.declared.page_table.PageTable.{PageTable}
use Rattle.gv_space.specs.Counts.{count_of}

-- what contracts see of a `Space`: its bounds and limits, its mappings and for how many it has room, its buffers, and
-- how many mappings undo values hold
pub record SpaceState : Type 0 where
  pub area : BoundsState
  pub limits : LimitsState
  pub mappings : List Mapping
  pub room : ℕ
  pub buffers : BuffersState
  pub kept_count : ℕ

-- undo values hold no more mappings than this
abbrev pub most_kept : ℕ
most_kept = 2 ^ 62

-- pages that stand behind a mapping are pages of a live buffer
abbrev pub LieInside : BuffersState → Backing → ℕ → Type 0
LieInside t (Buffer id page) count = IsSomeAnd (pages t id) (λ size. page + count ≤ size)
LieInside t Zero count = Unit {0}

-- a mapping lies inside the bounds, off the reserved region, and inside its live buffer
pub record IsValidMapping (a : BoundsState) (t : BuffersState) (m : Mapping) : Type 0 where
  pub in_space : lies_in m.range a.space ≡ true
  pub off_region : meets_region a.reserved m.range ≡ false
  pub inside : LieInside t m.backing m.range.count

-- all mappings kept in undo values: each is valid, `kept` counts them by buffer, and `kept_count` all of them
pub record AreKept (s : SpaceState) (ms : List Mapping) : Type 0 where
  pub valid : All (IsValidMapping s.area s.buffers) ms
  pub kept : All (λ b. b.kept ≡ count_of b.id ms) s.buffers.live
  pub kept_count : s.kept_count ≡ length ms

-- what always holds of an address space: `uses` counts its list, and `kept` some mappings that undo values hold
pub record IsSpace (s : SpaceState) : Type 0 where
  pub limits : IsWithin s.limits
  pub laid_out : IsLaidOut s.mappings
  pub few : length s.mappings ≤ s.limits.mappings
  pub valid : All (IsValidMapping s.area s.buffers) s.mappings
  pub buffers : IsTable s.buffers
  pub used : All (λ b. b.uses ≡ count_of b.id s.mappings) s.buffers.live
  pub all_kept : List Mapping
  pub are_kept : AreKept s all_kept
  pub few_kept : s.kept_count ≤ most_kept

-- a page table is the tree of the list
abbrev pub TableMatchesList : SpaceState → PageTable → Type 0
TableMatchesList s table = IsTree s.mappings table

-- an address space of no mapping and no buffer
abbrev pub new_space : BoundsState → LimitsState → SpaceState
new_space area limits =
    record { area = area; limits = limits; mappings = []; room = 0; buffers = no_buffers limits.buffers; kept_count = 0 }

-- the same, and no less room
pub record IsUnchanged (old new : SpaceState) : Type 0 where
  pub state : new ≡ record old { room = new.room }
  pub room : old.room ≤ new.room
