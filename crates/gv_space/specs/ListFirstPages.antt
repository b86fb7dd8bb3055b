-- Where the mappings of each buffer begin, as far as it is known. No public clause cites this module.
use Rattle.std.specs.Prelude.{◌≡◌, ℕ, ◌+◌, ◌<◌, ◌≤◌, ◌==◌, Bool, false, List, ◌++◌, filter, map, slice_index_or}
use Rattle.gv_types.specs.declared.mapping.Backing.{Backing}
use Rattle.gv_types.specs.declared.mapping.Backing.TheVariants.{Buffer, Zero}
use Rattle.gv_types.specs.declared.mapping.BufferId.{BufferId}
use Rattle.gv_types.specs.declared.mapping.Mapping.{Mapping}
use Rattle.gv_ranges.specs.List.{IsLaidOut}
use Rattle.gv_buffers.specs.Buffers.{BuffersState, IsLive, most_counted}
use Rattle.gv_buffers.specs.FirstPages.{FirstPagesState, IsRowOf, first_pages_at}

-- a page of a buffer with that index stands behind a mapping
abbrev pub has_index : ℕ → Backing → Bool
has_index index (Buffer id page) = id.index == index
has_index index Zero = false

-- where the mappings of an index begin, in the order of the list
abbrev pub firsts_of : ℕ → List Mapping → List ℕ
firsts_of index ms = map (λ m. m.range.first) (filter (λ m. has_index index m.backing) ms)

-- the table has the first pages of the list's mappings, at each index
abbrev pub AreFirstPages : List Mapping → List FirstPagesState → Type 0
AreFirstPages ms rows = (index : ℕ) → IsRowOf (firsts_of index ms) (first_pages_at rows index)

-- mappings between those before and behind them
abbrev pub between : List Mapping → List Mapping → List Mapping → List Mapping
between before ms behind = before ++ (ms ++ behind)

-- the first pages once mappings have left a list
abbrev pub AreWithout : List Mapping → List FirstPagesState → List FirstPagesState → Type 0
AreWithout ms old new = (before behind : List Mapping) → IsLaidOut (between before ms behind) → AreFirstPages (between before ms behind) old → AreFirstPages (before ++ behind) new

-- and once they have come into it
abbrev pub AreWith : List Mapping → List FirstPagesState → List FirstPagesState → Type 0
AreWith ms old new = (before behind : List Mapping) → IsLaidOut (between before ms behind) → AreFirstPages (before ++ behind) old → AreFirstPages (between before ms behind) new

-- and once some have given way to others
abbrev pub AreReplaced : List Mapping → List Mapping → List FirstPagesState → List FirstPagesState → Type 0
AreReplaced gone come old new = (before behind : List Mapping) → IsLaidOut (between before gone behind) → IsLaidOut (between before come behind)
    → AreFirstPages (between before gone behind) old → AreFirstPages (between before come behind) new

-- no index has more mappings
abbrev pub HaveNoMore : List FirstPagesState → List FirstPagesState → Type 0
HaveNoMore old new = (index : ℕ) → (first_pages_at new index).count ≤ (first_pages_at old index).count

-- so many more can be counted at each index
abbrev pub CanCount : ℕ → List FirstPagesState → Type 0
CanCount more rows = (index : ℕ) → (first_pages_at rows index).count + more ≤ most_counted

-- the table has a row for what stands behind a mapping
abbrev pub HasRow : ℕ → Backing → Type 0
HasRow rows (Buffer id page) = id.index < rows
HasRow rows Zero = Unit {0}

-- and one for each live buffer
abbrev pub HaveRows : BuffersState → ℕ → Type 0
HaveRows t rows = (id : BufferId) → IsLive t id → id.index < rows

-- the first of both begins at the same page
abbrev pub BeginAlike : List Mapping → List Mapping → Type 0
BeginAlike xs ys = (d : Mapping) → (slice_index_or xs 0 d).range.first ≡ (slice_index_or ys 0 d).range.first
