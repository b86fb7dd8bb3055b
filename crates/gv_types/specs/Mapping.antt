-- Ids of buffers; what a mapping gives a page (`part`), and its part between two pages (`clip`).
use Rattle.std.specs.Prelude.{ℕ, Bool, false, ◌&&◌, ◌==◌, ◌+◌, ◌-◌, ◌≤◌, max, min, if◌then◌else◌, nat_lt, Option, Some, None}
use Rattle.gv_types.specs.Page.{backing_pages}
use Rattle.gv_types.specs.PageRange.{span, end_of, IsInSpace}
use Rattle.gv_types.specs.declared.mapping.Backing.{Backing}
use Rattle.gv_types.specs.declared.mapping.Backing.TheVariants.{Buffer, Zero}
use Rattle.gv_types.specs.declared.mapping.BufferId.{BufferId}
use Rattle.gv_types.specs.declared.mapping.Entry.{Entry}
use Rattle.gv_types.specs.declared.mapping.Mapping.{Mapping}

abbrev pub buffer_id : ℕ → ℕ → BufferId
buffer_id index generation = record { index = index; generation = generation }

-- the same buffer, and not one that was made in its place
abbrev pub is_same_id : BufferId → BufferId → Bool
is_same_id a b = (a.index == b.index) && (a.generation == b.generation)

-- a buffer stands behind the pages
abbrev pub is_of : BufferId → Backing → Bool
is_of id (Buffer other page) = is_same_id other id
is_of id Zero = false

-- the same backing, `pages` further on
abbrev pub advanced : Backing → ℕ → Backing
advanced (Buffer id page) pages = Buffer id (page + pages)
advanced Zero pages = Zero

-- what the page holds that lies some pages past an entry's, in the same mapping
abbrev pub entry_advanced : Entry → ℕ → Entry
entry_advanced e pages = record { backing = advanced e.backing pages; flags = e.flags }

-- what a mapping holds at a page of its range
abbrev pub part : Mapping → ℕ → Entry
part m page = record { backing = advanced m.backing (page - m.range.first); flags = m.flags }

-- `count` pages of a mapping from the page `first` on
abbrev pub piece : Mapping → ℕ → ℕ → Mapping
piece m first count =
    record { range = span first count; backing = advanced m.backing (first - m.range.first); flags = m.flags }

-- what of a mapping lies at `low` or above and below `high`
abbrev pub clip : ℕ → ℕ → Mapping → Option Mapping
clip low high m =
    let first = max low m.range.first in
    let end = min high (end_of m.range) in
    if nat_lt first end then Some (piece m first (end - first)) else None

-- a mapping of `count` pages ends at the page `backing_pages` of its buffer, or before
abbrev pub HasSmallPages : Backing → ℕ → Type 0
HasSmallPages (Buffer id page) count = page + count ≤ backing_pages
HasSmallPages Zero count = Unit {0}

-- a mapping's range is in the space, and the pages that stand behind it are numbers that fit
abbrev pub IsMapping : Mapping → Type 0
IsMapping m = IsInSpace m.range × HasSmallPages m.backing m.range.count

-- the least mapping, which stands in unused places
abbrev pub one_page_of_zeros : Mapping
one_page_of_zeros = record { range = span 0 1; backing = Zero; flags = record { read_only = false } }
