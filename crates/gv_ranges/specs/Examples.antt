-- Worked examples of edited and restored lists.
use Rattle.std.specs.Prelude.{ℕ, ◌≡◌, ◌-◌, true, false, [], ◌∷◌}
use Rattle.gv_types.specs.Page.{PAGES}
use Rattle.gv_types.specs.PageRange.{span}
use Rattle.gv_types.specs.Mapping.{buffer_id}
use Rattle.gv_types.specs.declared.mapping.Backing.{Backing}
use Rattle.gv_types.specs.declared.mapping.Backing.TheVariants.{Buffer, Zero}
use Rattle.gv_types.specs.declared.mapping.Mapping.{Mapping}
use Rattle.gv_types.specs.declared.operation.PageOp.{PageOp}
use Rattle.gv_types.specs.declared.operation.PageOp.TheVariants.{Map, Unmap}
use Rattle.gv_ranges.specs.Edit.{edited, restored}

-- one buffer from its page on, and another
abbrev pub a : ℕ → Backing
a page = Buffer (buffer_id 0 0) page

abbrev pub b : ℕ → Backing
b page = Buffer (buffer_id 1 1) page

-- `count` pages at the page `first`, which may be written
abbrev pub of : ℕ → ℕ → Backing → Mapping
of first count backing = record { range = span first count; backing = backing; flags = record { read_only = false } }

-- the same pages read-only
abbrev pub fixed : ℕ → ℕ → Backing → Mapping
fixed first count backing = record { range = span first count; backing = backing; flags = record { read_only = true } }

-- a map of pages that may be written
abbrev pub map_at : ℕ → ℕ → Backing → PageOp
map_at first count backing = Map (span first count) backing (record { read_only = false })

abbrev pub unmap_at : ℕ → ℕ → PageOp
unmap_at first count = Unmap (span first count)

abbrev pub last_page : ℕ
last_page = PAGES - 1

-- an empty list takes a map, and an unmap leaves it empty
abbrev pub EditOfNothing : Type 0
EditOfNothing = (edited [] (map_at 3 2 (a 7)) ≡ of 3 2 (a 7) ∷ []) × (edited [] (unmap_at 3 2) ≡ [])

-- the last page of the space is a page as any other
abbrev pub EditOfLastPage : Type 0
EditOfLastPage =
    (edited (of (PAGES - 2) 2 (a 0) ∷ []) (map_at last_page 1 (b 9)) ≡ of (PAGES - 2) 1 (a 0) ∷ of last_page 1 (b 9) ∷ [])
    × (edited (of last_page 1 (a 0) ∷ []) (unmap_at last_page 1) ≡ [])

-- a hole leaves both rests, the second further on in the buffer
abbrev pub HoleLeavesBothRests : Type 0
HoleLeavesBothRests = edited (of 0 4 (b 0) ∷ []) (unmap_at 1 1) ≡ of 0 1 (b 0) ∷ of 2 2 (b 2) ∷ []

-- a map over three mappings leaves a rest of the outer two
abbrev pub MapOverThree : Type 0
MapOverThree =
    edited (of 0 2 (a 0) ∷ of 2 2 (a 2) ∷ of 4 2 (a 4) ∷ []) (map_at 1 4 (b 0))
    ≡ of 0 1 (a 0) ∷ of 1 4 (b 0) ∷ of 5 1 (a 5) ∷ []

-- a map at the very pages of a mapping takes its place
abbrev pub MapAtSamePages : Type 0
MapAtSamePages = edited (of 0 2 (a 0) ∷ of 2 2 (a 2) ∷ []) (map_at 2 2 (b 5)) ≡ of 0 2 (a 0) ∷ of 2 2 (b 5) ∷ []

-- an unmap of pages that hold nothing changes nothing
abbrev pub UnmapOfNothing : Type 0
UnmapOfNothing = edited (of 0 2 (a 0) ∷ of 6 2 (a 2) ∷ []) (unmap_at 2 4) ≡ of 0 2 (a 0) ∷ of 6 2 (a 2) ∷ []

-- the rests of a read-only mapping are read-only
abbrev pub RestsKeepFlags : Type 0
RestsKeepFlags = edited (fixed 0 4 (a 8) ∷ []) (map_at 1 2 (b 0)) ≡ fixed 0 1 (a 8) ∷ of 1 2 (b 0) ∷ fixed 3 1 (a 11) ∷ []

-- the rests of pages of zeros are pages of zeros
abbrev pub RestsOfZeros : Type 0
RestsOfZeros = edited (of 0 4 Zero ∷ []) (unmap_at 1 1) ≡ of 0 1 Zero ∷ of 2 2 Zero ∷ []

-- neighbours that continue each other are not joined
abbrev pub NeighboursStayApart : Type 0
NeighboursStayApart = edited (of 0 2 (a 0) ∷ []) (map_at 2 2 (a 2)) ≡ of 0 2 (a 0) ∷ of 2 2 (a 2) ∷ []

-- saved mappings come back cut to the range, and are not joined to what stands beside it
abbrev pub RestoreOfPieces : Type 0
RestoreOfPieces =
    (restored (of 0 1 (a 0) ∷ of 1 2 (b 0) ∷ of 3 1 (a 3) ∷ []) (span 1 2) (of 0 4 (a 0) ∷ [])
    ≡ of 0 1 (a 0) ∷ of 1 2 (a 1) ∷ of 3 1 (a 3) ∷ [])
    × (restored (of 0 4 (b 0) ∷ []) (span 1 2) (of 2 4 (a 2) ∷ []) ≡ of 0 1 (b 0) ∷ of 2 1 (a 2) ∷ of 3 1 (b 3) ∷ [])
