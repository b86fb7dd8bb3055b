-- What a list says of a range of pages.
use Rattle.std.specs.Prelude.{◌≡◌, ◌<◌, ◌≤◌, ◌-◌, ℕ, Bool, true, false, ◌||◌, if◌then◌else◌, Option, Some, None, List, [], ◌∷◌, slice_index_or}
use Rattle.gv_types.specs.Page.{PAGES}
use Rattle.gv_types.specs.PageRange.{PageRangeState, end_of, meets, lies_in}
use Rattle.gv_types.specs.Mapping.{part, IsMapping}
use Rattle.gv_types.specs.declared.mapping.Entry.{Entry}
use Rattle.gv_types.specs.declared.mapping.Mapping.{Mapping}
use Rattle.gv_ranges.specs.Edit.{clipped}

-- some mapping holds a page of the range
abbrev pub any_meets : List Mapping → PageRangeState → Bool
any_meets [] range = false
any_meets (m ∷ ms) range = meets m.range range || any_meets ms range

-- what the range's first page holds, where one mapping holds all its pages
abbrev pub covering : List Mapping → PageRangeState → Option Entry
covering [] range = None
covering (m ∷ ms) range = if lies_in range m.range then Some (part m range.first) else covering ms range

-- a mapping that meets the range decides what the list says of it
abbrev pub IsReadBy : List Mapping → PageRangeState → Option Mapping → Type 0
IsReadBy ms range None = any_meets ms range ≡ false
IsReadBy ms range (Some m) =
    (any_meets ms range ≡ true) ×
    (covering ms range ≡ (if lies_in range m.range then Some (part m range.first) else None)) × IsMapping m

-- two lists have the same mappings before the range, and the same behind it
pub record AreAlikeOutside (range : PageRangeState) (one other : List Mapping) : Type 0 where
  pub before : clipped 0 range.first one ≡ clipped 0 range.first other
  pub beyond : clipped (end_of range) PAGES one ≡ clipped (end_of range) PAGES other

-- the mapping before a position, which reaches past a page before the range
pub record IsNeighbour (ms : List Mapping) (range : PageRangeState) (position first : ℕ) (m : Mapping) : Type 0 where
  pub some : 0 < position
  pub here : m ≡ slice_index_or ms (position - 1) m
  pub before : first < range.first
  pub past : first < end_of m.range

-- no mapping before a position reaches past a page before the range
abbrev pub EndsBefore : List Mapping → PageRangeState → ℕ → ℕ → Type 0
EndsBefore ms range position first =
    first < range.first → 0 < position → (d : Mapping) → end_of (slice_index_or ms (position - 1) d).range ≤ first
