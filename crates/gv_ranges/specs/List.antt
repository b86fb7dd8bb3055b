-- A list of mappings: what it says of a page, when it is in order, and where a range meets it.
use Rattle.std.specs.Prelude.{ℕ, ◌≡◌, ◌+◌, ◌-◌, ◌<◌, ◌≤◌, nat_lt, IsTrue, if◌then◌else◌, Option, Some, None, List, [], ◌∷◌, take, drop, length}
use Rattle.std.specs.List.{All}
use Rattle.gv_types.specs.PageRange.{PageRangeState, end_of, covers, meets}
use Rattle.gv_types.specs.Mapping.{part, IsMapping}
use Rattle.gv_types.specs.declared.mapping.Entry.{Entry}
use Rattle.gv_types.specs.declared.mapping.Mapping.{Mapping}

-- what a list holds at a page
abbrev pub at : List Mapping → ℕ → Option Entry
at [] page = None
at (m ∷ ms) page = if covers m.range page then Some (part m page) else at ms page

-- the first mapping that ends behind a page, if one does
abbrev pub first_ending_after : List Mapping → ℕ → Option Mapping
first_ending_after [] page = None
first_ending_after (m ∷ ms) page = if nat_lt page (end_of m.range) then Some m else first_ending_after ms page

-- from the page `low` on, each mapping begins where the one before it ends, or later
abbrev pub IsLaidOutFrom : ℕ → List Mapping → Type 0
IsLaidOutFrom low [] = Unit {0}
IsLaidOutFrom low (m ∷ ms) = (low ≤ m.range.first) × IsMapping m × IsLaidOutFrom (end_of m.range) ms

-- sorted, and no two mappings share a page
abbrev pub IsLaidOut : List Mapping → Type 0
IsLaidOut ms = IsLaidOutFrom 0 ms

-- what contracts see of a `RangeList`: its mappings, and for how many it has room
pub record RangeListState : Type 0 where
  pub mappings : List Mapping
  pub room : ℕ

-- the same mappings, and no less room
pub record IsUnchangedList (old new : RangeListState) : Type 0 where
  pub mappings : new.mappings ≡ old.mappings
  pub room : old.room ≤ new.room

-- the run of a list from `index` on
abbrev pub run : List Mapping → ℕ → ℕ → List Mapping
run ms index count = take count (drop index ms)

-- the last `unread` of a list's first `end` mappings are still to come, and the block is of those, and of what is behind them
pub record IsRunAhead (ms : List Mapping) (end unread : ℕ) (block : List Mapping) : Type 0 where
  pub within : end ≤ length ms
  pub begun : unread ≤ end
  pub ahead : block ≡ take (length block) (drop (end - unread) ms)

-- the block is of a list of `len` mappings that is in order: those from `base` on, as many as the block has
pub record IsBlockOf (ms : List Mapping) (len base : ℕ) (block : List Mapping) : Type 0 where
  pub laid_out : IsLaidOut ms
  pub all : len ≡ length ms
  pub within : base ≤ length ms
  pub ahead : block ≡ take (length block) (drop base ms)

-- the mappings that meet a range are the `count` from `index` on
pub record IsOverlappingRun (ms : List Mapping) (range : PageRangeState) (index count : ℕ) : Type 0 where
  pub within : index + count ≤ length ms
  pub before : All (λ m. end_of m.range ≤ range.first) (take index ms)
  pub meeting : All (λ m. IsTrue (meets m.range range)) (run ms index count)
  pub beyond : All (λ m. end_of range ≤ m.range.first) (drop (index + count) ms)

-- the mappings before the index end at the page or before it
pub record AreEnded (ms : List Mapping) (page index : ℕ) : Type 0 where
  pub within : index ≤ length ms
  pub ended : All (λ m. end_of m.range ≤ page) (take index ms)

-- the index is how many mappings end at the page or before it
pub record IsIndexOfPage (ms : List Mapping) (page index : ℕ) : Type 0 where
  pub within : index ≤ length ms
  pub ended : All (λ m. end_of m.range ≤ page) (take index ms)
  pub not_ended : All (λ m. page < end_of m.range) (drop index ms)
