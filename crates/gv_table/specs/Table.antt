-- The page table as a whole.
use Rattle.std.specs.Prelude.{◌≡◌, ℕ, ◌+◌, List, [], ◌∷◌, Option}
use Rattle.gv_types.specs.PageRange.{PageRangeState}
use Rattle.gv_types.specs.declared.mapping.Entry.{Entry}
use Rattle.gv_types.specs.declared.mapping.Mapping.{Mapping}
use Rattle.gv_ranges.specs.List.{at, IsLaidOut}
use Rattle.gv_types.specs.declared.mapping.BufferId.{BufferId}
use Rattle.gv_table.specs.declared.slot.Slot.{Slot}
use Rattle.gv_table.specs.declared.kind_counts.KindCounts.{KindCounts}
use Rattle.gv_table.specs.Kinds.{each}
use Rattle.gv_table.specs.Levels.{top_level}
use Rattle.gv_table.specs.Tree.{IsTreeOf, IsTreeOutside}
use Rattle.gv_table.specs.Counts.{gained, lost, needed, tables_at, tables_wanted}

-- what contracts see of a page table: its tree, and the id that stands for each index of a buffer
pub record PageTable : Type 0 where
  pub root : Slot
  pub names : List BufferId

-- the tree is that of the mappings
abbrev pub IsTree : List Mapping → PageTable → Type 0
IsTree ms table = IsTreeOf ms top_level 0 table.root

-- what the tree holds at a page: what each list says of the page whose tree it is
abbrev pub IsEntryAt : PageTable → ℕ → Option Entry → Type 0
IsEntryAt table page entry = (ms : List Mapping) → IsLaidOut ms → IsTree ms table → entry ≡ at ms page

-- the tree fits the mappings outside the range
abbrev pub FitsOutside : List Mapping → PageRangeState → PageTable → Type 0
FitsOutside ms range table = IsTreeOutside ms range top_level 0 table.root

-- how many positions (a level and a first page) have a table in the tree of the mappings and none in this one
abbrev pub gained_by : List Mapping → PageTable → KindCounts
gained_by ms table = each (λ kind. gained kind ms top_level 0 table.root)

-- how many positions have a table in this tree and none in that of the mappings
abbrev pub lost_by : List Mapping → PageTable → KindCounts
lost_by ms table = each (λ kind. lost kind ms top_level 0 table.root)

-- how many positions of this tree may come to need a table, where a list is given the pieces in the range
abbrev pub needed_for : List Mapping → PageRangeState → PageTable → KindCounts
needed_for pieces range table = each (λ kind. needed kind pieces range top_level 0 table.root)

-- how many tables stand at the levels 4, 3, 2, 1 and 0
abbrev pub tables_by_level : PageTable → List ℕ
tables_by_level table =
    tables_at 4 top_level table.root ∷ tables_at 3 top_level table.root ∷ tables_at 2 top_level table.root ∷
    tables_at 1 top_level table.root ∷ tables_at 0 top_level table.root ∷ []

-- how many tables stand of each kind
abbrev pub tables_by_kind : PageTable → KindCounts
tables_by_kind table =
    record {
      pages = tables_at 0 top_level table.root;
      slots = tables_at 4 top_level table.root + tables_at 3 top_level table.root + tables_at 2 top_level table.root +
          tables_at 1 top_level table.root;
    }

-- how many tables the tree of the mappings has at the levels 4, 3, 2, 1 and 0
abbrev pub tables_of : List Mapping → List ℕ
tables_of ms =
    tables_wanted ms 4 top_level 0 ∷ tables_wanted ms 3 top_level 0 ∷ tables_wanted ms 2 top_level 0 ∷
    tables_wanted ms 1 top_level 0 ∷ tables_wanted ms 0 top_level 0 ∷ []
