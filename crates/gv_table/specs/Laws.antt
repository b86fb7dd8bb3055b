-- What a list has in common with itself after a range of it was replaced, and two trees of one list.
use Rattle.std.specs.Prelude.{◌≡◌, List}
use Rattle.gv_types.specs.PageRange.{PageRangeState, end_of}
use Rattle.gv_types.specs.declared.mapping.Mapping.{Mapping}
use Rattle.gv_ranges.specs.List.{IsLaidOut}
use Rattle.gv_ranges.specs.Edit.{LieIn, clipped, replaced}
use Rattle.gv_table.specs.declared.page_table.PageTable.{PageTable}
use Rattle.gv_table.specs.Reads.{AreAlikeOutside}
use Rattle.gv_table.specs.Table.{IsTree, gained_by}

-- outside the range, nothing changes
abbrev pub ReplacedListIsAlike : Type 0
ReplacedListIsAlike = (ms pieces : List Mapping) (range : PageRangeState) → IsLaidOut ms → LieIn range pieces →
    AreAlikeOutside range ms (replaced ms range pieces)

-- what is alike one way is alike the other way
abbrev pub AlikeIsMutual : Type 0
AlikeIsMutual = (one other : List Mapping) (range : PageRangeState) → AreAlikeOutside range one other → AreAlikeOutside range other one

-- in the range stand the pieces
abbrev pub ReplacedListHasPieces : Type 0
ReplacedListHasPieces = (ms pieces : List Mapping) (range : PageRangeState) → IsLaidOut ms → IsLaidOut pieces → LieIn range pieces →
    clipped range.first (end_of range) (replaced ms range pieces) ≡ pieces

-- two trees of the same mappings gain the same tables
abbrev pub TreesGainAlike : Type 0
TreesGainAlike = (ms list : List Mapping) (one other : PageTable) → IsTree ms one → IsTree ms other →
    gained_by list one ≡ gained_by list other
