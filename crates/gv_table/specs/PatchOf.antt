-- Which list a tree may come to be of by a patch.
use Rattle.std.specs.Prelude.{List}
use Rattle.gv_types.specs.PageRange.{PageRangeState}
use Rattle.gv_types.specs.declared.mapping.Mapping.{Mapping}
use Rattle.gv_table.specs.BufferNames.{AreNamed}
use Rattle.gv_table.specs.Patch.{IsPatched}
use Rattle.gv_table.specs.Table.{PageTable, FitsOutside}

-- there is a list that the pieces tell of in the range, whose buffers are named, and that fits the tree outside the range
pub record IsPatchOf (table : PageTable) (range : PageRangeState) (pieces : List Mapping) (some : PageRangeState) : Type 0 where
  pub list : List Mapping
  pub patched : IsPatched list pieces range some
  pub named : AreNamed table.names list
  pub fitted : FitsOutside list range table
