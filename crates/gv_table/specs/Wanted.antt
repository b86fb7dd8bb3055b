-- What a slot above level 0 is to hold, for a list of mappings.
use Rattle.std.specs.Prelude.{ℕ, Bool, true, false, List, Option, Some, None, nat_le, if◌then◌else◌}
use Rattle.gv_types.specs.declared.mapping.Entry.{Entry}
use Rattle.gv_types.specs.declared.mapping.Mapping.{Mapping}
use Rattle.gv_table.specs.declared.wanted.Wanted.{Wanted}
use Rattle.gv_table.specs.declared.wanted.Wanted.TheVariants as variant
use Rattle.gv_table.specs.Levels.{slot_pages, greatest_leaf_level}
use Rattle.gv_table.specs.Reads.{any_meets, covering}

-- a leaf where one mapping covers all pages and the level allows it, else a table
abbrev pub leaf_or_table : Bool → Option Entry → Wanted
leaf_or_table true (Some entry) = variant.Entry entry
leaf_or_table true None = variant.Table
leaf_or_table false covered = variant.Table

-- nothing where no mapping meets the pages
unfoldable pub wanted : List Mapping → ℕ → ℕ → Wanted
wanted ms level first =
    if any_meets ms (slot_pages level first)
    then leaf_or_table (nat_le level greatest_leaf_level) (covering ms (slot_pages level first))
    else variant.Nothing

abbrev pub is_divided : Wanted → Bool
is_divided variant.Nothing = false
is_divided (variant.Entry entry) = false
is_divided variant.Table = true
