use Rattle.std.proofs.Common.{◌≡◌, ◌+◌, ◌≤◌}
use Rattle.gv_types.specs.Page.{PAGES}
use Rattle.gv_table.specs.Kinds.{Kind, of}
use Rattle.gv_table.specs.Levels.{top_level, pages_of, LiesInSlot}
use Rattle.gv_table.specs.Counts.{needed}
use Rattle.gv_table.proofs.needed_tables.needed_in_tree.Given as goal

abbrev pub invariant-loop-index : goal.invariant-loop-index
invariant-loop-index l = record {
  known : l.level ≤ top_level;
  in_space : l.first + pages_of l.level ≤ PAGES;
  within : LiesInSlot l.range l.level l.first;
  few : (kind : Kind) → of kind l.count + l.level ≤ top_level;
  counted : (kind : Kind) → needed kind l.pieces l.range top_level 0 l.root ≡ of kind l.count + needed kind l.pieces l.range l.level l.first l.slot;
}

abbrev pub decreases-loop-index : goal.decreases-loop-index
decreases-loop-index l = l.level
