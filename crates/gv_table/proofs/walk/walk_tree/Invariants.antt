use Rattle.std.proofs.Common.{◌-◌, ◌<◌, ◌≤◌, List}
use Rattle.gv_types.specs.declared.mapping.Mapping.{Mapping}
use Rattle.gv_ranges.specs.List.{IsLaidOut}
use Rattle.gv_table.specs.Levels.{pages_of}
use Rattle.gv_table.specs.Named.{named}
use Rattle.gv_table.specs.Tree.{IsTreeOf}
use Rattle.gv_table.proofs.walk.walk_tree.Given as goal

abbrev pub invariant-loop-level : goal.invariant-loop-level
invariant-loop-level l = record {
  known : l.level ≤ 5;
  not_past : l.distance ≤ l.page;
  within : l.distance < pages_of l.level;
  tree : (ms : List Mapping) → IsLaidOut ms → IsTreeOf ms 5 0 (named l.fn.names l.fn.root) → IsTreeOf ms l.level (l.page - l.distance) (named l.fn.names l.slot);
}

abbrev pub decreases-loop-level : goal.decreases-loop-level
decreases-loop-level l = l.level
