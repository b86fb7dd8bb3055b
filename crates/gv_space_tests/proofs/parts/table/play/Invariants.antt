use Rattle.std.proofs.Common.{◌≡◌, Some, slice_get}
use Rattle.gv_types.specs.Mapping.{buffer_id}
use Rattle.gv_table.specs.BufferNames.{AreNamed}
use Rattle.gv_table.specs.Table.{IsTree}
use Rattle.gv_space_tests.proofs.parts.table.play.Given as goal

abbrev pub invariant-loop-row : goal.invariant-loop-row
invariant-loop-row l = record {
  twins : l.twin.mappings ≡ l.list.mappings;
  tree : IsTree l.list.mappings l.table;
  named : AreNamed l.table.names l.list.mappings;
  buffer : slice_get l.table.names 1 ≡ Some (buffer_id 1 1);
}
