use Rattle.gv_ranges.specs.List.{AreEnded}
use Rattle.std.proofs.Common.{length, ◌-◌}
use Rattle.gv_table.proofs.deciding_mapping.advance.Given as goal

abbrev pub invariant-loop-position : goal.invariant-loop-position
invariant-loop-position l = AreEnded l.mappings l.page l.position

abbrev pub decreases-loop-position : goal.decreases-loop-position
decreases-loop-position l = length l.mappings - l.position
