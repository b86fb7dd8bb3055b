use Rattle.std.proofs.Common.{◌≡◌, ◌++◌, List, reverse}
use Rattle.gv_types.specs.declared.mapping.Mapping.{Mapping}
use Rattle.gv_space.specs.State.{AreKept}
use Rattle.gv_journal.specs.Undoing.{taken_by, reverted_by, AreRevertible}
use Rattle.gv_journal.proofs.undoing.revert_all.Given as goal

abbrev pub invariant-loop-undo : goal.invariant-loop-undo
invariant-loop-undo l = record {
  revertible : AreRevertible l.space.limits.mappings l.space.room l.space.mappings (reverse l.undos.items);
  kept : (others : List Mapping) → AreKept l.fn.space (taken_by (reverse l.fn.undos.items) ++ others) → AreKept l.space (taken_by (reverse l.undos.items) ++ others);
  rest : reverted_by l.space (reverse l.undos.items) ≡ reverted_by l.fn.space (reverse l.fn.undos.items);
}

abbrev pub decreases-loop-undo : goal.decreases-loop-undo
decreases-loop-undo l = goal.left-loop-undo l
