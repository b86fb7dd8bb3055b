-- The mappings that meet a range are the run of the list.
use Rattle.std.proofs.Common.{◌≡◌, List, length, sym, ◌∙◌}
use Rattle.gv_types.specs.declared.mapping.Mapping.{Mapping}
use Rattle.gv_ranges.proofs.OverlapLemmas.{filter_meets}
use Rattle.gv_space.specs.Undo.{OpUndoState, IsUndoOf}
use Rattle.gv_journal.specs.Applying.{met}

-- an undo value took out just what met its range
pub taken_met : (old new : List Mapping) (u : OpUndoState) → IsUndoOf old new u → u.change.taken ≡ met old u.range
taken_met old new u is = is.taken ∙ sym (filter_meets old u.range u.change.index (length u.change.taken) is.met)
