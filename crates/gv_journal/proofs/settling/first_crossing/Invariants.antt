use Rattle.std.proofs.Common.{◌≡◌, drop, None}
use Rattle.gv_journal.specs.Notes.{crossing_from}
use Rattle.gv_journal.proofs.settling.first_crossing.Given as goal

abbrev pub invariant-loop-note : goal.invariant-loop-note
invariant-loop-note l = crossing_from l.to None l.notes ≡ crossing_from l.to l.least (drop l.note-index l.notes)
