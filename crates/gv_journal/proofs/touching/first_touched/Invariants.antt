use Rattle.std.proofs.Common.{◌≡◌, ◌+◌, ◌-◌, ◌≤◌, ℕ, Bool, drop, length}
use Rattle.gv_journal.specs.Notes.{TellGone}
use Rattle.gv_journal.specs.Withdrawing.{touched_from}
use Rattle.gv_journal.proofs.touching.first_touched.Given as goal

abbrev pub invariant-loop-start : goal.invariant-loop-start
invariant-loop-start l = record {
  within : l.start ≤ length l.part.items.now;
  rest : (gone : ℕ → Bool) → TellGone gone l.from l.part.notes.now → touched_from gone l.ops l.from l.part.items.now ≡ touched_from gone l.ops (l.from + l.start) (drop l.start l.part.items.now);
}

abbrev pub decreases-loop-start : goal.decreases-loop-start
decreases-loop-start l = length l.part.items.now - l.start
