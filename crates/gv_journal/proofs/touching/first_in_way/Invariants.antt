use Rattle.std.proofs.Common.{◌≡◌, ◌+◌, ℕ, Bool, drop}
use Rattle.gv_journal.specs.Notes.{TellGone}
use Rattle.gv_journal.specs.Withdrawing.{touched_from}
use Rattle.gv_journal.proofs.touching.first_in_way.Given as goal

abbrev pub invariant-loop-index : goal.invariant-loop-index
invariant-loop-index l =
    (gone : ℕ → Bool) → TellGone gone l.from l.part.notes.now → touched_from gone l.ops l.from l.part.items.now ≡ touched_from gone l.ops (l.from + l.index) (drop l.index l.part.items.now)
