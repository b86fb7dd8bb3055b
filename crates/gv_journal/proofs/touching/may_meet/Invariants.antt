use Rattle.std.proofs.Common.{◌<◌, ◌≤◌, ◌^◌, ℕ, get_or}
use Rattle.std.specs.Prelude.{◌⊎◌}
use Rattle.gv_journal.proofs.touching.may_meet.Given as goal

abbrev pub invariant-loop-index : goal.invariant-loop-index
invariant-loop-index l = l.signs < 2 ^ 63 → (k : ℕ) → k < l.index → (l.past ≤ get_or l.firsts k 0) ⊎ (get_or l.pasts k 0 ≤ l.first)
