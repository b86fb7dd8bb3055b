use Rattle.std.proofs.Common.{◌≡◌, ◌+◌, length}
use Rattle.gv_session.proofs.accesses.are_too_many.Given as goal

abbrev pub invariant-loop-done : goal.invariant-loop-done
invariant-loop-done l = length l.accesses ≡ l.done + length l.remaining
