use Rattle.std.proofs.Common.{◌≡◌, ◌++◌, map, length}
use Rattle.gv_session.specs.Requests.{access_named}
use Rattle.gv_session.proofs.accesses.accesses_of.Given as goal

abbrev pub invariant-loop-access : goal.invariant-loop-access
invariant-loop-access l = map access_named l.initial.remaining ≡ l.list.items ++ map access_named l.remaining

abbrev pub decreases-loop-access : goal.decreases-loop-access
decreases-loop-access l = length l.remaining
