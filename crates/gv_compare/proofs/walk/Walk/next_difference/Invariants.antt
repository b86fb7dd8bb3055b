use Rattle.std.proofs.Common.{◌-◌, ◌≤◌}
use Rattle.gv_types.specs.Page.{PAGES}
use Rattle.gv_compare.proofs.walk.Walk.next_difference.Given as goal

abbrev pub invariant-loop-self : goal.invariant-loop-self
invariant-loop-self l = l.initial.self.page ≤ l.self.page

abbrev pub decreases-loop-self : goal.decreases-loop-self
decreases-loop-self l = PAGES - l.self.page
