use Rattle.std.proofs.Common.{◌-◌, ◌<◌, ◌≤◌}
use Rattle.gv_types.specs.Page.{PAGES}
use Rattle.gv_compare.proofs.walk.Walk.go_while.Given as goal

abbrev pub invariant-loop-self : goal.invariant-loop-self
invariant-loop-self l = record {
  risen : l.first < l.self.page;
  within : l.self.page ≤ PAGES;
}

abbrev pub decreases-loop-self : goal.decreases-loop-self
decreases-loop-self l = PAGES - l.self.page
