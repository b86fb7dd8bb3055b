use Rattle.std.proofs.Common.{◌-◌}
use Rattle.gv_types.specs.Page.{PAGES}
use Rattle.gv_compare.proofs.report.Pair.match_objects.Given as goal

abbrev pub decreases-loop-both : goal.decreases-loop-both
decreases-loop-both l = PAGES - l.walk.page
