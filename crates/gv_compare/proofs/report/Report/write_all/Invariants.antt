use Rattle.std.proofs.Common.{◌-◌}
use Rattle.gv_types.specs.Page.{PAGES}
use Rattle.gv_compare.proofs.report.Report.write_all.Given as goal

abbrev pub decreases-loop-difference : goal.decreases-loop-difference
decreases-loop-difference l = PAGES - l.walk.page
