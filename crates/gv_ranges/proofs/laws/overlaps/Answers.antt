use Rattle.gv_ranges.proofs.OverlapSaysLemmas.{at_run}
use Rattle.gv_ranges.proofs.laws.overlaps.Goals as goal

pub returns : goal.returns
returns c = at_run
