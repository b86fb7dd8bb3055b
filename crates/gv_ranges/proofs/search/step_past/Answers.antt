use Rattle.std.proofs.Common.{refl}
use Rattle.gv_ranges.proofs.SearchSteps.{stepped}
use Rattle.gv_ranges.proofs.search.step_past.Goals as goal

pub returns : goal.returns
returns c = stepped c.args.step c.args.first c.args.page _ c.requires.step c.requires.first c.requires.page refl
