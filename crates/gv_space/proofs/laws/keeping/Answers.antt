use Rattle.gv_space.proofs.KeptLemmas.{kept_in_any_order}
use Rattle.gv_space.proofs.laws.keeping.Goals as goal

pub returns : goal.returns
returns c = kept_in_any_order
