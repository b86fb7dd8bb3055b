use Rattle.gv_ranges.proofs.ChangeLemmas.{at-restored, laid_out-restored, restored_run_in_place, undone-restored}
use Rattle.gv_ranges.proofs.laws.restores.Goals as goal

pub returns : goal.returns
returns c = record {
  says = at-restored;
  laid_out = laid_out-restored;
  in_place = restored_run_in_place;
  undone = undone-restored;
}
