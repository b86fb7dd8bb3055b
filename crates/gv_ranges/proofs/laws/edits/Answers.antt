use Rattle.gv_ranges.proofs.ChangeLemmas.{at-edited, at-edited_by_all, laid_out-edited, edited_run_in_place, undone-edited}
use Rattle.gv_ranges.proofs.laws.edits.Goals as goal

pub returns : goal.returns
returns c = record {
  says = at-edited;
  viewed = at-edited_by_all;
  laid_out = laid_out-edited;
  in_place = edited_run_in_place;
  undone = undone-edited;
}
