use Rattle.gv_split.proofs.CarriedOutLemmas.{steps_make_the_list, steps_are_present}
use Rattle.gv_split.proofs.UnmapWholeBuffer.{unmap_of_buffer_is_unmaps}
use Rattle.gv_split.proofs.laws.steps.Goals as goal

pub returns : goal.returns
returns c = record {
  carried_out = steps_make_the_list;
  present = steps_are_present;
  unmaps = unmap_of_buffer_is_unmaps;
}
