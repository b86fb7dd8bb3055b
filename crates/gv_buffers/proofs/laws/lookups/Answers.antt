use Rattle.gv_buffers.proofs.FoundLemmas.{made_is_found, others_stay_made, dead_stays_dead, destroyed_is_dead, others_stay_destroyed, changed_is_found, left_is_found}
use Rattle.gv_buffers.proofs.laws.lookups.Goals as goal

pub returns : goal.returns
returns c = record {
  made = made_is_found;
  beside_made = others_stay_made;
  dead = dead_stays_dead;
  destroyed = destroyed_is_dead;
  beside_destroyed = others_stay_destroyed;
  changed = changed_is_found;
  left = left_is_found;
}
