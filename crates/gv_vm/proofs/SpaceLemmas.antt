-- For callers: the space that a machine gives, with the room that it has.
use Rattle.gv_space.specs.State.{SpaceState, IsSpace}
use Rattle.gv_vm.specs.State.{roomless}

pub with_its_room : (s : SpaceState) → IsSpace (roomless s) → IsSpace s
with_its_room s is = record {
  limits = is.limits;
  laid_out = is.laid_out;
  few = is.few;
  valid = is.valid;
  buffers = is.buffers;
  used = is.used;
  all_kept = is.all_kept;
  are_kept = record { valid = is.are_kept.valid; kept = is.are_kept.kept; kept_count = is.are_kept.kept_count };
  few_kept = is.few_kept;
}
