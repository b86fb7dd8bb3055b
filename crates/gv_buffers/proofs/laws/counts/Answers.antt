use Rattle.gv_buffers.proofs.Counts.{create_moves_no_count, destroy_moves_no_count, join_moves_no_count, leave_moves_no_count}
use Rattle.gv_buffers.proofs.laws.counts.Goals as goal

pub returns : goal.returns
returns c = record { create = create_moves_no_count; destroy = destroy_moves_no_count; join = join_moves_no_count; leave = leave_moves_no_count }
