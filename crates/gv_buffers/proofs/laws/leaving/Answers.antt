use Rattle.gv_buffers.proofs.LeaveUndoesJoin.{leave_takes_back_join, leave_of_no_user}
use Rattle.gv_buffers.proofs.laws.leaving.Goals as goal

pub returns : goal.returns
returns c = record { takes_back = leave_takes_back_join; nothing = leave_of_no_user }
