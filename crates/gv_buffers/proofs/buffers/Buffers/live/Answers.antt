use Rattle.std.proofs.Common.{arith}
use Rattle.gv_buffers.proofs.TablesAndSlots.{count_live}
use Rattle.gv_buffers.proofs.buffers.Buffers.live.Goals as goal

pub returns : goal.returns
returns c = omega (arith, count_live c.self.inside c.args.self.now c.self.view_is, c.live.ensures)
