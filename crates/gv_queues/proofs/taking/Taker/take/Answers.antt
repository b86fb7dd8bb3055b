use Rattle.gv_queues.proofs.Handovers.{takes}
use Rattle.gv_queues.proofs.taking.Taker.take.Goals as goal

pub recv_as-requires-clause-rule : goal.recv_as-requires-clause-rule
recv_as-requires-clause-rule g c = (takes _ _ _ _ c.self.invariant.1, (λ items views h at. tt))
