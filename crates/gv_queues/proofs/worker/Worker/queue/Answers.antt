use Rattle.std.proofs.Common.{◌∙◌, ap}
use Rattle.gv_queues.specs.Working.{WorkerState}
use Rattle.gv_queues.proofs.worker.Worker.queue.Goals as goal

pub returns : goal.returns
returns c = c.queue.ensures.value ∙ ap (λ (w : WorkerState). w.queue) c.self.view_is
