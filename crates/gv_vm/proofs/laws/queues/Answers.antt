use Rattle.gv_vm.proofs.QueueHistorySteps.{runs_remember, told_was_put, waits_were_reached}
use Rattle.gv_vm.proofs.laws.queues.Goals as goal

pub returns-clause-order : goal.returns-clause-order
returns-clause-order c = runs_remember

pub returns-clause-told : goal.returns-clause-told
returns-clause-told c = told_was_put

pub returns-clause-waits : goal.returns-clause-waits
returns-clause-waits c = waits_were_reached
