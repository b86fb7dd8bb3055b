-- Each event's step is that of its call: said here, since a search for it tries every case of a step.
use Rattle.gv_vm.proofs.world.World.dispatch.Goals as goal

pub returns-in-Put : goal.returns-in-Put
returns-in-Put c = rw c.in-Put.is c.put.ensures

pub returns-in-Take : goal.returns-in-Take
returns-in-Take c = rw c.in-Take.is c.take.ensures

pub returns-in-Look : goal.returns-in-Look
returns-in-Look c = rw c.in-Look.is c.look.ensures

pub returns-in-Bind : goal.returns-in-Bind
returns-in-Bind c = rw c.in-Bind.is c.bind.ensures

pub returns-in-GiveUp : goal.returns-in-GiveUp
returns-in-GiveUp c = rw c.in-GiveUp.is c.give_up.ensures

pub returns-in-Pay : goal.returns-in-Pay
returns-in-Pay c = rw c.in-Pay.is c.pay.ensures

pub returns-in-Raise : goal.returns-in-Raise
returns-in-Raise c = rw c.in-Raise.is c.raise.ensures

pub returns-in-Create : goal.returns-in-Create
returns-in-Create c = rw c.in-Create.is c.create.ensures

pub returns-in-Destroy : goal.returns-in-Destroy
returns-in-Destroy c = rw c.in-Destroy.is c.destroy.ensures

pub returns-in-Rewind : goal.returns-in-Rewind
returns-in-Rewind c = rw c.in-Rewind.is c.rewind.ensures

pub returns-in-Withdraw : goal.returns-in-Withdraw
returns-in-Withdraw c = rw c.in-Withdraw.is c.withdraw.ensures

pub returns-in-Settle : goal.returns-in-Settle
returns-in-Settle c = rw c.in-Settle.is c.settle.ensures

pub returns-in-Forget : goal.returns-in-Forget
returns-in-Forget c = rw c.in-Forget.is c.forget.ensures

pub returns-in-JobBegin : goal.returns-in-JobBegin
returns-in-JobBegin c = rw c.in-JobBegin.is c.job_begin.ensures

pub returns-in-JobEnd : goal.returns-in-JobEnd
returns-in-JobEnd c = rw c.in-JobEnd.is c.job_end.ensures

pub returns-in-Translate : goal.returns-in-Translate
returns-in-Translate c = rw c.in-Translate.is c.translate.ensures
