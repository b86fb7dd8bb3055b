use Rattle.std.proofs.Common.{rules}
use Rattle.std.proofs.lemmas.List.Sorted.{answers_always}
use Rattle.gv_vm.specs.declared.jobs.Job.{Job}
use Rattle.gv_vm.proofs.RunningJobs.{found, not_found}
use Rattle.gv_vm.proofs.jobs.position_of.Goals as goal

-- the closure gives a job's number
pub returns-in-Ok-clause-some : goal.returns-in-Ok-clause-some
returns-in-Ok-clause-some c =
    found c.args.running.now c.requires c.args.number c.in-Ok.position c.in-Ok.ensures.bound
    (c.in-Ok.ensures.position (λ (j : Job). j.number) (answers_always _ _ _ (λ f a r g called. search rules)))

pub returns-in-Err-clause-none : goal.returns-in-Err-clause-none
returns-in-Err-clause-none c =
    not_found c.args.running.now c.requires c.args.number c.in-Err.field-0 c.in-Err.ensures.bound
    (c.in-Err.ensures.position (λ (j : Job). j.number) (answers_always _ _ _ (λ f a r g called. search rules)))
