use Rattle.std.proofs.Common.{◌≡◌, ◌≢◌, List, sym, ◌∙◌, ap, subst}
use Rattle.std.specs.List.{All}
use Rattle.gv_space.specs.State.{SpaceState}
use Rattle.gv_vm.specs.Jobs.{JobState, JobsState, AreHeld, without_job}
use Rattle.gv_vm.proofs.BufferUsers.{AreHeld-ended}
use Rattle.gv_vm.proofs.RunningJobs.{without_none}
use Rattle.gv_vm.proofs.jobs.Jobs.end.Goals as goal

pub returns-then-not-remove-clause-unchanged : goal.returns-then-not-remove-clause-unchanged
returns-then-not-remove-clause-unchanged c =
    c.remove.ensures.jobs ∙ ap (λ (js : List JobState). (let r : JobsState = record c.args.self.now { running = js } in r)) (without_none c.args.number c.args.self.now.running (sym c.if-not-remove.ensures.ran))

pub returns-then-not-remove-clause-held : goal.returns-then-not-remove-clause-held
returns-then-not-remove-clause-held c =
    subst (λ (js : List JobState). AreHeld c.args.space.now.buffers js)
    (sym (ap (λ (r : JobsState). r.running) c.remove.ensures.jobs ∙ without_none c.args.number c.args.self.now.running (sym c.if-not-remove.ensures.ran))) c.requires

pub returns-clause-held : goal.returns-clause-held
returns-clause-held c =
    let jobs : c.remove.new.self.running ≡ without_job c.args.number c.args.self.now.running = ap (λ (r : JobsState). r.running) c.remove.ensures.jobs in
    let gone : All (λ j. j.number ≢ c.args.number) (without_job c.args.number c.args.self.now.running) = subst (All (λ j. j.number ≢ c.args.number)) jobs c.remove.ensures.gone in
    subst (λ (js : List JobState). AreHeld c.leave.new.self.buffers js) (sym jobs)
    (subst (λ (s : SpaceState). AreHeld s.buffers (without_job c.args.number c.args.self.now.running)) (sym c.leave.ensures.state)
    (AreHeld-ended c.lookups.ensures.left c.args.space.now.buffers c.args.self.now.running c.args.number c.requires gone))
