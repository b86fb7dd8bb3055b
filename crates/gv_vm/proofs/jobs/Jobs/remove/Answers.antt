use Rattle.std.proofs.Common.{◌≡◌, ◌≢◌, ◌<◌, false, length, map, arith, sym, ◌∙◌, ap, subst, List}
use Rattle.std.specs.List.{All}
use Rattle.std.proofs.lemmas.List.Quantifiers.{all_pairs_remove}
use Rattle.gv_vm.specs.Jobs.{JobState, JobsState, runs, job_state, without_job}
use Rattle.gv_vm.specs.JobsInside.{AreAscending, IsAt}
use Rattle.gv_vm.specs.declared.jobs.Job.{Job}
use Rattle.gv_vm.proofs.RunningJobs.{present, removed, gone, All-without, length-without, without_none}
use Rattle.gv_vm.proofs.jobs.Jobs.remove.Goals as goal

-- no such job runs
pub returns-in-None-clause-jobs : goal.returns-in-None-clause-jobs
returns-in-None-clause-jobs c =
    let none : runs (map job_state c.self.inside.running.items) c.args.number ≡ false =
    subst (λ (xs : List Job). runs (map job_state xs) c.args.number ≡ false) c.deref.ensures.value c.in-None.ensures.none in
    let same : runs c.args.self.now.running c.args.number ≡ false = sym (ap (λ (r : JobsState). runs r.running c.args.number) c.self.view_is) ∙ none in
    ap (λ (rs : List JobState). (let r : JobsState = record c.args.self.now { running = rs } in r)) (sym (without_none c.args.number c.args.self.now.running same))

pub invariant_of-self : goal.invariant_of-self
invariant_of-self c =
    let js : List Job = c.self.inside.running.items in
    let at : IsAt js c.args.number c.in-Some.position = subst (λ (xs : List Job). IsAt xs c.args.number c.in-Some.position) c.deref.ensures.value c.in-Some.ensures.some in
    let left : map job_state c.remove-ended.new.self.items ≡ without_job c.args.number (map job_state js) =
    ap (map job_state) c.remove-ended.ensures.items ∙ removed js c.args.number c.in-Some.position c.self.invariant.ascending at in
    record {
      running = record {
        few = omega (arith, c.self.invariant.running.few, length-without c.args.number (map job_state js), ap length left);
        below = subst (All (λ j. j.number < c.self.inside.begun)) (sym left) (All-without (λ j. j.number < c.self.inside.begun) c.args.number (map job_state js) c.self.invariant.running.below);
        made = c.self.invariant.running.made;
      };
      ascending = subst AreAscending (sym c.remove-ended.ensures.items) (all_pairs_remove (λ (a b : Job). a.number < b.number) js c.in-Some.position at.in_range c.self.invariant.ascending);
    }

pub returns-in-Some-clause-ran : goal.returns-in-Some-clause-ran
returns-in-Some-clause-ran c =
    let js : List Job = c.self.inside.running.items in
    let at : IsAt js c.args.number c.in-Some.position = subst (λ (xs : List Job). IsAt xs c.args.number c.in-Some.position) c.deref.ensures.value c.in-Some.ensures.some in
    sym (present js c.args.number c.in-Some.position at) ∙ ap (λ (r : JobsState). runs r.running c.args.number) c.self.view_is

pub returns-in-Some-clause-jobs : goal.returns-in-Some-clause-jobs
returns-in-Some-clause-jobs c =
    let js : List Job = c.self.inside.running.items in
    let at : IsAt js c.args.number c.in-Some.position = subst (λ (xs : List Job). IsAt xs c.args.number c.in-Some.position) c.deref.ensures.value c.in-Some.ensures.some in
    let left : map job_state c.remove-ended.new.self.items ≡ without_job c.args.number (map job_state js) =
    ap (map job_state) c.remove-ended.ensures.items ∙ removed js c.args.number c.in-Some.position c.self.invariant.ascending at in
    ap (λ (rs : List JobState). (let r : JobsState = record { begun = c.self.inside.begun; running = rs } in r)) left
    ∙ ap (λ (r : JobsState). (let q : JobsState = record r { running = without_job c.args.number r.running } in q)) c.self.view_is

pub returns-in-Some-clause-gone : goal.returns-in-Some-clause-gone
returns-in-Some-clause-gone c =
    let js : List Job = c.self.inside.running.items in
    let at : IsAt js c.args.number c.in-Some.position = subst (λ (xs : List Job). IsAt xs c.args.number c.in-Some.position) c.deref.ensures.value c.in-Some.ensures.some in
    let left : map job_state c.remove-ended.new.self.items ≡ without_job c.args.number (map job_state js) =
    ap (map job_state) c.remove-ended.ensures.items ∙ removed js c.args.number c.in-Some.position c.self.invariant.ascending at in
    subst (All (λ j. j.number ≢ c.args.number)) (sym left) (gone js c.args.number c.self.invariant.ascending)
