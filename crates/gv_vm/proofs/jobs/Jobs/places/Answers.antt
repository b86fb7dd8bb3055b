use Rattle.std.proofs.Common.{◌≡◌, ◌∙◌, false, List, map, sym, ap, subst, Some}
use Rattle.gv_vm.specs.Jobs.{JobsState, runs, places_in, job_state}
use Rattle.gv_vm.specs.JobsInside.{IsAt}
use Rattle.gv_vm.specs.declared.jobs.Job.{Job}
use Rattle.gv_vm.specs.declared.places.Place.{Place}
use Rattle.gv_vm.proofs.RunningJobs.{places_at, places_absent}
use Rattle.gv_vm.proofs.jobs.Jobs.places.Goals as goal

pub returns-in-Some : goal.returns-in-Some
returns-in-Some c =
    let js : List Job = c.self.inside.running.items in
    let at : IsAt js c.args.number c.in-Some.position = subst (λ (xs : List Job). IsAt xs c.args.number c.in-Some.position) c.deref.ensures.value c.in-Some.ensures.some in
    ap (λ (ps : List Place). Some ps) (c.as_slice.ensures.value ∙ ap (λ (j : Job). j.places.items) c.index.ensures)
    ∙ sym (places_at js c.args.number c.in-Some.position _ c.self.invariant.ascending at)
    ∙ ap (λ (r : JobsState). places_in r.running c.args.number) c.self.view_is

pub returns-in-None : goal.returns-in-None
returns-in-None c =
    let js : List Job = c.self.inside.running.items in
    let none : runs (map job_state js) c.args.number ≡ false = subst (λ (xs : List Job). runs (map job_state xs) c.args.number ≡ false) c.deref.ensures.value c.in-None.ensures.none in
    sym (places_absent (map job_state js) c.args.number none) ∙ ap (λ (r : JobsState). places_in r.running c.args.number) c.self.view_is
