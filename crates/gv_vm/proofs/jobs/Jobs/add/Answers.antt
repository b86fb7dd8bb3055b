use Rattle.std.proofs.Common.{◌≡◌, ◌+◌, ◌++◌, ◌∷◌, ◌<◌, [], map, sym, ◌∙◌, ap, subst, List, None}
use Rattle.std.proofs.lemmas.List.{map-append}
use Rattle.std.proofs.lemmas.List.Quantifiers.{all_pairs_push}
use Rattle.gv_vm.specs.Jobs.{JobState, JobsState, AreRunning, many_fault, job_state}
use Rattle.gv_vm.specs.JobsInside.{AreAscending, running_of}
use Rattle.gv_vm.specs.declared.jobs.Job.{Job}
use Rattle.gv_vm.proofs.RunningJobs.{AreRunning-more, room_from_none, below_next}
use Rattle.gv_vm.proofs.jobs.Jobs.add.Goals as goal

pub invariant_of-self-2 : goal.invariant_of-self-2
invariant_of-self-2 c =
    let r : JobsState = running_of c.self.inside in
    let js : List Job = c.self.inside.running.items in
    let job : Job = record { number = r.begun; places = c.in_ok-kept.kept } in
    let items : c.push_reserved.new.self.items ≡ js ++ job ∷ [] = c.push_reserved.ensures.items ∙ ap (λ (xs : List Job). xs ++ job ∷ []) c.reserve.ensures.items in
    let jobs : map job_state c.push_reserved.new.self.items ≡ r.running ++ job_state job ∷ [] = ap (map job_state) items ∙ map-append job_state js (job ∷ []) in
    let more : AreRunning (record { begun = r.begun + 1; running = r.running ++ job_state job ∷ [] }) =
    AreRunning-more r c.in_ok-kept.kept.items c.self.invariant.running (room_from_none r 0 (subst (λ (q : JobsState). many_fault q 0 ≡ None) (sym c.self.view_is) c.requires)) in
    record {
      running = subst (λ (rs : List JobState). AreRunning (record { begun = r.begun + 1; running = rs })) (sym jobs) more;
      ascending = subst AreAscending (sym items) (all_pairs_push (λ (a b : Job). a.number < b.number) js job c.self.invariant.ascending (below_next js r.begun c.self.invariant.running.below));
    }
