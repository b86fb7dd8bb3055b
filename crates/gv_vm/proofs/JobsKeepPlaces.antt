-- Running jobs keep their places.
use Rattle.std.proofs.Common.{◌≡◌, ◌≢◌, ℕ, ◌<◌, ◌≤◌, true, false, cond, eqb, List, [], ◌∷◌, ◌++◌, arith, refl, sym, ◌∙◌, ap, subst, Some}
use Rattle.std.specs.Option.{option_map}
use Rattle.std.specs.List.{All, find}
use Rattle.std.proofs.lemmas.Bool.{eqb-true}
use Rattle.std.proofs.lemmas.List.Elements.{All-head, All-tail}
use Rattle.gv_vm.specs.Jobs.{JobsState, JobState, has_number, places_in, without_job}
use Rattle.gv_vm.specs.State.{VmState}
use Rattle.gv_vm.specs.World.{WorldState}
use Rattle.gv_vm.specs.Step.{step}
use Rattle.gv_vm.specs.Run.{IsRunOf}
use Rattle.gv_vm.specs.declared.event.Event.{Event}
use Rattle.gv_vm.specs.declared.event.Event.TheVariants.{Put, Take, Look, Bind, GiveUp, Pay, Raise, Create, Destroy, Rewind, Withdraw, Settle, Forget, Trim, JobBegin, JobEnd, Translate}
use Rattle.gv_vm.specs.declared.event.Reply.{Reply}
use Rattle.gv_vm.specs.declared.event.Reply.TheVariants.{Idle, Put as IsPut, NotPut, Taken, Reached, Lacking, Told, Raised, Created, Destroyed, Rewound, Withdrawn, Settled, Forgot, Trimmed, Begun, Ended, Found, Refused}

abbrev running_in : WorldState → JobsState
running_in w = w.vm.jobs

abbrev running_by : VmState → JobsState
running_by v = v.jobs

-- what lasts of one job
pub record Lasts (number : ℕ) (old new : JobsState) : Type 0 where
  pub begun : old.begun ≤ new.begun
  pub places : places_in new.running number ≡ places_in old.running number

lasts : (number : ℕ) (old new : JobsState) → new ≡ old → Lasts number old new
lasts number old new is = subst (λ (r : JobsState). Lasts number old r) (sym is) (record { begun = omega arith; places = refl })

not_it : (j : JobState) (number : ℕ) → j.number ≢ number → has_number number j ≡ false
not_it j number apart =
    elim (eqb j.number number) as (λ t. eqb j.number number ≡ t → t ≡ false) [
      | true ↦ (λ is. absurd (apart (eqb-true j.number number is)))
      | false ↦ (λ _. refl)
    ] refl

passed : (j : JobState) (js : List JobState) (number : ℕ) → j.number ≢ number → places_in (j ∷ js) number ≡ places_in js number
passed j js number apart = ap (λ t. option_map (λ (x : JobState). x.places) (cond t (Some j) (find (has_number number) js))) (not_it j number apart)

places_more : (js : List JobState) (j : JobState) (number : ℕ) → j.number ≢ number → places_in (js ++ j ∷ []) number ≡ places_in js number
places_more [] j number apart = passed j [] number apart
places_more (x ∷ js) j number apart =
    elim (has_number number x) as (λ t. option_map (λ (y : JobState). y.places) (cond t (Some x) (find (has_number number) (js ++ j ∷ []))) ≡ option_map (λ (y : JobState). y.places) (cond t (Some x) (find (has_number number) js))) [
      | true ↦ refl
      | false ↦ places_more js j number apart
    ]

places_without : (other number : ℕ) (js : List JobState) → other ≢ number → places_in (without_job other js) number ≡ places_in js number
places_without other number [] apart = refl
places_without other number (x ∷ js) apart =
    elim (eqb x.number other) as (λ t. eqb x.number other ≡ t → places_in (cond t js (x ∷ without_job other js)) number ≡ places_in (x ∷ js) number) [
      | true ↦ (λ is. sym (passed x js number (λ same. apart (sym (eqb-true x.number other is) ∙ same))))
      | false ↦ (λ _. elim (has_number number x) as (λ t. option_map (λ (y : JobState). y.places) (cond t (Some x) (find (has_number number) (without_job other js))) ≡ option_map (λ (y : JobState). y.places) (cond t (Some x) (find (has_number number) js))) [
        | true ↦ refl
        | false ↦ places_without other number js apart
      ])
    ] refl

step_lasts : (number : ℕ) (old new : WorldState) (event : Event) (reply : Reply) → step old event reply new → number < old.vm.jobs.begun → event ≢ JobEnd number → Lasts number old.vm.jobs new.vm.jobs
step_lasts number old new (JobBegin accesses) (Begun job places) st below other =
    let apart : job ≢ number = λ same. absurd (omega (arith, same, st.begun.number, below)) in
    subst (λ (r : JobsState). Lasts number old.vm.jobs r) (sym st.begun.jobs) (record {
      begun = omega arith;
      places = places_more old.vm.jobs.running (record { number = job; places = places.items }) number apart;
    })
step_lasts number old new (JobEnd asked) (Ended job) st below other =
    let apart : job ≢ number = λ same. other (ap (λ (k : ℕ). JobEnd k) (sym st.job_is ∙ same)) in
    subst (λ (r : JobsState). Lasts number old.vm.jobs r) (sym st.ended.jobs) (record { begun = omega arith; places = places_without job number old.vm.jobs.running apart })
step_lasts number old new (Pay n) (Raised point now) st below other = lasts number _ _ (ap running_in st.state)
step_lasts number old new (Raise asked) (Raised point now) st below other = lasts number _ _ (ap running_in st.state)
step_lasts number old new (Put n request) (IsPut put) st below other = lasts number _ _ (ap running_in st.state)
step_lasts number old new (Put n request) (NotPut fault back) st below other = lasts number _ _ (ap running_in st.state)
step_lasts number old new (Take n) (Taken told) st below other = lasts number _ _ (ap running_in st.state)
step_lasts number old new (Look n) (Reached point seen) st below other = lasts number _ _ (ap running_in st.state)
step_lasts number old new (Look n) (Lacking point have) st below other = lasts number _ _ (ap running_in st.state)
step_lasts number old new (Bind n) (Told told outcome) st below other = lasts number _ _ st.vm.jobs
step_lasts number old new (GiveUp n) (Told told outcome) st below other = lasts number _ _ (ap running_in st.state)
step_lasts number old new (Create size) (Created id) st below other = lasts number _ _ (ap running_by st.vm)
step_lasts number old new (Destroy id) Destroyed st below other = lasts number _ _ (ap running_by st.vm)
step_lasts number old new Rewind (Rewound item) st below other = lasts number _ _ (ap running_in st.state)
step_lasts number old new (Withdraw entry) (Withdrawn item) st below other = lasts number _ _ (ap running_in st.state)
step_lasts number old new (Settle to) (Settled count) st below other = lasts number _ _ (ap running_in st.state)
step_lasts number old new (Forget queue to) (Forgot count) st below other = lasts number _ _ (ap running_in st.state)
step_lasts number old new Trim Trimmed st below other = lasts number _ _ (ap running_in st.state)
step_lasts number old new (Translate addr) (Found place) st below other = lasts number _ _ (ap running_in st.1)
step_lasts number old new event Idle st below other = lasts number _ _ (ap running_in st.1)
step_lasts number old new event (Refused fault) st below other = lasts number _ _ (ap running_in st.1)
step_lasts number old new event reply st below other = absurd st

pub keeps_places : (old new : WorldState) (events : List Event) (replies : List Reply) (number : ℕ) → IsRunOf old events replies new → number < old.vm.jobs.begun →
    All (λ event. event ≢ JobEnd number) events → places_in new.vm.jobs.running number ≡ places_in old.vm.jobs.running number
keeps_places old new [] [] number ran below others = ap (λ (w : WorldState). places_in w.vm.jobs.running number) ran
keeps_places old new (event ∷ events) (reply ∷ replies) number ran below others =
    let here : Lasts number old.vm.jobs ran.0.vm.jobs = step_lasts number old ran.0 event reply ran.1 below (All-head (λ e. e ≢ JobEnd number) event events others) in
    keeps_places ran.0 new events replies number ran.3 (omega (arith, here.begun, below)) (All-tail (λ e. e ≢ JobEnd number) event events others) ∙ here.places
keeps_places old new [] (reply ∷ replies) number ran below others = absurd ran
keeps_places old new (event ∷ events) [] number ran below others = absurd ran
