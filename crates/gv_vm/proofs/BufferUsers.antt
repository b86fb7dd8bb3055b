-- Who uses the buffers: the running jobs and nobody else, each those behind its places.
use Rattle.std.proofs.Common.{◌≡◌, ◌≢◌, ◌||◌, ℕ, ◌+◌, ◌<◌, Bool, true, false, cond, not, List, [], ◌∷◌, ◌++◌, map, eqb, arith, refl, sym, ◌∙◌, ap, subst, Some, None, Option, IsSome}
use Rattle.std.specs.Prelude.{IsSomeAnd}
use Rattle.std.specs.Option.{option_map}
use Rattle.std.specs.List.{All, list_any}
use Rattle.std.proofs.lemmas.Bool.{eqb-true, eq-eqb, ne_eqb, eqb-false, or_left, or_right}
use Rattle.std.proofs.lemmas.List.Elements.{All-nil, All-cons, All-head, All-tail, All-weaker, All-push, All-map}
use Rattle.std.proofs.lemmas.List.Folds.{list_any-append}
use Rattle.gv_types.specs.declared.mapping.BufferId.{BufferId}
use Rattle.gv_types.specs.declared.mapping.Mapping.{Mapping}
use Rattle.gv_types.specs.declared.fault.Fault.{Fault}
use Rattle.gv_buffers.specs.declared.usage.Usage.{Usage}
use Rattle.gv_buffers.specs.declared.usage.User.{User}
use Rattle.gv_buffers.specs.Users.{stronger, joined, users_without}
use Rattle.gv_buffers.specs.Buffers.{Buffer, BuffersState, buffer, has_id, only, changed, joined_by, left_by, left_everywhere, join_fault_of}
use Rattle.gv_buffers.specs.Laws.{ChangedBufferIsFound, LeftBufferIsFound, IsNoUser}
use Rattle.gv_space.specs.Refusal.{first_of}
use Rattle.gv_space.specs.State.{SpaceState}
use Rattle.gv_space.proofs.BufferTableLemmas.{found_live, IsFound}
use Rattle.gv_vm.specs.Places.{place_at}
use Rattle.gv_vm.specs.Jobs.{JobState, JobsState, AreRunning, AreHeld, IsHeld, IsBegun, runs, has_number, without_job, target_fault, place_fault, access_fault, accesses_fault, with_target_held, with_place_held, with_access_held, with_all_held}
use Rattle.gv_vm.specs.declared.jobs.Access.{Access}
use Rattle.gv_vm.specs.declared.jobs.Job.{Job}
use Rattle.gv_vm.specs.declared.places.Place.{Place}
use Rattle.gv_vm.specs.declared.places.Target.{Target}
use Rattle.gv_vm.specs.declared.places.Target.TheVariants.{Buffer as BufferByte, Zero}
use Rattle.gv_vm.proofs.RunningJobs.{All-without}

abbrev uses_it : ℕ → List User → Bool
uses_it job users = list_any (λ u. eqb u.job job) users

-- who uses a buffer still does once a job joins
uses-joined : (other job : ℕ) (usage : Usage) (users : List User) → uses_it other users ≡ true → uses_it other (joined job usage users) ≡ true
uses-joined other job usage [] h = cc
uses-joined other job usage (u ∷ users) h =
    elim (eqb u.job job) as (λ t. uses_it other (cond t (record u { usage = stronger u.usage usage } ∷ users) (u ∷ joined job usage users)) ≡ true) [
      | true ↦ h
      | false ↦ (elim (eqb u.job other) as (λ t. (t || uses_it other users) ≡ true → (t || uses_it other (joined job usage users)) ≡ true) [
        | true ↦ (λ _. refl)
        | false ↦ (λ g. uses-joined other job usage users g)
      ] h)
    ]

-- and so does that job
uses-joined_itself : (job : ℕ) (usage : Usage) (users : List User) → uses_it job (joined job usage users) ≡ true
uses-joined_itself job usage [] = let itself : eqb job job ≡ true = eq-eqb _ _ refl in rw itself refl
uses-joined_itself job usage (u ∷ users) =
    elim (eqb u.job job) as (λ t. eqb u.job job ≡ t → uses_it job (cond t (record u { usage = stronger u.usage usage } ∷ users) (u ∷ joined job usage users)) ≡ true) [
      | true ↦ (λ same. rw same refl)
      | false ↦ (λ apart. rw apart (uses-joined_itself job usage users))
    ] refl

-- who uses a buffer still does once another job leaves
uses-left : (other job : ℕ) (users : List User) → other ≢ job → uses_it other users ≡ true → uses_it other (users_without job users) ≡ true
uses-left other job [] apart h = cc
uses-left other job (u ∷ users) apart h =
    elim (eqb u.job job) as (λ t. eqb u.job job ≡ t → uses_it other (cond (not t) (u ∷ users_without job users) (users_without job users)) ≡ true) [
      | true ↦ (λ same.
          let is_job : u.job ≡ job = eqb-true u.job job same in
          let no : eqb u.job other ≡ false = ne_eqb u.job other (λ e. apart (sym e ∙ is_job)) in
          uses-left other job users apart (rw no at h))
      | false ↦ (λ _. elim (eqb u.job other) as (λ t. (t || uses_it other users) ≡ true → (t || uses_it other (users_without job users)) ≡ true) [
        | true ↦ (λ _. refl)
        | false ↦ (λ g. uses-left other job users apart g)
      ] h)
    ] refl

someone : (P Q : Buffer → Type 0) (f : Buffer → Buffer) (o : Option Buffer) → ((b : Buffer) → P b → Q (f b)) → IsSomeAnd o P → IsSomeAnd (option_map f o) Q
someone P Q f None keeps h = absurd h
someone P Q f (Some b) keeps h = keeps b h

abbrev UsedBy : ℕ → Buffer → Type 0
UsedBy job b = uses_it job b.users ≡ true

used-only : (other : ℕ) (id : BufferId) (job : ℕ) (usage : Usage) (b : Buffer) → UsedBy other b → UsedBy other (only id (joined_by job usage) b)
used-only other id job usage b h = elim (has_id id b) as (λ t. UsedBy other (cond t (joined_by job usage b) b)) [ true ↦ uses-joined other job usage b.users h | false ↦ h ]

-- what a job holds it still holds once a job holds more
IsHeld-with_target_held : (law : ChangedBufferIsFound) (t : BuffersState) (other job : ℕ) (usage : Usage) (more target : Target) → IsHeld t other target → IsHeld (with_target_held job usage more t) other target
IsHeld-with_target_held law t other job usage (BufferByte id byte) (BufferByte at at_byte) h =
    subst (λ (o : Option Buffer). IsSomeAnd o (UsedBy other)) (sym (law t id at (joined_by job usage) (λ b. refl)))
    (someone (UsedBy other) (UsedBy other) (only id (joined_by job usage)) (buffer t at) (used-only other id job usage) h)
IsHeld-with_target_held law t other job usage (BufferByte id byte) Zero h = tt
IsHeld-with_target_held law t other job usage Zero target h = h

IsHeld-with_place_held : (law : ChangedBufferIsFound) (t : BuffersState) (other job : ℕ) (usage : Usage) (more : Option Place) (target : Target) → IsHeld t other target → IsHeld (with_place_held job usage more t) other target
IsHeld-with_place_held law t other job usage None target h = h
IsHeld-with_place_held law t other job usage (Some place) target h = IsHeld-with_target_held law t other job usage place.target target h

IsHeld-with_all_held : (law : ChangedBufferIsFound) (ms : List Mapping) (t : BuffersState) (other job : ℕ) (accesses : List Access) (target : Target) → IsHeld t other target → IsHeld (with_all_held ms job accesses t) other target
IsHeld-with_all_held law ms t other job [] target h = h
IsHeld-with_all_held law ms t other job (a ∷ accesses) target h =
    IsHeld-with_all_held law ms (with_access_held ms job a t) other job accesses target (IsHeld-with_place_held law t other job a.usage (place_at ms a.addr) target h)

lives : (o : Option Buffer) (job : ℕ) (usage : Usage) → join_fault_of job usage o ≡ None → IsSome o
lives None job usage none = cc
lives (Some b) job usage none = refl

-- a job holds what it was let hold
IsHeld-itself : (law : ChangedBufferIsFound) (t : BuffersState) (job : ℕ) (usage : Usage) (target : Target) → target_fault t job usage target ≡ None → IsHeld (with_target_held job usage target t) job target
IsHeld-itself law t job usage (BufferByte id byte) none =
    let found : IsFound t id (λ _. Unit {0}) = found_live (λ _. Unit {0}) t id (λ k d less. tt) (lives (buffer t id) job usage none) in
    let changed_is : buffer (changed id (joined_by job usage) t) id ≡ Some (only id (joined_by job usage) found.b) =
    law t id id (joined_by job usage) (λ b. refl) ∙ ap (option_map (only id (joined_by job usage))) found.found in
    subst (λ (o : Option Buffer). IsSomeAnd o (UsedBy job)) (sym changed_is)
    (let here : only id (joined_by job usage) found.b ≡ joined_by job usage found.b = ap (λ (t : Bool). cond t (joined_by job usage found.b) found.b) found.same_id in
    subst (UsedBy job) (sym here) (uses-joined_itself job usage found.b.users))
IsHeld-itself law t job usage Zero none = tt

none_of_first : (o p : Option Fault) → first_of o p ≡ None → o ≡ None
none_of_first None p none = refl
none_of_first (Some fault) p none = cc

none_of_later : (o p : Option Fault) → first_of o p ≡ None → p ≡ None
none_of_later None p none = none
none_of_later (Some fault) p none = cc

none_of_choice : (b : Bool) (fault : Fault) (o : Option Fault) → cond b (Some fault) o ≡ None → o ≡ None
none_of_choice true fault o none = cc
none_of_choice false fault o none = none

-- and so what its places are before
places_held : (law : ChangedBufferIsFound) (ms : List Mapping) (job n : ℕ) (t : BuffersState) (accesses : List Access) (places : List Place) → accesses_fault ms job t n accesses ≡ None →
    map Some places ≡ map (λ a. place_at ms a.addr) accesses → All (λ p. IsHeld (with_all_held ms job accesses t) job p.target) places
places_held law ms job n t [] [] none found = All-nil (λ p. IsHeld t job p.target)
places_held law ms job n t [] (p ∷ places) none found = cc
places_held law ms job n t (a ∷ accesses) [] none found = cc
places_held law ms job n t (a ∷ accesses) (p ∷ places) none found =
    let here : place_at ms a.addr ≡ Some p = cc in
    let rest : map Some places ≡ map (λ a. place_at ms a.addr) accesses = cc in
    let after : BuffersState = with_access_held ms job a t in
    let held_is : after ≡ with_target_held job a.usage p.target t = ap (λ (o : Option Place). with_place_held job a.usage o t) here in
    let allowed : place_fault t job n a.usage (Some p) ≡ None =
    ap (λ (o : Option Place). place_fault t job n a.usage o) (sym here) ∙ none_of_first (access_fault ms job t n a) (accesses_fault ms job after (n + 1) accesses) none in
    let held_now : IsHeld after job p.target = subst (λ (u : BuffersState). IsHeld u job p.target) (sym held_is) (IsHeld-itself law t job a.usage p.target (none_of_choice _ _ _ allowed)) in
    All-cons (λ p. IsHeld (with_all_held ms job accesses after) job p.target) p places
    (IsHeld-with_all_held law ms after job job accesses p.target held_now)
    (places_held law ms job (n + 1) after accesses places (none_of_later (access_fault ms job t n a) (accesses_fault ms job after (n + 1) accesses) none) rest)

-- the users of each buffer are such jobs
abbrev UsersAre : (ℕ → Type 0) → Buffer → Type 0
UsersAre P b = All (λ u. P u.job) b.users

users-joined : (P : ℕ → Type 0) (job : ℕ) (usage : Usage) (users : List User) → P job → All (λ u. P u.job) users → All (λ u. P u.job) (joined job usage users)
users-joined P job usage [] new all = All-cons (λ u. P u.job) (record { job = job; usage = usage }) [] new (All-nil (λ u. P u.job))
users-joined P job usage (u ∷ users) new all =
    elim (eqb u.job job) as (λ t. All (λ u. P u.job) (cond t (record u { usage = stronger u.usage usage } ∷ users) (u ∷ joined job usage users))) [
      | true ↦ All-cons (λ u. P u.job) (record u { usage = stronger u.usage usage }) users (All-head (λ u. P u.job) u users all) (All-tail (λ u. P u.job) u users all)
      | false ↦ All-cons (λ u. P u.job) u (joined job usage users) (All-head (λ u. P u.job) u users all) (users-joined P job usage users new (All-tail (λ u. P u.job) u users all))
    ]

users-only : (P : ℕ → Type 0) (id : BufferId) (job : ℕ) (usage : Usage) (b : Buffer) → P job → UsersAre P b → UsersAre P (only id (joined_by job usage) b)
users-only P id job usage b new all = elim (has_id id b) as (λ t. UsersAre P (cond t (joined_by job usage b) b)) [ true ↦ users-joined P job usage b.users new all | false ↦ all ]

users-with_target_held : (P : ℕ → Type 0) (job : ℕ) (usage : Usage) (target : Target) (t : BuffersState) → P job → All (UsersAre P) t.live → All (UsersAre P) (with_target_held job usage target t).live
users-with_target_held P job usage (BufferByte id byte) t new all =
    All-map (UsersAre P) (only id (joined_by job usage)) t.live (All-weaker (UsersAre P) (λ b. UsersAre P (only id (joined_by job usage) b)) (λ b h. users-only P id job usage b new h) t.live all)
users-with_target_held P job usage Zero t new all = all

users-with_place_held : (P : ℕ → Type 0) (job : ℕ) (usage : Usage) (place : Option Place) (t : BuffersState) → P job → All (UsersAre P) t.live → All (UsersAre P) (with_place_held job usage place t).live
users-with_place_held P job usage None t new all = all
users-with_place_held P job usage (Some place) t new all = users-with_target_held P job usage place.target t new all

users-with_all_held : (P : ℕ → Type 0) (ms : List Mapping) (job : ℕ) (accesses : List Access) (t : BuffersState) → P job → All (UsersAre P) t.live → All (UsersAre P) (with_all_held ms job accesses t).live
users-with_all_held P ms job [] t new all = all
users-with_all_held P ms job (a ∷ accesses) t new all =
    users-with_all_held P ms job accesses (with_access_held ms job a t) new (users-with_place_held P job a.usage (place_at ms a.addr) t new all)

abbrev Runs : List JobState → ℕ → Type 0
Runs js job = runs js job ≡ true

runs-older : (js : List JobState) (j : JobState) (job : ℕ) → Runs js job → Runs (js ++ j ∷ []) job
runs-older js j job h = list_any-append (has_number job) js (j ∷ []) ∙ or_left (runs js job) (runs (j ∷ []) job) h

runs-newest : (js : List JobState) (j : JobState) → Runs (js ++ j ∷ []) j.number
runs-newest js j =
    let same : eqb j.number j.number ≡ true = eq-eqb j.number j.number refl in
    let itself : runs (j ∷ []) j.number ≡ true = or_left (eqb j.number j.number) false same in
    list_any-append (has_number j.number) js (j ∷ []) ∙ or_right (runs js j.number) (runs (j ∷ []) j.number) itself

-- a job began
AreHeld-more : (law : ChangedBufferIsFound) (ms : List Mapping) (t : BuffersState) (js : List JobState) (j : JobState) (accesses : List Access) → AreHeld t js →
    accesses_fault ms j.number t 0 accesses ≡ None → map Some j.places ≡ map (λ a. place_at ms a.addr) accesses → AreHeld (with_all_held ms j.number accesses t) (js ++ j ∷ [])
AreHeld-more law ms t js j accesses held none found =
    let after : BuffersState = with_all_held ms j.number accesses t in
    let older : All (λ b. UsersAre (Runs (js ++ j ∷ [])) b) t.live =
    All-weaker (UsersAre (Runs js)) (UsersAre (Runs (js ++ j ∷ []))) (λ b h. All-weaker (λ u. Runs js u.job) (λ u. Runs (js ++ j ∷ []) u.job) (λ u g. runs-older js j u.job g) b.users h) t.live held.users in
    let Holds : JobState → Type 0 = λ i. All (λ p. IsHeld after i.number p.target) i.places in
    let still : All Holds js =
    All-weaker (λ i. All (λ p. IsHeld t i.number p.target) i.places) Holds
    (λ i h. All-weaker (λ p. IsHeld t i.number p.target) (λ p. IsHeld after i.number p.target) (λ p g. IsHeld-with_all_held law ms t i.number j.number accesses p.target g) i.places h) js held.places in
    record {
      users = users-with_all_held (Runs (js ++ j ∷ [])) ms j.number accesses t (runs-newest js j) older;
      places = All-push Holds js j still (places_held law ms j.number 0 t accesses j.places none found);
    }

pub AreHeld-begun : (law : ChangedBufferIsFound) (old new : SpaceState) (before after : JobsState) (accesses : List Access) (job : Job) → AreHeld old.buffers before.running →
    accesses_fault old.mappings before.begun old.buffers 0 accesses ≡ None → IsBegun old new before after accesses job → AreHeld new.buffers after.running
AreHeld-begun law old new before after accesses job held none begun =
    let j : JobState = record { number = before.begun; places = job.places.items } in
    let jobs : after.running ≡ before.running ++ j ∷ [] =
    ap (λ (r : JobsState). r.running) begun.jobs ∙ ap (λ (n : ℕ). before.running ++ record { number = n; places = job.places.items } ∷ []) begun.number in
    subst (λ (t : BuffersState). AreHeld t after.running) (sym (ap (λ (s : SpaceState). s.buffers) begun.space))
    (subst (AreHeld (with_all_held old.mappings before.begun accesses old.buffers)) (sym jobs) (AreHeld-more law old.mappings old.buffers before.running j accesses held none begun.places))

runs-without : (js : List JobState) (number job : ℕ) → job ≢ number → Runs js job → Runs (without_job number js) job
runs-without [] number job apart h = h
runs-without (j ∷ js) number job apart h =
    elim (eqb j.number number) as (λ t. eqb j.number number ≡ t → Runs (cond t js (j ∷ without_job number js)) job) [
      | true ↦ (λ same.
          let no : eqb j.number job ≡ false = ne_eqb j.number job (λ e. apart (sym e ∙ eqb-true j.number number same)) in
          rw no at h)
      | false ↦ (λ _. elim (eqb j.number job) as (λ t. (t || runs js job) ≡ true → (t || runs (without_job number js) job) ≡ true) [
        | true ↦ (λ _. refl)
        | false ↦ (λ g. runs-without js number job apart g)
      ] h)
    ] refl

users-left : (js : List JobState) (number : ℕ) (users : List User) → All (λ u. Runs js u.job) users → All (λ u. Runs (without_job number js) u.job) (users_without number users)
users-left js number [] all = All-nil (λ u. Runs (without_job number js) u.job)
users-left js number (u ∷ users) all =
    let P : User → Type 0 = λ u. Runs (without_job number js) u.job in
    let rest : All P (users_without number users) = users-left js number users (All-tail (λ u. Runs js u.job) u users all) in
    elim (eqb u.job number) as (λ t. eqb u.job number ≡ t → All P (cond (not t) (u ∷ users_without number users) (users_without number users))) [
      | true ↦ (λ _. rest)
      | false ↦ (λ other. All-cons P u (users_without number users) (runs-without js number u.job (eqb-false u.job number other) (All-head (λ u. Runs js u.job) u users all)) rest)
    ] refl

IsHeld-left : (law : LeftBufferIsFound) (t : BuffersState) (other job : ℕ) (target : Target) → other ≢ job → IsHeld t other target → IsHeld (left_everywhere job t) other target
IsHeld-left law t other job (BufferByte id byte) apart h =
    subst (λ (o : Option Buffer). IsSomeAnd o (UsedBy other)) (sym (law t id job))
    (someone (UsedBy other) (UsedBy other) (left_by job) (buffer t id) (λ b g. uses-left other job b.users apart g) h)
IsHeld-left law t other job Zero apart h = tt

both : (P Q : JobState → Type 0) (js : List JobState) → All P js → All Q js → All (λ j. P j × Q j) js
both P Q js p q k d less = (p k d less, q k d less)

-- a job ended
pub AreHeld-ended : (law : LeftBufferIsFound) (t : BuffersState) (js : List JobState) (number : ℕ) → AreHeld t js → All (λ j. j.number ≢ number) (without_job number js) →
    AreHeld (left_everywhere number t) (without_job number js)
AreHeld-ended law t js number held gone =
    let Held : JobState → Type 0 = λ j. All (λ p. IsHeld t j.number p.target) j.places in
    record {
      users = All-map (UsersAre (Runs (without_job number js))) (left_by number) t.live
          (All-weaker (UsersAre (Runs js)) (λ b. UsersAre (Runs (without_job number js)) (left_by number b)) (λ b h. users-left js number b.users h) t.live held.users);
      places = All-weaker (λ j. Held j × (j.number ≢ number)) (λ j. All (λ p. IsHeld (left_everywhere number t) j.number p.target) j.places)
          (λ j h. All-weaker (λ p. IsHeld t j.number p.target) (λ p. IsHeld (left_everywhere number t) j.number p.target) (λ p g. IsHeld-left law t j.number number p.target h.1 g) j.places h.0)
          (without_job number js) (both Held (λ j. j.number ≢ number) (without_job number js) (All-without Held number js held.places) gone);
    }

runs_below : (js : List JobState) (job begun : ℕ) → All (λ j. j.number < begun) js → Runs js job → job < begun
runs_below [] job begun below h = cc
runs_below (j ∷ js) job begun below h =
    elim (eqb j.number job) as (λ t. eqb j.number job ≡ t → (t || runs js job) ≡ true → job < begun) [
      | true ↦ (λ same _. let here : j.number < begun = All-head (λ j. j.number < begun) j js below in omega (arith, eqb-true j.number job same))
      | false ↦ (λ _ g. runs_below js job begun (All-tail (λ j. j.number < begun) j js below) g)
    ] refl h

-- the next number is that of no user
pub next_uses_nothing : (t : BuffersState) (r : JobsState) → AreHeld t r.running → AreRunning r → All (IsNoUser r.begun) t.live
next_uses_nothing t r held running =
    All-weaker (UsersAre (Runs r.running)) (IsNoUser r.begun)
    (λ b h. All-weaker (λ u. Runs r.running u.job) (λ u. u.job ≢ r.begun)
    (λ u g same. let less : u.job < r.begun = runs_below r.running u.job r.begun running.below g in absurd (omega (arith, same))) b.users h) t.live held.users

-- what a refused job held is given up, and the space is as it was
pub given_up : (old mid new : SpaceState) (job : ℕ) → mid ≡ record old { buffers = mid.buffers } → left_everywhere job mid.buffers ≡ left_everywhere job old.buffers →
    new ≡ record mid { buffers = left_everywhere job mid.buffers } → left_everywhere job old.buffers ≡ old.buffers → new ≡ old
given_up old mid new job rest left gone nothing =
    gone ∙ ap (λ (t : BuffersState). record mid { buffers = t }) (left ∙ nothing) ∙ ap (λ (s : SpaceState). record s { buffers = old.buffers }) rest
