-- The running jobs as a list in ascending order of their numbers.
use Rattle.std.proofs.Common.{◌≡◌, ◌≢◌, ◌||◌, ℕ, zero, suc, ◌+◌, ◌<◌, ◌≤◌, true, false, cond, List, [], ◌∷◌, ◌++◌, length, map, eqb, arith, refl, sym, ap, length-append, Some, None, Ok, Err}
use Rattle.std.specs.Prelude.{slice_index_or}
use Rattle.std.specs.Option.{option_map}
use Rattle.std.specs.List.{All, find, remove}
use Rattle.std.specs.List.Sorted.{IsSearchInRange, IsBinarySearchResult, IsNonDecreasingBy}
use Rattle.std.specs.Ordering.{nat_cmp, ordering_index}
use Rattle.std.proofs.lemmas.Bool.{eqb-true, eqb-false}
use Rattle.std.proofs.lemmas.Bool.Decides.{nat_tests}
use Rattle.std.proofs.lemmas.Cmp.{ranked}
use Rattle.std.proofs.lemmas.List.Elements.{All-nil, All-cons, All-head, All-tail, All-weaker, All-push}
use Rattle.gv_vm.specs.Jobs.{JobState, JobsState, AreRunning, has_number, runs, places_in, job_state, without_job, many_fault, most_running, most_begun}
use Rattle.gv_vm.specs.JobsInside.{AreAscending, IsAt}
use Rattle.gv_vm.specs.declared.jobs.Job.{Job}
use Rattle.gv_vm.specs.declared.places.Place.{Place}

-- what is found in the rest of a list
tail_ascending : (j : Job) (js : List Job) → AreAscending (j ∷ js) → AreAscending js
tail_ascending j js ascending a b d less in_range = ascending (suc a) (suc b) d (omega arith) (omega arith)

tail_at : (j : Job) (js : List Job) (number k : ℕ) → IsAt (j ∷ js) number (suc k) → IsAt js number k
tail_at j js number k at = record { in_range = omega (arith, at.in_range); has_number = λ d. at.has_number d }

-- the first job has another number than one behind it
apart : (j : Job) (js : List Job) (number k : ℕ) → AreAscending (j ∷ js) → IsAt (j ∷ js) number (suc k) → j.number ≢ number
apart j js number k ascending at same =
    let less : j.number < (slice_index_or js k j).number = ascending 0 (suc k) j (omega arith) at.in_range in
    let there : (slice_index_or js k j).number ≡ number = at.has_number j in
    omega (arith, less, there, same)

-- no job has the number
abbrev HaveAnother : List Job → ℕ → Type 0
HaveAnother js number = (k : ℕ) (d : Job) → k < length js → (slice_index_or js k d).number ≢ number

absent : (js : List Job) (number : ℕ) → HaveAnother js number → runs (map job_state js) number ≡ false
absent [] number none = refl
absent (j ∷ js) number none =
    elim (eqb j.number number) as (λ t. eqb j.number number ≡ t → (t || runs (map job_state js) number) ≡ false) [
      | true ↦ (λ same. absurd (none 0 j (omega arith) (eqb-true j.number number same)))
      | false ↦ (λ other. absent js number (λ k d less. none (suc k) d (omega arith)))
    ] refl

others : (js : List Job) (number : ℕ) → HaveAnother js number → All (λ j. j.number ≢ number) (map job_state js)
others [] number none = All-nil (λ j. j.number ≢ number)
others (j ∷ js) number none =
    All-cons (λ j. j.number ≢ number) (job_state j) (map job_state js) (none 0 j (omega arith)) (others js number (λ k d less. none (suc k) d (omega arith)))

pub present : (js : List Job) (number position : ℕ) → IsAt js number position → runs (map job_state js) number ≡ true
present [] number position at = absurd (omega (arith, at.in_range))
present (j ∷ js) number zero at =
    elim (eqb j.number number) as (λ t. eqb j.number number ≡ t → (t || runs (map job_state js) number) ≡ true) [
      | true ↦ (λ same. refl)
      | false ↦ (λ other. absurd (eqb-false j.number number other (at.has_number j)))
    ] refl
present (j ∷ js) number (suc k) at =
    elim (eqb j.number number) as (λ t. (t || runs (map job_state js) number) ≡ true) [
      | true ↦ refl
      | false ↦ present js number k (tail_at j js number k at)
    ]

-- A binary search by number ends at the job, or says that none has it.
module _ (js : List Job) (ascending : AreAscending js) (number : ℕ) where
  comparisons_rise : IsNonDecreasingBy (λ (j : Job). ordering_index (nat_cmp j.number number)) js
  comparisons_rise i j d le in_range =
      let rise : (slice_index_or js i d).number ≤ (slice_index_or js j d).number = grind (arith, ascending i j d, λ (same : i ≡ j). ap (λ (k : ℕ). (slice_index_or js k d).number) same) in
      grind (arith, nat_tests)

  pub found : (position : ℕ) → IsSearchInRange (Ok position) (length js) → IsBinarySearchResult (λ (j : Job). nat_cmp j.number number) js (Ok position) → IsAt js number position
  found position in_range equal = record { in_range = in_range; has_number = λ d. ranked _ number _ (sym (equal d)) }

  pub not_found : (gap : ℕ) → IsSearchInRange (Err gap) (length js) → IsBinarySearchResult (λ (j : Job). nat_cmp j.number number) js (Err gap) → runs (map job_state js) number ≡ false
  not_found gap in_range parted = absent js number (λ k d less same.
      let smaller : k < gap → (slice_index_or js k d).number < number = λ lt. ranked _ number _ (sym ((parted comparisons_rise).0 k d (omega arith) lt)) in
      let greater : gap ≤ k → number < (slice_index_or js k d).number = λ le. ranked _ number _ (sym ((parted comparisons_rise).1 k d le less)) in
      grind (arith, smaller, greater))

-- the places of the job at a position
pub places_at : (js : List Job) (number position : ℕ) (d : Job) → AreAscending js → IsAt js number position → places_in (map job_state js) number ≡ Some (slice_index_or js position d).places.items
places_at [] number position d ascending at = absurd (omega (arith, at.in_range))
places_at (j ∷ js) number zero d ascending at =
    elim (eqb j.number number) as (λ t. eqb j.number number ≡ t → option_map (λ (r : JobState). r.places) (cond t (Some (job_state j)) (find (has_number number) (map job_state js))) ≡ Some j.places.items) [
      | true ↦ (λ same. refl)
      | false ↦ (λ other. absurd (eqb-false j.number number other (at.has_number j)))
    ] refl
places_at (j ∷ js) number (suc k) d ascending at =
    elim (eqb j.number number) as (λ t. eqb j.number number ≡ t → option_map (λ (r : JobState). r.places) (cond t (Some (job_state j)) (find (has_number number) (map job_state js))) ≡ Some (slice_index_or js k d).places.items) [
      | true ↦ (λ same. absurd (apart j js number k ascending at (eqb-true j.number number same)))
      | false ↦ (λ other. places_at js number k d (tail_ascending j js ascending) (tail_at j js number k at))
    ] refl

pub places_absent : (js : List JobState) (number : ℕ) → runs js number ≡ false → places_in js number ≡ None
places_absent [] number none = refl
places_absent (j ∷ js) number none =
    elim (has_number number j) as (λ t. (t || runs js number) ≡ false → option_map (λ (r : JobState). r.places) (cond t (Some j) (find (has_number number) js)) ≡ None) [
      | true ↦ (λ h. cc)
      | false ↦ (λ h. places_absent js number h)
    ] none

-- the job at a position, taken out, is the one that is left away
pub removed : (js : List Job) (number position : ℕ) → AreAscending js → IsAt js number position → map job_state (remove js position) ≡ without_job number (map job_state js)
removed [] number position ascending at = absurd (omega (arith, at.in_range))
removed (j ∷ js) number zero ascending at =
    elim (eqb j.number number) as (λ t. eqb j.number number ≡ t → map job_state js ≡ cond t (map job_state js) (job_state j ∷ without_job number (map job_state js))) [
      | true ↦ (λ same. refl)
      | false ↦ (λ other. absurd (eqb-false j.number number other (at.has_number j)))
    ] refl
removed (j ∷ js) number (suc k) ascending at =
    elim (eqb j.number number) as (λ t. eqb j.number number ≡ t → job_state j ∷ map job_state (remove js k) ≡ cond t (map job_state js) (job_state j ∷ without_job number (map job_state js))) [
      | true ↦ (λ same. absurd (apart j js number k ascending at (eqb-true j.number number same)))
      | false ↦ (λ other. ap (λ (rs : List JobState). job_state j ∷ rs) (removed js number k (tail_ascending j js ascending) (tail_at j js number k at)))
    ] refl

-- the number of a job that is taken off is that of no other
pub gone : (js : List Job) (number : ℕ) → AreAscending js → All (λ j. j.number ≢ number) (without_job number (map job_state js))
gone [] number ascending = All-nil (λ j. j.number ≢ number)
gone (j ∷ js) number ascending =
    elim (eqb j.number number) as (λ t. eqb j.number number ≡ t → All (λ j. j.number ≢ number) (cond t (map job_state js) (job_state j ∷ without_job number (map job_state js)))) [
      | true ↦ (λ same. others js number (λ k d less is.
          let number_is : j.number ≡ number = eqb-true j.number number same in
          let above : j.number < (slice_index_or js k d).number = ascending 0 (suc k) d (omega arith) (omega arith) in
          omega (arith, number_is, above, is)))
      | false ↦ (λ other. All-cons (λ j. j.number ≢ number) (job_state j) (without_job number (map job_state js)) (eqb-false j.number number other) (gone js number (tail_ascending j js ascending)))
    ] refl

-- each number is below that of the next job
pub below_next : (js : List Job) (next : ℕ) → All (λ j. j.number < next) (map job_state js) → (k : ℕ) (d : Job) → k < length js → (slice_index_or js k d).number < next
below_next [] next below k d less = absurd (omega (arith, less))
below_next (j ∷ js) next below zero d less = All-head (λ j. j.number < next) (job_state j) (map job_state js) below
below_next (j ∷ js) next below (suc k) d less = below_next js next (All-tail (λ j. j.number < next) (job_state j) (map job_state js) below) k d (omega arith)

-- what holds of all jobs holds of those without one
pub All-without : (P : JobState → Type 0) (number : ℕ) (js : List JobState) → All P js → All P (without_job number js)
All-without P number [] all = all
All-without P number (j ∷ js) all =
    elim (has_number number j) as (λ t. All P (cond t js (j ∷ without_job number js))) [
      | true ↦ All-tail P j js all
      | false ↦ All-cons P j (without_job number js) (All-head P j js all) (All-without P number js (All-tail P j js all))
    ]

pub length-without : (number : ℕ) (js : List JobState) → length (without_job number js) ≤ length js
length-without number [] = omega arith
length-without number (j ∷ js) =
    elim (has_number number j) as (λ t. length (cond t js (j ∷ without_job number js)) ≤ length (j ∷ js)) [
      | true ↦ omega arith
      | false ↦ omega (arith, length-without number js)
    ]

pub without_none : (number : ℕ) (js : List JobState) → runs js number ≡ false → without_job number js ≡ js
without_none number [] none = refl
without_none number (j ∷ js) none =
    elim (has_number number j) as (λ t. (t || runs js number) ≡ false → cond t js (j ∷ without_job number js) ≡ j ∷ js) [
      | true ↦ (λ h. cc)
      | false ↦ (λ h. ap (λ (xs : List JobState). j ∷ xs) (without_none number js h))
    ] none

-- why no whole job is refused
few_from_none : (r : JobsState) (count : ℕ) → many_fault r count ≡ None → length r.running < most_running
few_from_none r count none = grind arith

made_from_none : (r : JobsState) (count : ℕ) → many_fault r count ≡ None → r.begun < most_begun
made_from_none r count none = grind arith

-- no whole job is refused: there is room for one more
pub record HasRoomForOne (r : JobsState) : Type 0 where
  pub few : length r.running < most_running
  pub made : r.begun < most_begun

pub room_from_none : (r : JobsState) (count : ℕ) → many_fault r count ≡ None → HasRoomForOne r
room_from_none r count none = record { few = few_from_none r count none; made = made_from_none r count none }

-- a job more, with the next number
pub AreRunning-more : (r : JobsState) (places : List Place) → AreRunning r → HasRoomForOne r →
    AreRunning (record { begun = r.begun + 1; running = r.running ++ record { number = r.begun; places = places } ∷ [] })
AreRunning-more r places running room =
    let j : JobState = record { number = r.begun; places = places } in
    let older : All (λ j. j.number < r.begun + 1) r.running = All-weaker (λ j. j.number < r.begun) (λ j. j.number < r.begun + 1) (λ j h. omega (arith, h)) r.running running.below in
    let newest : r.begun < r.begun + 1 = omega arith in
    record {
      few = omega (arith, room.few, length-append r.running (j ∷ []));
      below = All-push (λ j. j.number < r.begun + 1) r.running j older newest;
      made = omega (arith, room.made);
    }
