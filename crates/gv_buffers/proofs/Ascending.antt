-- The users of a buffer that stand in the order of their jobs.
use Rattle.std.proofs.Common.{◌≡◌, ◌≢◌, ◌+◌, ◌<◌, ◌≤◌, ℕ, zero, suc, List, [], ◌∷◌, length, get_or, true, false, eqb, nat_lt, arith, refl, sym, ap, Some, None, Ok, Err, position, ⊎_elim}
use Rattle.std.specs.List.{All, remove, position_or_len, list_all}
use Rattle.std.specs.List.Sorted.{IsSearchInRange, IsBinarySearchResult, IsNonDecreasingBy}
use Rattle.std.specs.Ordering.{nat_cmp, ordering_index}
use Rattle.std.proofs.lemmas.Bool.{eq-eqb, ne_eqb, eqb-true, eqb-false, lt-ltb, le-ltb, ltb-true, cases_lt}
use Rattle.std.proofs.lemmas.Bool.Decides.{nat_tests}
use Rattle.std.proofs.lemmas.Cmp.{ranked}
use Rattle.std.proofs.lemmas.List.Folds.{list_all_at}
use Rattle.std.proofs.lemmas.List.Sums.{list_all-from_AllPass, AllPass-from_list_all, position_or_len_is, fails_before_first}
use Rattle.std.proofs.lemmas.List.Quantifiers.{position-Some}
use Rattle.gv_buffers.specs.declared.usage.Usage.TheVariants.{Read}
use Rattle.gv_buffers.specs.declared.usage.User.{User}
use Rattle.gv_buffers.specs.Users.{users_without}
use Rattle.gv_buffers.specs.Ascending.{AreAscending, are_below}
use Rattle.gv_buffers.proofs.UsersAfterJoin.{is_of, past_from_none}
use Rattle.gv_buffers.proofs.LeaveUndoesJoin.{left_of_none}

-- the job stands at this index
pub record IsAt (users : List User) (job index : ℕ) : Type 0 where
  pub within : index < length users
  pub here : (d : User) → (get_or users index d).job ≡ job

no_one : User
no_one = record { job = 0; usage = Read }

-- it stands nowhere
abbrev pub IsAbsent : List User → ℕ → Type 0
IsAbsent users job = All (λ u. u.job ≢ job) users

ascending_tail : (user : User) (users : List User) → AreAscending (user ∷ users) → AreAscending users
ascending_tail user users up i j d below within = up (suc i) (suc j) d (omega arith) (omega arith)

at_tail : (user : User) (users : List User) (job index : ℕ) → IsAt (user ∷ users) job (suc index) → IsAt users job index
at_tail user users job index at = record { within = omega (arith, at.within); here = λ d. at.here d }

-- the first user is another than one behind it
first_apart : (user : User) (users : List User) (job index : ℕ) → AreAscending (user ∷ users) → IsAt (user ∷ users) job (suc index) → user.job ≢ job
first_apart user users job index up at same =
    let less : user.job < (get_or users index user).job = up 0 (suc index) user (omega arith) at.within in
    let there : (get_or users index user).job ≡ job = at.here user in
    omega (arith, less, there, same)

reached : (users : List User) (job index : ℕ) → AreAscending users → IsAt users job index → position_or_len (is_of job) users ≡ index
reached users job index up at =
    position_or_len_is (is_of job) users index no_one (omega (arith, at.within))
    (λ k less. ne_eqb _ _ (λ same. let lower = up k index no_one less at.within in omega (arith, lower, at.here no_one, same)))
    (λ _. eq-eqb _ _ (at.here no_one))

passed : (users : List User) (job : ℕ) → IsAbsent users job → position_or_len (is_of job) users ≡ length users
passed users job none =
    position_or_len_is (is_of job) users (length users) no_one (omega arith) (λ k less. ne_eqb _ _ (none k no_one less)) (λ less. absurd (omega (arith, less)))

pub position-at : (users : List User) (job index : ℕ) → AreAscending users → IsAt users job index → position (is_of job) users ≡ Some index
position-at users job index up at =
    let inside : nat_lt index (length users) ≡ true = lt-ltb _ _ at.within in
    rw (reached users job index up at, inside) refl

pub position-absent : (users : List User) (job : ℕ) → IsAbsent users job → position (is_of job) users ≡ None
position-absent users job none =
    let outside : nat_lt (length users) (length users) ≡ false = le-ltb _ _ (omega arith) in
    rw (passed users job none, outside) refl

-- what a search says of users that ascend
pub at-position : (users : List User) (job index : ℕ) → position (is_of job) users ≡ Some index → IsAt users job index
at-position users job index found =
    record {
      within = (position-Some (is_of job) users index no_one found).0;
      here = λ d. eqb-true _ _ (position-Some (is_of job) users index d found).1;
    }

absent_past : (job : ℕ) (users : List User) → length users ≤ position_or_len (is_of job) users → IsAbsent users job
absent_past job users past k d within = eqb-false _ _ (fails_before_first (is_of job) users k d (omega (arith, past, within)))

-- a job that was not found leaves no user away
pub users_without-absent : (job : ℕ) (users : List User) → position (is_of job) users ≡ None → users_without job users ≡ users
users_without-absent job users missed = left_of_none job users (absent_past job users (past_from_none _ _ missed))

-- A binary search by job ends at the job, or says that it is none of the users.
module _ (users : List User) (up : AreAscending users) (job : ℕ) where
  comparisons_rise : IsNonDecreasingBy (λ (u : User). ordering_index (nat_cmp u.job job)) users
  comparisons_rise i j d le within =
      let rise : (get_or users i d).job ≤ (get_or users j d).job = grind (arith, up i j d, λ (same : i ≡ j). ap (λ (k : ℕ). (get_or users k d).job) same) in
      grind (arith, nat_tests)

  pub searched_at : (index : ℕ) → IsSearchInRange (Ok index) (length users) → IsBinarySearchResult (λ (u : User). nat_cmp u.job job) users (Ok index) → IsAt users job index
  searched_at index within equal = record { within = within; here = λ d. ranked _ job _ (sym (equal d)) }

  pub searched_none : (gap : ℕ) → IsSearchInRange (Err gap) (length users) → IsBinarySearchResult (λ (u : User). nat_cmp u.job job) users (Err gap) → IsAbsent users job
  searched_none gap within parted k d less same =
      let smaller : k < gap → (get_or users k d).job < job = λ lt. ranked _ job _ (sym ((parted comparisons_rise).0 k d (omega arith) lt)) in
      let greater : gap ≤ k → job < (get_or users k d).job = λ le. ranked _ job _ (sym ((parted comparisons_rise).1 k d le less)) in
      grind (arith, smaller, greater)

-- the last of several users is the newest
pub below-last : (users : List User) (job index : ℕ) (last : User) → AreAscending users → index + 1 ≡ length users → ((d : User) → get_or users index d ≡ last) →
    are_below job users ≡ nat_lt last.job job
below-last users job index last up end at =
    ⊎_elim
    (λ (older : last.job < job).
    let yes : nat_lt last.job job ≡ true = lt-ltb _ _ older in
    let all : list_all (λ u. nat_lt u.job job) users ≡ true = list_all-from_AllPass (λ u. nat_lt u.job job) users
    (λ k d within. let is : (get_or users index d).job ≡ last.job = ap (λ (u : User). u.job) (at d) in
    lt-ltb _ _ (⊎_elim (λ (before : k < index). omega (arith, up k index d before (omega arith), is, older))
    (λ (past : index ≤ k). let same : k ≡ index = omega (arith, past, within, end) in rw (same, is) older) (cases_lt k index))) in
    rw yes all)
    (λ (newer : job ≤ last.job).
    let no : nat_lt last.job job ≡ false = le-ltb _ _ newer in
    rw no (list_all_at (λ u. nat_lt u.job job) users index last (omega arith) (rw (at last) no)))
    (cases_lt last.job job)

-- a newer job is none of the users
pub absent-below : (job : ℕ) (users : List User) → are_below job users ≡ true → IsAbsent users job
absent-below job users below k d within same =
    let less : (get_or users k d).job < job = ltb-true _ _ (AllPass-from_list_all (λ u. nat_lt u.job job) users below k d within) in
    omega (arith, less, same)

-- to take the job out of its index is to leave it away
pub users_without-at : (users : List User) (job index : ℕ) → AreAscending users → IsAt users job index → remove users index ≡ users_without job users
users_without-at [] job index up at = absurd (omega (arith, at.within))
users_without-at (user ∷ users) job zero up at =
    let mine : user.job ≡ job = at.here user in
    let same : eqb user.job job ≡ true = eq-eqb _ _ mine in
    let others : users_without job users ≡ users = left_of_none job users
    (λ k d within is. let less : user.job < (get_or users k d).job = up 0 (suc k) d (omega arith) (omega arith) in omega (arith, less, is, mine)) in
    rw (same, others) refl
users_without-at (user ∷ users) job (suc index) up at =
    let other : eqb user.job job ≡ false = ne_eqb _ _ (first_apart user users job index up at) in
    rw other (ap (λ (us : List User). user ∷ us) (users_without-at users job index (ascending_tail user users up) (at_tail user users job index at)))
