-- The users of a buffer after a join, by the index where the job stands.
use Rattle.std.proofs.Common.{◌≡◌, ℕ, zero, suc, ◌+◌, ◌<◌, ◌≤◌, List, [], ◌∷◌, ◌++◌, length, get_or, set, Bool, true, false, cond, not, eqb, arith, refl, sym, ap, subst, Some, None, ltb, ⊎_elim}
use Rattle.std.specs.List.{position_or_len}
use Rattle.std.proofs.lemmas.Bool.{lt-ltb, cases_lt}
use Rattle.std.proofs.lemmas.Option.{none-some}
use Rattle.gv_buffers.specs.declared.usage.Usage.{Usage}
use Rattle.gv_buffers.specs.declared.usage.User.{User}
use Rattle.gv_buffers.specs.Users.{stronger, joined}

abbrev pub is_of : ℕ → User → Bool
is_of job user = eqb user.job job

-- a job that stands at index i gets the stronger usage there
pub set_joined : (job : ℕ) (usage w : Usage) (users : List User) (i : ℕ) (x y : User) → i < length users →
    x ≡ get_or users i x → y ≡ get_or users i y → w ≡ stronger y.usage usage → is_of job x ≡ true →
    ((k : ℕ) → k < i → is_of job (get_or users k x) ≡ false) →
    set users i (record { job = x.job; usage = w }) ≡ joined job usage users
set_joined job usage w [] i x y within ex ey ew here before = absurd (omega arith)
set_joined job usage w (user ∷ users) zero x y within ex ey ew here before =
    let at : eqb user.job job ≡ true = subst (λ (v : User). eqb v.job job ≡ true) ex here in
    rw (at, ew, ey, ex) refl
set_joined job usage w (user ∷ users) (suc i) x y within ex ey ew here before =
    let head : eqb user.job job ≡ false = before 0 (omega arith) in
    let tail : set users i (record { job = x.job; usage = w }) ≡ joined job usage users =
    set_joined job usage w users i x y (omega arith) ex ey ew here (λ k below. before (suc k) (omega arith)) in
    rw (head, tail) refl

-- a job that isn't there is put at the end
pub push_joined_past : (job : ℕ) (usage : Usage) (users : List User) → length users ≤ position_or_len (is_of job) users →
    users ++ (record { job = job; usage = usage }) ∷ [] ≡ joined job usage users
push_joined_past job usage [] past = refl
push_joined_past job usage (user ∷ users) past =
    elim (eqb user.job job) as (λ b. length (user ∷ users) ≤ cond (not b) (1 + position_or_len (is_of job) users) 0 →
    user ∷ (users ++ (record { job = job; usage = usage }) ∷ []) ≡ cond b (record user { usage = stronger user.usage usage } ∷ users) (user ∷ joined job usage users))
    [ true ↦ (λ h. absurd (omega arith)) | false ↦ (λ h. ap (λ us. user ∷ us) (push_joined_past job usage users (omega arith))) ] past

-- where no index is found, the search went past the end
pub past_from_none : (n m : ℕ) → cond (ltb n m) (Some n) None ≡ None → m ≤ n
past_from_none n m e =
    ⊎_elim (λ below. let t : ltb n m ≡ true = lt-ltb n m below in absurd (none-some n (sym (rw t at e)))) (λ past. past) (cases_lt n m)
