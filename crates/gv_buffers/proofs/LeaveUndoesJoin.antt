-- A job that leaves takes back what it joined.
use Rattle.std.proofs.Common.{◌≡◌, ◌≢◌, ℕ, List, [], ◌∷◌, map, true, false, cond, not, eqb, refl, ap}
use Rattle.std.specs.List.{All}
use Rattle.std.proofs.lemmas.Bool.{eq-eqb, ne_eqb}
use Rattle.std.proofs.lemmas.List.Elements.{All-head, All-tail}
use Rattle.gv_types.specs.declared.mapping.BufferId.{BufferId}
use Rattle.gv_buffers.specs.declared.usage.Usage.{Usage}
use Rattle.gv_buffers.specs.declared.usage.User.{User}
use Rattle.gv_buffers.specs.Users.{stronger, joined, users_without}
use Rattle.gv_buffers.specs.Buffers.{Buffer, BuffersState, has_id, only, changed, joined_by, left_by, left_everywhere}
use Rattle.gv_buffers.specs.Laws.{IsNoUser}

users_without-joined : (job : ℕ) (usage : Usage) (users : List User) → users_without job (joined job usage users) ≡ users_without job users
users_without-joined job usage [] = let itself : eqb job job ≡ true = eq-eqb _ _ refl in rw itself refl
users_without-joined job usage (user ∷ users) =
    elim (eqb user.job job) as (λ t. eqb user.job job ≡ t →
    users_without job (cond t (record user { usage = stronger user.usage usage } ∷ users) (user ∷ joined job usage users)) ≡ cond (not t) (user ∷ users_without job users) (users_without job users)) [
      | true ↦ (λ e. rw e refl)
      | false ↦ (λ e. rw (e, users_without-joined job usage users) refl)
    ] refl

left_by-only : (id : BufferId) (job : ℕ) (usage : Usage) (b : Buffer) → left_by job (only id (joined_by job usage) b) ≡ left_by job b
left_by-only id job usage b =
    elim (has_id id b) as (λ t. left_by job (cond t (joined_by job usage b) b) ≡ left_by job b)
    [ true ↦ ap (λ (us : List User). record b { users = us }) (users_without-joined job usage b.users) | false ↦ refl ]

map_left-map_joined : (id : BufferId) (job : ℕ) (usage : Usage) (bs : List Buffer) → map (left_by job) (map (only id (joined_by job usage)) bs) ≡ map (left_by job) bs
map_left-map_joined id job usage [] = refl
map_left-map_joined id job usage (b ∷ bs) = rw (left_by-only id job usage b, map_left-map_joined id job usage bs) refl

pub leave_takes_back_join : (t : BuffersState) (id : BufferId) (job : ℕ) (usage : Usage) → left_everywhere job (changed id (joined_by job usage) t) ≡ left_everywhere job t
leave_takes_back_join t id job usage = ap (λ (live : List Buffer). record t { live = live }) (map_left-map_joined id job usage t.live)

pub left_of_none : (job : ℕ) (users : List User) → All (λ u. u.job ≢ job) users → users_without job users ≡ users
left_of_none job [] apart = refl
left_of_none job (user ∷ users) apart =
    let other : eqb user.job job ≡ false = ne_eqb _ _ (All-head (λ u. u.job ≢ job) user users apart) in
    rw (other, left_of_none job users (All-tail (λ u. u.job ≢ job) user users apart)) refl

map_left_of_none : (job : ℕ) (bs : List Buffer) → All (IsNoUser job) bs → map (left_by job) bs ≡ bs
map_left_of_none job [] apart = refl
map_left_of_none job (b ∷ bs) apart =
    rw (left_of_none job b.users (All-head (IsNoUser job) b bs apart), map_left_of_none job bs (All-tail (IsNoUser job) b bs apart)) refl

pub leave_of_no_user : (t : BuffersState) (job : ℕ) → All (IsNoUser job) t.live → left_everywhere job t ≡ t
leave_of_no_user t job apart = ap (λ (live : List Buffer). record t { live = live }) (map_left_of_none job t.live apart)
