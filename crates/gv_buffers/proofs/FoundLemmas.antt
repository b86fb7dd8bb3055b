-- For callers: what an id finds in a table of buffers, and in one that was changed.
use Rattle.std.proofs.Common.{◌≡◌, ◌≢◌, ℕ, zero, suc, ◌<◌, ◌≤◌, List, [], ◌∷◌, length, get_or, map, Bool, true, false, cond, not, eqb, arith, refl, sym, ◌∙◌, ap, subst, ⊎_elim, Some, None, Option, IsSome, Contains}
use Rattle.std.specs.Option.{option_map, IsSomeAnd}
use Rattle.std.specs.List.{All, filter, find, insert}
use Rattle.std.proofs.lemmas.Bool.{cases_lt, eqb-true, eq-eqb, ne_eqb, and_parts, false≢true}
use Rattle.std.proofs.lemmas.Option.{none-some, same_Some}
use Rattle.std.proofs.lemmas.List.Elements.{All-head, All-tail}
use Rattle.gv_types.specs.Mapping.{is_same_id}
use Rattle.gv_types.specs.declared.mapping.BufferId.{BufferId}
use Rattle.gv_buffers.specs.declared.usage.Usage.TheVariants.{Read}
use Rattle.gv_buffers.specs.declared.usage.User.{User}
use Rattle.gv_buffers.specs.Users.{HaveNoConflict}
use Rattle.gv_buffers.specs.Buffers.{Buffer, BuffersState, buffer, has_id, IsLive, fresh, without, changed, only, left_by, left_everywhere, count_below, IsBuffer, IsCreated, IsTable}

-- a change that keeps what is looked for
pub find-map : (test : Buffer → Bool) (f : Buffer → Buffer) (bs : List Buffer) → ((b : Buffer) → test (f b) ≡ test b) → find test (map f bs) ≡ option_map f (find test bs)
find-map test f [] same = refl
find-map test f (b ∷ bs) same =
    rw (same b, find-map test f bs same) (
    elim (test b) as (λ t. cond t (Some (f b)) (option_map f (find test bs)) ≡ option_map f (cond t (Some b) (find test bs))) [ true ↦ refl | false ↦ refl ])

-- a filter that passes what is looked for
pub find-filter : (test keeps : Buffer → Bool) (bs : List Buffer) → ((b : Buffer) → test b ≡ true → keeps b ≡ true) → find test (filter keeps bs) ≡ find test bs
find-filter test keeps [] passes = refl
find-filter test keeps (b ∷ bs) passes =
    let rest : find test (filter keeps bs) ≡ find test bs = find-filter test keeps bs passes in
    elim (test b) as (λ t. test b ≡ t → find test (cond (keeps b) (b ∷ filter keeps bs) (filter keeps bs)) ≡ cond t (Some b) (find test bs)) [
      | true ↦ (λ e. let k : keeps b ≡ true = passes b e in rw k (rw e refl))
      | false ↦ (λ e. elim (keeps b) as (λ k. find test (cond k (b ∷ filter keeps bs) (filter keeps bs)) ≡ find test bs) [ true ↦ (rw e rest) | false ↦ rest ])
    ] refl

-- a filter that drops what is looked for
pub find-filter_none : (test : Buffer → Bool) (bs : List Buffer) → find test (filter (λ b. not (test b)) bs) ≡ None
find-filter_none test [] = refl
find-filter_none test (b ∷ bs) =
    elim (test b) as (λ t. test b ≡ t → find test (cond (not t) (b ∷ filter (λ x. not (test x)) bs) (filter (λ x. not (test x)) bs)) ≡ None)
    [ true ↦ (λ _. find-filter_none test bs) | false ↦ (λ e. rw e (find-filter_none test bs)) ] refl

-- one more buffer that is not looked for
pub find-insert_other : (test : Buffer → Bool) (b : Buffer) (index : ℕ) (bs : List Buffer) → test b ≡ false → find test (insert bs index b) ≡ find test bs
find-insert_other test b zero [] other = rw other refl
find-insert_other test b (suc index) [] other = rw other refl
find-insert_other test b zero (x ∷ bs) other = rw other refl
find-insert_other test b (suc index) (x ∷ bs) other = rw (find-insert_other test b index bs other) refl

-- one more buffer that is looked for, and no other is
pub find-insert_here : (test : Buffer → Bool) (b : Buffer) (index : ℕ) (bs : List Buffer) → test b ≡ true → All (λ x. test x ≡ false) bs → find test (insert bs index b) ≡ Some b
find-insert_here test b zero [] here others = rw here refl
find-insert_here test b (suc index) [] here others = rw here refl
find-insert_here test b zero (x ∷ bs) here others = rw here refl
find-insert_here test b (suc index) (x ∷ bs) here others =
    let head : test x ≡ false = All-head (λ y. test y ≡ false) x bs others in
    let rest : find test (insert bs index b) ≡ Some b = find-insert_here test b index bs here (All-tail (λ y. test y ≡ false) x bs others) in
    rw (head, rest) refl

-- what holds of each buffer holds of the one that is found
pub found_from_All : (P : Buffer → Type 0) (test : Buffer → Bool) (bs : List Buffer) (b : Buffer) → All P bs → find test bs ≡ Some b → P b
found_from_All P test [] b all found = absurd (none-some b found)
found_from_All P test (x ∷ bs) b all found =
    elim (test x) as (λ t. cond t (Some x) (find test bs) ≡ Some b → P b)
    [ true ↦ (λ h. subst P (same_Some x b h) (All-head P x bs all)) | false ↦ (λ h. found_from_All P test bs b (All-tail P x bs all) h) ] found

-- ids with the same numbers are the same
same_id : (a b : BufferId) → is_same_id a b ≡ true → a ≡ b
same_id a b same =
    let parts = and_parts (eqb a.index b.index) (eqb a.generation b.generation) same in
    ap (λ (n : ℕ). record { index = n; generation = a.generation }) (eqb-true _ _ parts.0)
    ∙ ap (λ (n : ℕ). record { index = b.index; generation = n }) (eqb-true _ _ parts.1)

pub is_same_id-itself : (id : BufferId) → is_same_id id id ≡ true
is_same_id-itself id =
    let index : eqb id.index id.index ≡ true = eq-eqb _ _ refl in
    let generation : eqb id.generation id.generation ≡ true = eq-eqb _ _ refl in
    rw (index, generation) refl

pub is_same_id-other : (a b : BufferId) → b ≢ a → is_same_id a b ≡ false
is_same_id-other a b apart =
    elim (is_same_id a b) as (λ t. is_same_id a b ≡ t → t ≡ false) [ true ↦ (λ e. absurd (apart (sym (same_id a b e)))) | false ↦ (λ _. refl) ] refl

has_id_found : (id : BufferId) (bs : List Buffer) (b : Buffer) → find (has_id id) bs ≡ Some b → has_id id b ≡ true
has_id_found id [] b found = absurd (none-some b found)
has_id_found id (x ∷ bs) b found =
    elim (has_id id x) as (λ t. has_id id x ≡ t → cond t (Some x) (find (has_id id) bs) ≡ Some b → has_id id b ≡ true) [
      | true ↦ (λ has h. subst (λ (y : Buffer). has_id id y ≡ true) (same_Some x b h) has)
      | false ↦ (λ _ h. has_id_found id bs b h)
    ] refl found

lives_from : (count : Buffer → ℕ) (P : ℕ → Type 0) (o : Option Buffer) → IsSomeAnd (option_map count o) P → IsSome o
lives_from count P None holds = absurd holds
lives_from count P (Some b) holds = refl

-- a buffer of whose count something is said is alive
pub counted_lives : (t : BuffersState) (id : BufferId) (count : Buffer → ℕ) (P : ℕ → Type 0) → IsSomeAnd (option_map count (buffer t id)) P → IsLive t id
counted_lives t id count P holds = lives_from count P (buffer t id) holds

live_found : (o : Option Buffer) → IsSome o → (b : Buffer) × (o ≡ Some b)
live_found None lives = absurd (false≢true lives)
live_found (Some b) lives = (b, refl)

-- a live id finds a buffer, of which holds what holds of each
pub found_live : (P : Buffer → Type 0) (t : BuffersState) (id : BufferId) → All P t.live → IsLive t id → (b : Buffer) × (buffer t id ≡ Some b) × P b
found_live P t id all lives =
    let found = live_found (buffer t id) lives in
    (found.0, found.1, found_from_All P (has_id id) t.live found.0 all found.1)

-- a new buffer stands among the live ones
pub live_of_made : (old new : BuffersState) (id : BufferId) (pages : ℕ) → IsCreated old new id pages →
    new.live ≡ insert old.live (count_below id.index old.live) (fresh id pages)
live_of_made old new id pages made =
    ap (λ (t : BuffersState). t.live) made.state ∙ ap (λ (i : BufferId). insert old.live (count_below i.index old.live) (fresh i pages)) (sym made.id_is)

-- how many were made before it is its generation
generation_of_made : (old new : BuffersState) (id : BufferId) (pages : ℕ) → IsCreated old new id pages → id.generation ≡ old.made
generation_of_made old new id pages made = ap (λ (i : BufferId). i.generation) made.id_is

pub made_is_found : (old new : BuffersState) (id : BufferId) (pages : ℕ) → IsCreated old new id pages → buffer new id ≡ Some (fresh id pages)
made_is_found old new id pages made =
    ap (find (has_id id)) (live_of_made old new id pages made)
    ∙ find-insert_here (has_id id) (fresh id pages) (count_below id.index old.live) old.live (is_same_id-itself id)
    (λ k d within. let index : eqb (get_or old.live k d).id.index id.index ≡ false = ne_eqb _ _ (made.free k d within) in rw index refl)

pub others_stay_made : (old new : BuffersState) (id other : BufferId) (pages : ℕ) → IsCreated old new id pages → other ≢ id → buffer new other ≡ buffer old other
others_stay_made old new id other pages made apart =
    ap (find (has_id other)) (live_of_made old new id pages made)
    ∙ find-insert_other (has_id other) (fresh id pages) (count_below id.index old.live) old.live (is_same_id-other id other apart)

pub dead_stays_dead : (old new : BuffersState) (id dead : BufferId) (pages : ℕ) → IsCreated old new id pages → dead.generation < old.made → buffer old dead ≡ None → buffer new dead ≡ None
dead_stays_dead old new id dead pages made before gone =
    let apart : dead ≢ id = (λ same. let g : dead.generation ≡ id.generation = ap (λ (i : BufferId). i.generation) same in absurd (omega (arith, generation_of_made old new id pages made, before))) in
    others_stay_made old new id dead pages made apart ∙ gone

pub destroyed_is_dead : (t : BuffersState) (id : BufferId) → buffer (without id t) id ≡ None
destroyed_is_dead t id = find-filter_none (has_id id) t.live

pub others_stay_destroyed : (t : BuffersState) (id other : BufferId) → other ≢ id → buffer (without id t) other ≡ buffer t other
others_stay_destroyed t id other apart =
    find-filter (has_id other) (λ b. not (has_id id b)) t.live (λ b has.
    let is : b.id ≡ other = same_id b.id other has in
    let differs : is_same_id b.id id ≡ false = is_same_id-other b.id id (λ same. apart (sym is ∙ sym same)) in
    rw differs refl)

pub changed_is_found : (t : BuffersState) (id other : BufferId) (change : Buffer → Buffer) → ((b : Buffer) → (change b).id ≡ b.id) →
    buffer (changed id change t) other ≡ option_map (only id change) (buffer t other)
changed_is_found t id other change keeps =
    find-map (has_id other) (only id change) t.live (λ b.
    elim (has_id id b) as (λ h. has_id other (cond h (change b) b) ≡ has_id other b) [ true ↦ ap (λ (i : BufferId). is_same_id i other) (keeps b) | false ↦ refl ])

pub left_is_found : (t : BuffersState) (id : BufferId) (job : ℕ) → buffer (left_everywhere job t) id ≡ option_map (left_by job) (buffer t id)
left_is_found t id job = find-map (has_id id) (left_by job) t.live (λ b. refl)

-- an element of a list, whatever is read past its end
get_or_within : (us : List User) (k : ℕ) (d e : User) → k < length us → get_or us k d ≡ get_or us k e
get_or_within [] k d e within = absurd (omega arith)
get_or_within (u ∷ us) zero d e within = refl
get_or_within (u ∷ us) (suc k) d e within = get_or_within us k d e (omega arith)

both_read : (users : List User) (one other : User) → HaveNoConflict users → Contains users one → Contains users other → one.job ≢ other.job → (one.usage ≡ Read) × (other.usage ≡ Read)
both_read users one other pairs a b apart =
    let at_one : get_or users a.0 other ≡ one = get_or_within users a.0 other one a.1 ∙ a.2 in
    let at_other : get_or users b.0 one ≡ other = get_or_within users b.0 one other b.1 ∙ b.2 in
    ⊎_elim
    (λ (below : a.0 < b.0).
    let pair = pairs a.0 b.0 one below b.1 in
    (ap (λ (u : User). u.usage) (sym a.2) ∙ pair.first_reads, ap (λ (u : User). u.usage) (sym at_other) ∙ pair.second_reads))
    (λ (past : b.0 ≤ a.0). ⊎_elim
    (λ (below : b.0 < a.0).
    let pair = pairs b.0 a.0 other below a.1 in
    (ap (λ (u : User). u.usage) (sym at_one) ∙ pair.second_reads, ap (λ (u : User). u.usage) (sym b.2) ∙ pair.first_reads))
    (λ (level : a.0 ≤ b.0).
    let same : a.0 ≡ b.0 = omega arith in
    let is : one ≡ other = sym at_one ∙ (rw same b.2) in
    absurd (apart (ap (λ (u : User). u.job) is)))
    (cases_lt b.0 a.0))
    (cases_lt a.0 b.0)

pub no_two_jobs : (t : BuffersState) (id : BufferId) (b : Buffer) (one other : User) → IsTable t → buffer t id ≡ Some b → Contains b.users one → Contains b.users other →
    one.job ≢ other.job → (one.usage ≡ Read) × (other.usage ≡ Read)
no_two_jobs t id b one other table found a c apart =
    both_read b.users one other (found_from_All (IsBuffer t.made) (has_id id) t.live b table.buffers found).no_conflict a c apart
