-- The counts and the size of a buffer stay where others are made or destroyed, or jobs join or leave.
use Rattle.std.proofs.Common.{◌≡◌, ◌≢◌, ℕ, List, [], ◌∷◌, true, false, cond, eqb, refl, subst, ◌∙◌, ap, Some, None, Option}
use Rattle.std.specs.Option.{option_map}
use Rattle.std.specs.List.{All, find}
use Rattle.std.proofs.lemmas.Bool.{ne_eqb, false≢true}
use Rattle.std.proofs.lemmas.List.Elements.{All-head, All-tail}
use Rattle.gv_types.specs.declared.mapping.BufferId.{BufferId}
use Rattle.gv_buffers.specs.declared.usage.Usage.{Usage}
use Rattle.gv_buffers.specs.Buffers.{Buffer, BuffersState, buffer, has_id, without, changed, only, joined_by, left_by, left_everywhere, IsLive, IsCreated}
use Rattle.gv_buffers.specs.Laws.{TellsTheSame}
use Rattle.gv_buffers.proofs.FoundLemmas.{others_stay_made, others_stay_destroyed, changed_is_found, left_is_found}

tells_from_found : (old new : BuffersState) (id : BufferId) → buffer new id ≡ buffer old id → TellsTheSame old new id
tells_from_found old new id same =
    record { in_list = ap (option_map (λ b. b.uses)) same; in_undo = ap (option_map (λ b. b.kept)) same; size = ap (option_map (λ b. b.pages)) same }

-- a change of the users of the buffer that is found
told_of_changed : (f : Buffer → Buffer) (field : Buffer → ℕ) (o : Option Buffer) → ((b : Buffer) → field (f b) ≡ field b) → option_map field (option_map f o) ≡ option_map field o
told_of_changed f field None same = refl
told_of_changed f field (Some b) same = ap (λ (n : ℕ). Some n) (same b)

tells_from_map : (old new : BuffersState) (id : BufferId) (f : Buffer → Buffer) → buffer new id ≡ option_map f (buffer old id) → ((b : Buffer) → (f b).uses ≡ b.uses) →
    ((b : Buffer) → (f b).kept ≡ b.kept) → ((b : Buffer) → (f b).pages ≡ b.pages) → TellsTheSame old new id
tells_from_map old new id f found uses kept pages =
    record {
      in_list = ap (option_map (λ b. b.uses)) found ∙ told_of_changed f (λ b. b.uses) (buffer old id) uses;
      in_undo = ap (option_map (λ b. b.kept)) found ∙ told_of_changed f (λ b. b.kept) (buffer old id) kept;
      size = ap (option_map (λ b. b.pages)) found ∙ told_of_changed f (λ b. b.pages) (buffer old id) pages;
    }

-- an id whose index is free finds nothing
find-free : (id : BufferId) (bs : List Buffer) → All (λ b. b.id.index ≢ id.index) bs → find (has_id id) bs ≡ None
find-free id [] free = refl
find-free id (b ∷ bs) free =
    let apart : eqb b.id.index id.index ≡ false = ne_eqb _ _ (All-head (λ x. x.id.index ≢ id.index) b bs free) in
    rw (apart, find-free id bs (All-tail (λ x. x.id.index ≢ id.index) b bs free)) refl

-- a live id is not the one that was made
not_made : (old new : BuffersState) (id other : BufferId) (pages : ℕ) → IsCreated old new id pages → IsLive old other → other ≢ id
not_made old new id other pages made lives same =
    let here : IsLive old id = subst (λ (i : BufferId). IsLive old i) same lives in
    absurd (false≢true (rw (find-free id old.live made.free) at here))

pub create_moves_no_count : (old new : BuffersState) (id other : BufferId) (pages : ℕ) → IsCreated old new id pages → IsLive old other → TellsTheSame old new other
create_moves_no_count old new id other pages made lives =
    tells_from_found old new other (others_stay_made old new id other pages made (not_made old new id other pages made lives))

pub destroy_moves_no_count : (t : BuffersState) (id other : BufferId) → other ≢ id → TellsTheSame t (without id t) other
destroy_moves_no_count t id other apart = tells_from_found t (without id t) other (others_stay_destroyed t id other apart)

only_joined : (id : BufferId) (job : ℕ) (usage : Usage) (field : Buffer → ℕ) (b : Buffer) → field (joined_by job usage b) ≡ field b →
    field (only id (joined_by job usage) b) ≡ field b
only_joined id job usage field b same =
    elim (has_id id b) as (λ t. field (cond t (joined_by job usage b) b) ≡ field b) [ true ↦ same | false ↦ refl ]

pub join_moves_no_count : (t : BuffersState) (id other : BufferId) (job : ℕ) (usage : Usage) → TellsTheSame t (changed id (joined_by job usage) t) other
join_moves_no_count t id other job usage =
    tells_from_map t (changed id (joined_by job usage) t) other (only id (joined_by job usage)) (changed_is_found t id other (joined_by job usage) (λ b. refl))
    (λ b. only_joined id job usage (λ x. x.uses) b refl) (λ b. only_joined id job usage (λ x. x.kept) b refl) (λ b. only_joined id job usage (λ x. x.pages) b refl)

pub leave_moves_no_count : (t : BuffersState) (id : BufferId) (job : ℕ) → TellsTheSame t (left_everywhere job t) id
leave_moves_no_count t id job = tells_from_map t (left_everywhere job t) id (left_by job) (left_is_found t id job) (λ b. refl) (λ b. refl) (λ b. refl)
