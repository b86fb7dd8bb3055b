-- A job leaves the buffers at some indices, one after another.
use Rattle.std.proofs.Common.{◌≡◌, ◌≢◌, ℕ, List, [], ◌∷◌, ◌++◌, true, false, cond, not, eqb, refl, sym, ◌∙◌, ap, inl, inr, ⊎_elim, Some, None, Option, Contains}
use Rattle.std.specs.Option.{option_map}
use Rattle.std.proofs.lemmas.Bool.{cases_eq}
use Rattle.std.proofs.lemmas.List.Elements.{Contains-push_cases}
use Rattle.gv_buffers.specs.declared.usage.User.{User}
use Rattle.gv_buffers.specs.Users.{users_without}
use Rattle.gv_buffers.specs.Buffers.{Buffer, left_by}
use Rattle.gv_buffers.specs.Slots.{SlotList, get, buffer_at, buffer_in, IsLeftOrSame}

-- a job has left the buffers at the indices of the list, and each other is left or as it was
pub record HaveLeft (job : ℕ) (old new : SlotList) (indices : List ℕ) : Type 0 where
  pub noted : (index : ℕ) → Contains indices index → buffer_in new index ≡ option_map (left_by job) (buffer_in old index)
  pub others : (index : ℕ) → IsLeftOrSame job old new index

pub users_without-twice : (job : ℕ) (users : List User) → users_without job (users_without job users) ≡ users_without job users
users_without-twice job [] = refl
users_without-twice job (user ∷ users) =
    elim (not (eqb user.job job)) as (λ t. t ≡ not (eqb user.job job) → users_without job (cond t (user ∷ users_without job users) (users_without job users)) ≡ cond t (user ∷ users_without job users) (users_without job users))
    [ true ↦ (λ e. rw (← e, users_without-twice job users) refl) | false ↦ (λ e. users_without-twice job users) ] refl

-- to leave twice is to leave once
pub left_by-left_by : (job : ℕ) (o : Option Buffer) → option_map (left_by job) (option_map (left_by job) o) ≡ option_map (left_by job) o
left_by-left_by job None = refl
left_by-left_by job (Some b) = rw users_without-twice refl

-- one more index
pub HaveLeft-more : (job : ℕ) (old mid new : SlotList) (indices : List ℕ) (index : ℕ) → HaveLeft job old mid indices →
    buffer_in new index ≡ option_map (left_by job) (buffer_in mid index) →
    ((other : ℕ) → other ≢ index → get new other ≡ get mid other) → HaveLeft job old new (indices ++ index ∷ [])
HaveLeft-more job old mid new indices index before here others =
    let at_index : buffer_in new index ≡ option_map (left_by job) (buffer_in old index) =
    ⊎_elim (λ e. here ∙ ap (option_map (left_by job)) e ∙ left_by-left_by job (buffer_in old index))
    (λ e. here ∙ ap (option_map (left_by job)) e) (before.others index) in
    let elsewhere = λ (other : ℕ) (apart : other ≢ index). ap (option_map (buffer_at other)) (others other apart) in
    record {
      noted = λ other among. ⊎_elim (λ (e : other ≡ index). rw e at_index)
          (λ (apart : other ≢ index). elsewhere other apart ∙ ⊎_elim (λ at. before.noted other at) (λ e. absurd (apart (sym e))) (Contains-push_cases indices index other among))
          (cases_eq other index);
      others = λ other. ⊎_elim (λ (e : other ≡ index). inl (rw e at_index))
          (λ (apart : other ≢ index). ⊎_elim (λ e. inl (elsewhere other apart ∙ e)) (λ e. inr (elsewhere other apart ∙ e)) (before.others other))
          (cases_eq other index);
    }
