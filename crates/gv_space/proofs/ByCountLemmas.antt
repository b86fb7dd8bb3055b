-- What stays where the counts of buffers change: ids, sizes, users, live buffers and valid mappings.
use Rattle.std.proofs.Common.{◌≡◌, ℕ, ◌+◌, ◌≤◌, List, refl, sym, ◌∙◌, ap, subst, Some, None, Option, is_some}
use Rattle.std.specs.Option.{option_map, IsSomeAnd}
use Rattle.std.specs.List.{All}
use Rattle.std.proofs.lemmas.List.Elements.{All-weaker, All-map}
use Rattle.gv_types.specs.Bounds.{BoundsState}
use Rattle.gv_types.specs.declared.mapping.Backing.{Backing}
use Rattle.gv_types.specs.declared.mapping.Backing.TheVariants.{Buffer as BufferPages, Zero}
use Rattle.gv_types.specs.declared.mapping.BufferId.{BufferId}
use Rattle.gv_types.specs.declared.mapping.Mapping.{Mapping}
use Rattle.gv_buffers.specs.Buffers.{Buffer, BuffersState, buffer, pages, IsLive, IsTable}
use Rattle.gv_buffers.proofs.FoundLemmas.{counted_lives}
use Rattle.gv_space.specs.Counts.{count_of, by_count, counted, more_used, less_used, more_kept, less_kept, moved_out}
use Rattle.gv_space.specs.Live.{IsLiveBacking}
use Rattle.gv_space.specs.State.{LieInside, IsValidMapping}
use Rattle.gv_space.proofs.BufferTableLemmas.{IsKeeping, buffer-each, pages-each, IsTable-each}

-- a change of a buffer by a number of mappings that leaves all but its counts
pub record IsOfCounts (change : Buffer → ℕ → Buffer) : Type 0 where
  pub id : (b : Buffer) (n : ℕ) → (change b n).id ≡ b.id
  pub pages : (b : Buffer) (n : ℕ) → (change b n).pages ≡ b.pages
  pub users : (b : Buffer) (n : ℕ) → (change b n).users ≡ b.users

pub counted_of_counts : IsOfCounts counted
counted_of_counts = record { id = λ b n. refl; pages = λ b n. refl; users = λ b n. refl }

pub more_used_of_counts : IsOfCounts more_used
more_used_of_counts = record { id = λ b n. refl; pages = λ b n. refl; users = λ b n. refl }

pub less_used_of_counts : IsOfCounts less_used
less_used_of_counts = record { id = λ b n. refl; pages = λ b n. refl; users = λ b n. refl }

pub more_kept_of_counts : IsOfCounts more_kept
more_kept_of_counts = record { id = λ b n. refl; pages = λ b n. refl; users = λ b n. refl }

pub less_kept_of_counts : IsOfCounts less_kept
less_kept_of_counts = record { id = λ b n. refl; pages = λ b n. refl; users = λ b n. refl }

pub moved_out_of_counts : IsOfCounts moved_out
moved_out_of_counts = record { id = λ b n. refl; pages = λ b n. refl; users = λ b n. refl }

keeping : (change : Buffer → ℕ → Buffer) (ms : List Mapping) → IsOfCounts change → IsKeeping (λ b. change b (count_of b.id ms))
keeping change ms of_counts = record { id = λ b. of_counts.id b (count_of b.id ms); pages = λ b. of_counts.pages b (count_of b.id ms) }

-- sizes stay
pub pages-by_count : (change : Buffer → ℕ → Buffer) (ms : List Mapping) (t : BuffersState) (id : BufferId) → IsOfCounts change → pages (by_count change ms t) id ≡ pages t id
pages-by_count change ms t id of_counts = pages-each (λ b. change b (count_of b.id ms)) t id (keeping change ms of_counts)

-- a table stays one
pub IsTable-by_count : (change : Buffer → ℕ → Buffer) (ms : List Mapping) (t : BuffersState) → IsOfCounts change → IsTable t → IsTable (by_count change ms t)
IsTable-by_count change ms t of_counts table =
    IsTable-each (λ b. change b (count_of b.id ms)) t (keeping change ms of_counts) (λ b. of_counts.users b (count_of b.id ms)) table

pub is_some-map : (f : Buffer → Buffer) (o : Option Buffer) → is_some (option_map f o) ≡ is_some o
is_some-map f None = refl
is_some-map f (Some b) = refl

-- a live buffer stays alive
IsLive-by_count : (change : Buffer → ℕ → Buffer) (ms : List Mapping) (t : BuffersState) (id : BufferId) → IsOfCounts change → IsLive t id → IsLive (by_count change ms t) id
IsLive-by_count change ms t id of_counts lives =
    ap is_some (buffer-each (λ b. change b (count_of b.id ms)) t id (λ b. of_counts.id b (count_of b.id ms))) ∙ is_some-map (λ b. change b (count_of b.id ms)) (buffer t id) ∙ lives

pub IsLiveBacking-by_count : (change : Buffer → ℕ → Buffer) (ms : List Mapping) (t : BuffersState) (backing : Backing) → IsOfCounts change →
    IsLiveBacking t backing → IsLiveBacking (by_count change ms t) backing
IsLiveBacking-by_count change ms t (BufferPages id page) of_counts lives = IsLive-by_count change ms t id of_counts lives
IsLiveBacking-by_count change ms t Zero of_counts lives = tt

-- and so do those of all mappings of a list
pub live-by_count : (change : Buffer → ℕ → Buffer) (ms : List Mapping) (t : BuffersState) (xs : List Mapping) → IsOfCounts change →
    All (λ m. IsLiveBacking t m.backing) xs → All (λ m. IsLiveBacking (by_count change ms t) m.backing) xs
live-by_count change ms t xs of_counts live =
    All-weaker (λ m. IsLiveBacking t m.backing) (λ m. IsLiveBacking (by_count change ms t) m.backing) (λ m lives. IsLiveBacking-by_count change ms t m.backing of_counts lives) xs live

-- the buffer behind pages has its size in both tables
abbrev pub KeepsSize : BuffersState → BuffersState → Backing → Type 0
KeepsSize old new (BufferPages id page) = pages new id ≡ pages old id
KeepsSize old new Zero = Unit {0}

pub KeepsSize-all : (old new : BuffersState) (backing : Backing) → ((id : BufferId) → pages new id ≡ pages old id) → KeepsSize old new backing
KeepsSize-all old new (BufferPages id page) same = same id
KeepsSize-all old new Zero same = tt

-- pages lie inside a buffer that keeps its size
pub LieInside-kept : (old new : BuffersState) (backing : Backing) (count : ℕ) → KeepsSize old new backing → LieInside old backing count → LieInside new backing count
LieInside-kept old new (BufferPages id page) count same inside = subst (λ (o : Option ℕ). IsSomeAnd o (λ size. page + count ≤ size)) (sym same) inside
LieInside-kept old new Zero count same inside = tt

-- and a mapping of it stays valid
pub IsValidMapping-kept : (a : BoundsState) (old new : BuffersState) (m : Mapping) → KeepsSize old new m.backing → IsValidMapping a old m → IsValidMapping a new m
IsValidMapping-kept a old new m same valid =
    record { in_space = valid.in_space; off_region = valid.off_region; inside = LieInside-kept old new m.backing m.range.count same valid.inside }

-- as do all of a list where no size changes
pub valid-kept : (a : BoundsState) (old new : BuffersState) (ms : List Mapping) → ((id : BufferId) → pages new id ≡ pages old id) → All (IsValidMapping a old) ms → All (IsValidMapping a new) ms
valid-kept a old new ms same valid =
    All-weaker (IsValidMapping a old) (IsValidMapping a new) (λ m h. IsValidMapping-kept a old new m (KeepsSize-all old new m.backing same) h) ms valid

pub LieInside-by_count : (change : Buffer → ℕ → Buffer) (ms : List Mapping) (t : BuffersState) (backing : Backing) (count : ℕ) → IsOfCounts change →
    LieInside t backing count → LieInside (by_count change ms t) backing count
LieInside-by_count change ms t backing count of_counts inside =
    LieInside-kept t (by_count change ms t) backing count (KeepsSize-all t (by_count change ms t) backing (λ id. pages-by_count change ms t id of_counts)) inside

pub valid-by_count : (change : Buffer → ℕ → Buffer) (ms : List Mapping) (a : BoundsState) (t : BuffersState) (xs : List Mapping) → IsOfCounts change →
    All (IsValidMapping a t) xs → All (IsValidMapping a (by_count change ms t)) xs
valid-by_count change ms a t xs of_counts valid = valid-kept a t (by_count change ms t) xs (λ id. pages-by_count change ms t id of_counts) valid

IsLiveBacking-inside : (t : BuffersState) (backing : Backing) (count : ℕ) → LieInside t backing count → IsLiveBacking t backing
IsLiveBacking-inside t (BufferPages id page) count inside = counted_lives t id (λ b. b.pages) (λ size. page + count ≤ size) inside
IsLiveBacking-inside t Zero count inside = tt

-- a valid mapping is of a live buffer
pub live_from_placed : (a : BoundsState) (t : BuffersState) (ms : List Mapping) → All (IsValidMapping a t) ms → All (λ m. IsLiveBacking t m.backing) ms
live_from_placed a t ms valid =
    All-weaker (IsValidMapping a t) (λ m. IsLiveBacking t m.backing) (λ m h. IsLiveBacking-inside t m.backing m.range.count h.inside) ms valid

-- what holds of each changed buffer holds in the changed table
pub All-by_count : (P : Buffer → Type 0) (change : Buffer → ℕ → Buffer) (ms : List Mapping) (t : BuffersState) →
    All (λ b. P (change b (count_of b.id ms))) t.live → All P (by_count change ms t).live
All-by_count P change ms t all = All-map P (λ b. change b (count_of b.id ms)) t.live all
