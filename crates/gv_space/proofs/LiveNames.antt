-- The names of live buffers: who lives after a call lived before it, or was made by it, and valid mappings are of named ones.
use Rattle.std.proofs.Common.{◌≡◌, ◌≢◌, ℕ, ◌+◌, ◌≤◌, List, [], ◌∷◌, filter, Bool, true, false, cond, not, arith, refl, sym, ◌∙◌, ap, subst, Some, Option, IsSome, is_some, slice_get, slice_index_or}
use Rattle.std.specs.Option.{option_map, IsSomeAnd}
use Rattle.std.specs.List.{All, find}
use Rattle.std.proofs.lemmas.Bool.{false≢true}
use Rattle.gv_types.specs.Bounds.{BoundsState}
use Rattle.gv_types.specs.Mapping.{is_same_id}
use Rattle.gv_types.specs.declared.mapping.Backing.{Backing}
use Rattle.gv_types.specs.declared.mapping.Backing.TheVariants.{Buffer as BufferPages, Zero}
use Rattle.gv_types.specs.declared.mapping.BufferId.{BufferId}
use Rattle.gv_types.specs.declared.mapping.Mapping.{Mapping}
use Rattle.gv_buffers.specs.Buffers.{Buffer, BuffersState, buffer, has_id, without, IsLive, IsBuffer, IsCreated, IsTable}
use Rattle.gv_buffers.proofs.FoundLemmas.{others_stay_made, is_same_id-itself}
use Rattle.gv_table.specs.BufferNames.{IsNamed, AreNamed}
use Rattle.gv_space.specs.Counts.{count_of, by_count}
use Rattle.gv_space.specs.ListWithTable.{AreLiveNamed, IsApart, AreApart}
use Rattle.gv_space.specs.State.{LieInside, IsValidMapping}
use Rattle.gv_space.proofs.CountLemmas.{same_from_is_same_id}
use Rattle.gv_space.proofs.BufferTableLemmas.{each, buffer-each, found_live}
use Rattle.gv_space.proofs.ByCountLemmas.{IsOfCounts, is_some-map}
use Rattle.gv_space.proofs.LivesLemmas.{inside_is_live}

-- each buffer that lives in the second table lives in the first
abbrev pub LivedIn : BuffersState → BuffersState → Type 0
LivedIn old new = (id : BufferId) → IsLive new id → IsLive old id

pub lived-each : (f : Buffer → Buffer) (t : BuffersState) → ((b : Buffer) → (f b).id ≡ b.id) → LivedIn t (each f t)
lived-each f t keeps id lives = sym (is_some-map f (buffer t id)) ∙ ap is_some (sym (buffer-each f t id keeps)) ∙ lives

pub lived-by_count : (change : Buffer → ℕ → Buffer) (ms : List Mapping) (t : BuffersState) → IsOfCounts change → LivedIn t (by_count change ms t)
lived-by_count change ms t of_counts = lived-each (λ b. change b (count_of b.id ms)) t (λ b. of_counts.id b (count_of b.id ms))

found-filter : (test keeps : Buffer → Bool) (bs : List Buffer) → IsSome (find test (filter keeps bs)) → IsSome (find test bs)
found-filter test keeps [] some = some
found-filter test keeps (b ∷ bs) some =
    elim (test b) as (λ t. test b ≡ t → IsSome (cond t (Some b) (find test bs))) [
      | true ↦ (λ _. refl)
      | false ↦ (λ e. elim (keeps b) as (λ k. IsSome (find test (cond k (b ∷ filter keeps bs) (filter keeps bs))) → IsSome (find test bs)) [
        | true ↦ (λ here. found-filter test keeps bs (rw e at here))
        | false ↦ (λ here. found-filter test keeps bs here)
      ] some)
    ] refl

pub lived-without : (t : BuffersState) (id : BufferId) → LivedIn t (without id t)
lived-without t id other lives = found-filter (has_id other) (λ b. not (has_id id b)) t.live lives

-- an index that no live buffer has
apart_live : (t : BuffersState) (index : ℕ) (id : BufferId) → All (λ b. b.id.index ≢ index) t.live → IsLive t id → id.index ≢ index
apart_live t index id free lives =
    let found = found_live (λ b. b.id.index ≢ index) t id free lives in
    let same : found.b.id ≡ id = same_from_is_same_id found.b.id id found.same_id in
    λ is. found.holds (ap (λ (i : BufferId). i.index) same ∙ is)

apart_inside : (t : BuffersState) (index : ℕ) (backing : Backing) (count : ℕ) → All (λ b. b.id.index ≢ index) t.live → LieInside t backing count → IsApart index backing
apart_inside t index (BufferPages id page) count free inside = apart_live t index id free (inside_is_live t id page count inside)
apart_inside t index Zero count free inside = tt

-- no valid mapping has it
pub apart_placed : (a : BoundsState) (t : BuffersState) (index : ℕ) (ms : List Mapping) → All (λ b. b.id.index ≢ index) t.live → All (IsValidMapping a t) ms → AreApart index ms
apart_placed a t index ms free valid k d within =
    let m : Mapping = slice_index_or ms k d in
    apart_inside t index m.backing m.range.count free (valid k d within).inside

-- a buffer was made, and its index was named
pub named_made : (old new : BuffersState) (id : BufferId) (size : ℕ) (before names : List BufferId) → IsCreated old new id size → AreLiveNamed old before → slice_get names id.index ≡ Some id →
    ((other : BufferId) → other.index ≢ id.index → slice_get before other.index ≡ Some other → slice_get names other.index ≡ Some other) → AreLiveNamed new names
named_made old new id size before names made named here others other lives =
    elim (is_same_id other id) as (λ t. is_same_id other id ≡ t → slice_get names other.index ≡ Some other) [
      | true ↦ (λ e. let same : other ≡ id = same_from_is_same_id other id e in rw same here)
      | false ↦ (λ e.
          let apart : other ≢ id = (λ same. false≢true (sym e ∙ ap (λ (i : BufferId). is_same_id i id) same ∙ is_same_id-itself id)) in
          let lived : IsLive old other = subst (λ (o : Option Buffer). IsSome o) (others_stay_made old new id other size made apart) lives in
          others other (apart_live old id.index other made.free lived) (named other lived))
    ] refl

size_from_found : (o : Option Buffer) (b : Buffer) (n : ℕ) → o ≡ Some b → IsSomeAnd (option_map (λ x. x.pages) o) (λ size. n ≤ size) → n ≤ b.pages
size_from_found o b n found inside = subst (λ (x : Option Buffer). IsSomeAnd (option_map (λ y. y.pages) x) (λ size. n ≤ size)) found inside

named_inside : (t : BuffersState) (names : List BufferId) (backing : Backing) (count : ℕ) → IsTable t → AreLiveNamed t names → LieInside t backing count → IsNamed names backing count
named_inside t names (BufferPages id page) count table named inside =
    let lives : IsLive t id = inside_is_live t id page count inside in
    let found = found_live (IsBuffer t.made) t id table.buffers lives in
    let within : page + count ≤ found.b.pages = size_from_found (buffer t id) found.b (page + count) found.found inside in
    (named id lives, omega (arith, within, found.holds.few_pages))
named_inside t names Zero count table named inside = tt

-- valid mappings are of named buffers
pub named_placed : (a : BoundsState) (t : BuffersState) (names : List BufferId) (ms : List Mapping) → IsTable t → AreLiveNamed t names → All (IsValidMapping a t) ms → AreNamed names ms
named_placed a t names ms table named valid k d within =
    let m : Mapping = slice_index_or ms k d in
    named_inside t names m.backing m.range.count table named (valid k d within).inside
