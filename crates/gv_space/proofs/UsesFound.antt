-- What `uses` tells of a live buffer.
use Rattle.std.proofs.Common.{◌≡◌, ℕ, List, Some, Option, refl, sym, ◌∙◌, ap, subst}
use Rattle.std.specs.Option.{option_map, IsSomeAnd}
use Rattle.gv_types.specs.declared.mapping.BufferId.{BufferId}
use Rattle.gv_types.specs.declared.mapping.Mapping.{Mapping}
use Rattle.gv_buffers.specs.Buffers.{Buffer, BuffersState, uses, IsLive}
use Rattle.gv_buffers.proofs.FoundLemmas.{counted_lives}
use Rattle.gv_space.specs.Counts.{count_of}
use Rattle.gv_space.proofs.CountLemmas.{same_from_is_same_id}
use Rattle.gv_space.proofs.BufferTableLemmas.{found_live}
use Rattle.gv_space.proofs.Recounted.{UsesAre}

-- a buffer that tells its uses is alive
pub uses_lives : (t : BuffersState) (id : BufferId) (n : ℕ) → uses t id ≡ Some n → IsLive t id
uses_lives t id n told = counted_lives t id (λ b. b.uses) (λ m. m ≡ n) (subst (λ (o : Option ℕ). IsSomeAnd o (λ m. m ≡ n)) (sym told) refl)

-- it is how many mappings of the list are of the buffer
pub uses_found : (t : BuffersState) (id : BufferId) (ms : List Mapping) (n : ℕ) → UsesAre ms t → uses t id ≡ Some n → n ≡ count_of id ms
uses_found t id ms n used told =
    let lives : IsLive t id = uses_lives t id n told in
    let found = found_live (λ b. b.uses ≡ count_of b.id ms) t id used lives in
    let same : found.b.id ≡ id = same_from_is_same_id found.b.id id found.same_id in
    let here : Some found.b.uses ≡ Some n = sym (ap (option_map (λ (b : Buffer). b.uses)) found.found) ∙ told in
    let is : found.b.uses ≡ n = cc in
    sym is ∙ found.holds ∙ ap (λ (i : BufferId). count_of i ms) same
