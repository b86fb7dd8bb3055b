-- Mappings in chunks: the list that they are together, how much each has room for, and that no two neighbours fit into one.
use Rattle.std.specs.Prelude.{◌≡◌, ◌<◌, ◌≤◌, ◌+◌, ℕ, List, length, take, slice_index_or, vec_len, vec_capacity}
use Rattle.std.specs.List.{flat_map, All}
use Rattle.std.specs.Global.{Vec}
use Rattle.gv_types.specs.declared.mapping.Mapping.{Mapping}
use Rattle.gv_chunks.specs.declared.TheConstants.{CHUNK}

-- the mappings of chunks, one chunk after another
abbrev pub chunks_joined : List (Vec Mapping) → List Mapping
chunks_joined = flat_map (λ chunk. chunk.items)

-- each has room for as many as a chunk holds
abbrev pub AreChunks : List (Vec Mapping) → Type 0
AreChunks = All (λ chunk. vec_capacity chunk ≡ CHUNK)

-- each holds something
abbrev pub AreFilled : List (Vec Mapping) → Type 0
AreFilled chunks = (k : ℕ) (d : Vec Mapping) → k < length chunks → 0 < vec_len (slice_index_or chunks k d)

-- for each chunk, how many mappings stand before it
abbrev pub AreStarts : List ℕ → List (Vec Mapping) → Type 0
AreStarts starts chunks = (k d : ℕ) → k < length chunks → (k < length starts) × (slice_index_or starts k d ≡ length (chunks_joined (take k chunks)))

-- for each chunk, the page at which its first mapping begins
abbrev pub AreFirsts : List ℕ → List (Vec Mapping) → Type 0
AreFirsts firsts chunks = (k d : ℕ) (v : Vec Mapping) (m : Mapping) → k < length chunks →
    (k < length firsts) × (slice_index_or firsts k d ≡ (slice_index_or (slice_index_or chunks k v).items 0 m).range.first)

-- what a chunk and the next one hold is too much for one chunk, from the chunk `low` on
abbrev pub AreMergedFrom : ℕ → List (Vec Mapping) → Type 0
AreMergedFrom low chunks = (k : ℕ) (d : Vec Mapping) → low ≤ k → k + 1 < length chunks →
    CHUNK < vec_len (slice_index_or chunks k d) + vec_len (slice_index_or chunks (k + 1) d)

-- no two neighbours fit into one chunk
abbrev pub AreMerged : List (Vec Mapping) → Type 0
AreMerged = AreMergedFrom 0

-- what contracts see of a list in chunks: its mappings, for how many it has room, and for how much each of its vectors has, with how many chunks
-- there are
pub record ChunkListState : Type 0 where
  pub items : List Mapping
  pub room : ℕ
  pub capacities : List ℕ

-- the same mappings, and no less room
pub record KeepsMappings (old new : ChunkListState) : Type 0 where
  pub items : new.items ≡ old.items
  pub room : old.room ≤ new.room
