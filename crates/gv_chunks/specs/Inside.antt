-- What a list in chunks keeps of its store. No public clause cites it but those of `ChunkStore`.
use Rattle.std.specs.Prelude.{◌≡◌, ◌<◌, ◌≤◌, ◌+◌, ◌-◌, ◌*◌, ℕ, List, [], ◌∷◌, length, take, drop, max, slice_index_or, vec_len, vec_capacity}
use Rattle.std.specs.Global.{Vec}
use Rattle.gv_types.specs.declared.mapping.Mapping.{Mapping}
use Rattle.gv_chunks.specs.Chunks.{chunks_joined, AreChunks, AreFilled, AreStarts, AreFirsts}
use Rattle.gv_chunks.specs.declared.store.ChunkStore.{ChunkStore}
use Rattle.gv_chunks.specs.declared.TheConstants.{CHUNK}

-- the first `used_count` chunks hold `count` mappings, are few, and none is empty; those behind them hold nothing, and there are enough for the
-- room: one chunk for what fits into one
pub record IsChunkList (chunks : List (Vec Mapping)) (used_count count room : ℕ) : Type 0 where
  pub within : used_count ≤ length chunks
  pub spare : chunks_joined (drop used_count chunks) ≡ []
  pub chunked : AreChunks chunks
  pub held : count ≡ length (chunks_joined chunks)
  pub few : CHUNK * used_count ≤ 2 * count + CHUNK
  pub filled : AreFilled (take used_count chunks)
  pub fits : count ≤ room
  pub some : 0 < room → 0 < length chunks
  pub short : room ≤ CHUNK → used_count ≤ 1
  pub enough : CHUNK < room → 2 * room + 3 * CHUNK ≤ CHUNK * length chunks

-- the index says where each chunk that stands begins, and has room for every chunk
pub record IsIndexOf (chunks : List (Vec Mapping)) (used_count : ℕ) (starts firsts : List ℕ) : Type 0 where
  pub are_starts : AreStarts starts (take used_count chunks)
  pub are_firsts : AreFirsts firsts (take used_count chunks)
  pub starts_within : length chunks ≤ length starts
  pub firsts_within : length chunks ≤ length firsts

-- the mappings of the store
abbrev pub items_of : ChunkStore → List Mapping
items_of p = chunks_joined p.chunks.items

-- for how much each vector of the store has room: the row of chunks, then how many chunks there are, since each is memory too; the firsts; the two
-- of the starts
abbrev pub capacities_of : ChunkStore → List ℕ
capacities_of p = vec_capacity p.chunks ∷ vec_len p.chunks ∷ vec_capacity p.firsts ∷ p.starts.capacities

-- the store is that of a list
pub record IsChunkStore (p : ChunkStore) : Type 0 where
  pub list : IsChunkList p.chunks.items p.used_count p.len p.room
  pub index : IsIndexOf p.chunks.items p.used_count p.starts.numbers p.firsts.items

-- the index lies in the chunk or at its end, and only at its end where the list ends; where no chunk stands, it is the start of the first
pub record IsChunkOfIndex (p : ChunkStore) (index chunk start : ℕ) : Type 0 where
  pub used_count : chunk < max p.used_count 1
  pub start_is : start ≡ length (chunks_joined (take chunk p.chunks.items))
  pub begun : start ≤ index
  pub rest : (d : Vec Mapping) → 0 < length p.chunks.items → index ≤ start + vec_len (slice_index_or p.chunks.items chunk d)
  pub later : (d : Vec Mapping) → index < length (items_of p) → index < start + vec_len (slice_index_or p.chunks.items chunk d)

-- `out_count` mappings from `index` on lie in the chunk that begins at `start`, and `in_count` fit in for them; it holds something then, and the
-- chunks stay few
pub record IsEditable (p : ChunkStore) (chunk start index out_count in_count : ℕ) : Type 0 where
  pub some : 0 < length p.chunks.items
  pub used_count : chunk < max p.used_count 1
  pub start_is : start ≡ length (chunks_joined (take chunk p.chunks.items))
  pub begun : start ≤ index
  pub within : (d : Vec Mapping) → index + out_count ≤ start + vec_len (slice_index_or p.chunks.items chunk d)
  pub holds : (d : Vec Mapping) → out_count < vec_len (slice_index_or p.chunks.items chunk d) + in_count
  pub fits : (d : Vec Mapping) → vec_len (slice_index_or p.chunks.items chunk d) + in_count ≤ CHUNK + out_count
  pub few : CHUNK * max p.used_count 1 ≤ 2 * (p.len - out_count + in_count) + CHUNK

-- the `out_count` mappings from `index` on are all that a chunk holds, nothing comes in for them, and the chunks stay few
pub record IsEmptied (p : ChunkStore) (chunk start index out_count in_count : ℕ) : Type 0 where
  pub used_count : chunk < p.used_count
  pub start_is : start ≡ length (chunks_joined (take chunk p.chunks.items))
  pub at : index ≡ start
  pub all : (d : Vec Mapping) → out_count ≡ vec_len (slice_index_or p.chunks.items chunk d)
  pub none : in_count ≡ 0
  pub few : CHUNK * (p.used_count - 1) ≤ 2 * (p.len - out_count) + CHUNK

-- a chunk of a long list may be divided: it holds enough for two, and one more is still few
pub record IsDivisible (p : ChunkStore) (chunk : ℕ) : Type 0 where
  pub used_count : chunk < p.used_count
  pub holds : (d : Vec Mapping) → 2 < vec_len (slice_index_or p.chunks.items chunk d)
  pub long : CHUNK < p.room
  pub few : CHUNK * (p.used_count + 1) ≤ 2 * p.len + CHUNK
