-- How many mappings name each buffer, and how the counts of buffers move with them.
use Rattle.std.specs.Prelude.{◌≡◌, ℕ, ◌+◌, ◌-◌, ◌<◌, List, map, filter, length, slice_index_or}
use Rattle.gv_types.specs.Mapping.{is_of}
use Rattle.gv_types.specs.PageRange.{PageRangeState}
use Rattle.gv_types.specs.declared.mapping.Backing.TheVariants.{Buffer as BufferPages}
use Rattle.gv_types.specs.declared.mapping.BufferId.{BufferId}
use Rattle.gv_types.specs.declared.mapping.Mapping.{Mapping}
use Rattle.gv_buffers.specs.Buffers.{BuffersState, Buffer}

-- the ranges of a buffer's mappings, in the order of the list
abbrev pub ranges_of : BufferId → List Mapping → List PageRangeState
ranges_of id ms = map (λ m. m.range) (filter (λ m. is_of id m.backing) ms)

-- how many of the mappings are of a buffer
abbrev pub count_of : BufferId → List Mapping → ℕ
count_of id ms = length (filter (λ m. is_of id m.backing) ms)

-- the table with each buffer changed by how many of the mappings are of it
abbrev pub by_count : (Buffer → ℕ → Buffer) → List Mapping → BuffersState → BuffersState
by_count change ms t = record t { live = map (λ b. change b (count_of b.id ms)) t.live }

-- so many mappings in the list
abbrev pub counted : Buffer → ℕ → Buffer
counted b count = record b { uses = count }

-- so many mappings more in the list
abbrev pub more_used : Buffer → ℕ → Buffer
more_used b count = record b { uses = b.uses + count }

-- so many mappings less in the list
abbrev pub less_used : Buffer → ℕ → Buffer
less_used b count = record b { uses = b.uses - count }

-- so many mappings more in undo values
abbrev pub more_kept : Buffer → ℕ → Buffer
more_kept b count = record b { kept = b.kept + count }

-- so many mappings less in undo values
abbrev pub less_kept : Buffer → ℕ → Buffer
less_kept b count = record b { kept = b.kept - count }

-- so many mappings moved out of the list into undo values
abbrev pub moved_out : Buffer → ℕ → Buffer
moved_out b count = record b { uses = b.uses - count; kept = b.kept + count }

-- so many mappings moved back into the list out of undo values
abbrev pub moved_in : Buffer → ℕ → Buffer
moved_in b count = record b { uses = b.uses + count; kept = b.kept - count }

-- the first of some mappings is of the buffer
pub record IsFirstOf (id : BufferId) (ms : List Mapping) : Type 0 where
  pub some : 0 < length ms
  pub page : ℕ
  pub is : (d : Mapping) → (slice_index_or ms 0 d).backing ≡ BufferPages id page
