-- What contracts see of `Buffers` (`BuffersState`): the live buffers, with their counts and users, and what calls make of them.
use Rattle.std.specs.Prelude.{◌≡◌, ◌≢◌, ℕ, ◌+◌, ◌-◌, ◌^◌, ◌<◌, ◌≤◌, Bool, not, ◌||◌, ◌==◌, nat_lt, nat_le, if◌then◌else◌, List, [], ◌∷◌, map, length, filter, find, insert, drop, slice_get, unwrap_or, Option, Some, None, IsSome}
use Rattle.std.specs.List.{All, AllPairs}
use Rattle.std.specs.Option.{option_map}
use Rattle.gv_types.specs.Page.{pages_per_buffer}
use Rattle.gv_types.specs.Limits.{greatest, IsFromOneTo}
use Rattle.gv_types.specs.Mapping.{buffer_id, is_same_id}
use Rattle.gv_types.specs.declared.mapping.BufferId.{BufferId}
use Rattle.gv_types.specs.declared.fault.Fault.{Fault}
use Rattle.gv_types.specs.declared.fault.Fault.TheVariants.{NoBuffer, BadSize, TooManyBuffers, Mapped, Kept as KeptFault, InUse, Conflict}
use Rattle.gv_buffers.specs.declared.counter.Counter.{Counter}
use Rattle.gv_buffers.specs.declared.counter.Counter.TheVariants.{Uses, Kept}
use Rattle.gv_buffers.specs.declared.usage.Usage.{Usage}
use Rattle.gv_buffers.specs.declared.usage.User.{User}
use Rattle.gv_buffers.specs.Users.{conflict, joined, users_without, HaveNoConflict}

-- a live buffer: how many mappings of it are in the list and in undo values, and the jobs that use it
pub record Buffer : Type 0 where
  pub id : BufferId
  pub pages : ℕ
  pub uses : ℕ
  pub kept : ℕ
  pub users : List User

-- what contracts see of `Buffers`: the limit of live buffers, how many were ever made, the live ones in the order of their
-- indexes, and the indexes that dead ones left vacant, the last one first
pub record BuffersState : Type 0 where
  pub limit : ℕ
  pub made : ℕ
  pub live : List Buffer
  pub vacant : List ℕ

-- no more buffers than this are ever made
abbrev pub most_made : ℕ
most_made = 2 ^ 64 - 1

-- no count of mappings is above this
abbrev pub most_counted : ℕ
most_counted = 2 ^ 64 - 1

abbrev pub no_buffers : ℕ → BuffersState
no_buffers limit = record { limit = limit; made = 0; live = []; vacant = [] }

abbrev pub has_id : BufferId → Buffer → Bool
has_id id b = is_same_id b.id id

-- the live buffer with this id
abbrev pub buffer : BuffersState → BufferId → Option Buffer
buffer t id = find (has_id id) t.live

abbrev pub IsLive : BuffersState → BufferId → Type 0
IsLive t id = IsSome (buffer t id)

-- one of the counts of a buffer
abbrev pub count : Counter → Buffer → ℕ
count Uses b = b.uses
count Kept b = b.kept

-- how many mappings of a buffer are in the list
abbrev pub uses : BuffersState → BufferId → Option ℕ
uses t id = option_map (λ b. b.uses) (buffer t id)

-- how many mappings of a buffer are in undo values
abbrev pub kept : BuffersState → BufferId → Option ℕ
kept t id = option_map (λ b. b.kept) (buffer t id)

-- how many mappings a counter of a buffer counts
abbrev pub counted : Counter → BuffersState → BufferId → Option ℕ
counted counter t id = option_map (count counter) (buffer t id)

-- how many pages a buffer has
abbrev pub pages : BuffersState → BufferId → Option ℕ
pages t id = option_map (λ b. b.pages) (buffer t id)

-- a new buffer, which nothing uses
abbrev pub fresh : BufferId → ℕ → Buffer
fresh id pages = record { id = id; pages = pages; uses = 0; kept = 0; users = [] }

-- why no buffer of this size can be made
abbrev pub create_fault : BuffersState → ℕ → Option Fault
create_fault t pages =
    if (pages == 0) || nat_lt pages_per_buffer pages then Some BadSize
    else if nat_le t.limit (length t.live) || nat_le most_made t.made then Some TooManyBuffers
    else None

-- The id of the next buffer: its index is the one that was left vacant last, else the first that no buffer had yet, and its
-- generation is how many were made before it.
abbrev pub next_index : BuffersState → ℕ
next_index t = unwrap_or (slice_get t.vacant 0) (length t.live)

abbrev pub next_id : BuffersState → BufferId
next_id t = buffer_id (next_index t) t.made

-- how many live buffers have a lower index
abbrev pub count_below : ℕ → List Buffer → ℕ
count_below index bs = length (filter (λ b. nat_lt b.id.index index) bs)

-- the table with a new buffer at its index among the live ones, which stay as they are
abbrev pub with_new : ℕ → BuffersState → BuffersState
with_new pages t =
    record t {
      made = t.made + 1;
      live = insert t.live (count_below (next_index t) t.live) (fresh (next_id t) pages);
      vacant = drop 1 t.vacant;
    }

-- A buffer was made. It has the next id, whose index is that of no live buffer.
pub record IsCreated (old new : BuffersState) (id : BufferId) (pages : ℕ) : Type 0 where
  pub id_is : id ≡ next_id old
  pub free : All (λ b. b.id.index ≢ id.index) old.live
  pub state : new ≡ with_new pages old

-- what names a live buffer: mappings in the list, else mappings in undo values, else jobs
abbrev pub use_fault : Buffer → Option Fault
use_fault b =
    if nat_lt 0 b.uses then Some (Mapped b.uses)
    else if nat_lt 0 b.kept then Some (KeptFault b.kept)
    else if nat_lt 0 (length b.users) then Some (InUse (length b.users))
    else None

-- why a buffer can't be destroyed, once it is looked up
abbrev pub destroy_fault_of : Option Buffer → Option Fault
destroy_fault_of None = Some NoBuffer
destroy_fault_of (Some b) = use_fault b

abbrev pub destroy_fault : BuffersState → BufferId → Option Fault
destroy_fault t id = destroy_fault_of (buffer t id)

-- the table without a buffer, which leaves its index vacant
abbrev pub without : BufferId → BuffersState → BuffersState
without id t = record t { live = filter (λ b. not (has_id id b)) t.live; vacant = id.index ∷ t.vacant }

-- the change of one buffer, and of no other
abbrev pub only : BufferId → (Buffer → Buffer) → Buffer → Buffer
only id change b = if has_id id b then change b else b

-- the table with one buffer changed, and the others as they are
abbrev pub changed : BufferId → (Buffer → Buffer) → BuffersState → BuffersState
changed id change t = record t { live = map (only id change) t.live }

-- the buffer with another count
abbrev pub with_count : Counter → ℕ → Buffer → Buffer
with_count Uses n b = record b { uses = n }
with_count Kept n b = record b { kept = n }

-- so many mappings more
abbrev pub raised : Counter → ℕ → Buffer → Buffer
raised counter n b = with_count counter (count counter b + n) b

-- so many mappings less
abbrev pub lowered : Counter → ℕ → Buffer → Buffer
lowered counter n b = with_count counter (count counter b - n) b

-- a buffer, one of whose mappings left the list and came into an undo value
abbrev pub taken_out : Buffer → Buffer
taken_out b = record b { uses = b.uses - 1; kept = b.kept + 1 }

-- a buffer, one of whose mappings came back into the list out of an undo value
abbrev pub brought_back : Buffer → Buffer
brought_back b = record b { uses = b.uses + 1; kept = b.kept - 1 }

abbrev pub conflict_fault : Option ℕ → Option Fault
conflict_fault None = None
conflict_fault (Some job) = Some (Conflict job)

-- why a job can't use a buffer, once it is looked up
abbrev pub join_fault_of : ℕ → Usage → Option Buffer → Option Fault
join_fault_of job usage None = Some NoBuffer
join_fault_of job usage (Some b) = conflict_fault (conflict job usage b.users)

abbrev pub join_fault : BuffersState → BufferId → ℕ → Usage → Option Fault
join_fault t id job usage = join_fault_of job usage (buffer t id)

-- a buffer that a job joined
abbrev pub joined_by : ℕ → Usage → Buffer → Buffer
joined_by job usage b = record b { users = joined job usage b.users }

-- a buffer that a job left
abbrev pub left_by : ℕ → Buffer → Buffer
left_by job b = record b { users = users_without job b.users }

-- the table once a job has left every buffer
abbrev pub left_everywhere : ℕ → BuffersState → BuffersState
left_everywhere job t = record t { live = map (left_by job) t.live }

-- what holds of each live buffer
pub record IsBuffer (made : ℕ) (b : Buffer) : Type 0 where
  pub made_before : b.id.generation < made
  pub some_pages : 0 < b.pages
  pub few_pages : b.pages ≤ pages_per_buffer
  pub no_conflict : HaveNoConflict b.users

-- what holds of every table of buffers: two live buffers differ in their index, and no two jobs conflict
pub record IsTable (t : BuffersState) : Type 0 where
  pub limit : IsFromOneTo greatest.buffers t.limit
  pub few : length t.live ≤ t.limit
  pub buffers : All (IsBuffer t.made) t.live
  pub apart : AllPairs (λ a b. a.id.index < b.id.index) t.live
