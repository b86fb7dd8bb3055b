-- What holds of every table of buffers and of every change of it.
use Rattle.std.specs.Prelude.{◌≡◌, ◌≢◌, ℕ, ◌<◌, Some, None, Contains}
use Rattle.std.specs.Option.{option_map}
use Rattle.std.specs.List.{All}
use Rattle.gv_types.specs.declared.mapping.BufferId.{BufferId}
use Rattle.gv_buffers.specs.declared.usage.Usage.{Usage}
use Rattle.gv_buffers.specs.declared.usage.Usage.TheVariants.{Read}
use Rattle.gv_buffers.specs.declared.usage.User.{User}
use Rattle.gv_buffers.specs.Buffers.{Buffer, BuffersState, buffer, uses, kept, pages, fresh, without, changed, only, joined_by, left_by, left_everywhere, IsLive, IsCreated, IsTable}

-- the id of a new buffer finds it
abbrev pub MadeBufferIsFound : Type 0
MadeBufferIsFound = (old new : BuffersState) (id : BufferId) (pages : ℕ) → IsCreated old new id pages → buffer new id ≡ Some (fresh id pages)

-- every other id finds what it found
abbrev pub OthersStayWhereOneIsMade : Type 0
OthersStayWhereOneIsMade =
    (old new : BuffersState) (id other : BufferId) (pages : ℕ) → IsCreated old new id pages → other ≢ id → buffer new other ≡ buffer old other

-- the id of a buffer that was made before and is dead stays dead when its index is used again
abbrev pub DeadIdStaysDead : Type 0
DeadIdStaysDead =
    (old new : BuffersState) (id dead : BufferId) (pages : ℕ) → IsCreated old new id pages → dead.generation < old.made → buffer old dead ≡ None → buffer new dead ≡ None

-- the id of a destroyed buffer is dead
abbrev pub DestroyedIdIsDead : Type 0
DestroyedIdIsDead = (t : BuffersState) (id : BufferId) → buffer (without id t) id ≡ None

-- every other id finds what it found
abbrev pub OthersStayWhereOneIsDestroyed : Type 0
OthersStayWhereOneIsDestroyed = (t : BuffersState) (id other : BufferId) → other ≢ id → buffer (without id t) other ≡ buffer t other

-- an id finds the changed buffer, and every other id what it found
abbrev pub ChangedBufferIsFound : Type 0
ChangedBufferIsFound =
    (t : BuffersState) (id other : BufferId) (change : Buffer → Buffer) → ((b : Buffer) → (change b).id ≡ b.id) →
    buffer (changed id change t) other ≡ option_map (only id change) (buffer t other)

-- an id finds its buffer without the job that left
abbrev pub LeftBufferIsFound : Type 0
LeftBufferIsFound = (t : BuffersState) (id : BufferId) (job : ℕ) → buffer (left_everywhere job t) id ≡ option_map (left_by job) (buffer t id)

-- an id tells the same counts of mappings and the same size, or is dead in both tables
pub record TellsTheSame (old new : BuffersState) (id : BufferId) : Type 0 where
  pub in_list : uses new id ≡ uses old id
  pub in_undo : kept new id ≡ kept old id
  pub size : pages new id ≡ pages old id

-- a buffer that is made moves no count of those that live
abbrev pub CreateMovesNoCount : Type 0
CreateMovesNoCount = (old new : BuffersState) (id other : BufferId) (pages : ℕ) → IsCreated old new id pages → IsLive old other → TellsTheSame old new other

-- one that is destroyed moves no count of the others
abbrev pub DestroyMovesNoCount : Type 0
DestroyMovesNoCount = (t : BuffersState) (id other : BufferId) → other ≢ id → TellsTheSame t (without id t) other

-- nor does a job that joins
abbrev pub JoinMovesNoCount : Type 0
JoinMovesNoCount = (t : BuffersState) (id other : BufferId) (job : ℕ) (usage : Usage) → TellsTheSame t (changed id (joined_by job usage) t) other

-- nor one that leaves
abbrev pub LeaveMovesNoCount : Type 0
LeaveMovesNoCount = (t : BuffersState) (id : BufferId) (job : ℕ) → TellsTheSame t (left_everywhere job t) id

-- a job that leaves takes back what it joined, whichever buffer it was and however often it joined that
abbrev pub LeaveTakesBackJoin : Type 0
LeaveTakesBackJoin = (t : BuffersState) (id : BufferId) (job : ℕ) (usage : Usage) → left_everywhere job (changed id (joined_by job usage) t) ≡ left_everywhere job t

abbrev pub IsNoUser : ℕ → Buffer → Type 0
IsNoUser job b = All (λ u. u.job ≢ job) b.users

-- a job that uses no buffer changes nothing when it leaves
abbrev pub LeaveOfNoUserIsNothing : Type 0
LeaveOfNoUserIsNothing = (t : BuffersState) (job : ℕ) → All (IsNoUser job) t.live → left_everywhere job t ≡ t

-- two jobs use one live buffer only where both read it
abbrev pub NoTwoJobsConflict : Type 0
NoTwoJobsConflict =
    (t : BuffersState) (id : BufferId) (b : Buffer) (one other : User) → IsTable t → buffer t id ≡ Some b → Contains b.users one → Contains b.users other →
    one.job ≢ other.job → (one.usage ≡ Read) × (other.usage ≡ Read)
