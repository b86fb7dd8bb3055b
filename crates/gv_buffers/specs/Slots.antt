-- How the live buffers lie in their slots. No public clause cites this module.
use Rattle.std.specs.Prelude.{◌≡◌, ◌≢◌, ◌⊎◌, ℕ, ◌+◌, ◌-◌, ◌<◌, ◌==◌, if◌then◌else◌, List, [], ◌∷◌, length, reverse, slice_get, unwrap_or, Option, Some, None, IsSome, IsNone, is_some, count_by, position, slice_index_or, vec_len, vec_capacity}
use Rattle.std.specs.Option.{option_map}
use Rattle.std.specs.List.{All, AllPairs}
use Rattle.gv_types.specs.declared.mapping.BufferId.{BufferId}
use Rattle.gv_types.specs.Mapping.{buffer_id}
use Rattle.gv_buffers.specs.declared.live_buffer.LiveBuffer.{LiveBuffer}
use Rattle.gv_buffers.specs.Indices.{Notes, IsNoted}
use Rattle.gv_buffers.specs.declared.counter.Move.{Move}
use Rattle.gv_buffers.specs.declared.counter.Move.TheVariants.{In, Out, TakenOut, BroughtBack, Saved, Released}
use Rattle.gv_buffers.specs.Buffers.{Buffer, most_counted, left_by}

-- for each index from 0 on the live buffer there, if there is one
abbrev pub SlotList : Type 0
SlotList = List (Option LiveBuffer)

-- what `Buffers` see of their slots: these, and the vacant indices, the one that was left last at the end
pub record SlotsState : Type 0 where
  pub entries : SlotList
  pub vacant : List ℕ

abbrev pub no_slots : SlotsState
no_slots = record { entries = []; vacant = [] }

-- the slot at an index
abbrev pub get : SlotList → ℕ → Option LiveBuffer
get slots index = slice_index_or slots index None

-- a live buffer stands at the index
abbrev pub Holds : SlotList → ℕ → Type 0
Holds slots index = IsSome (get slots index)

-- how many buffers are alive
abbrev pub live_count : SlotList → ℕ
live_count slots = count_by is_some slots

-- the new slots have this at the index, and every other index keeps what it had
pub record Updates (old new : SlotList) (index : ℕ) (slot : Option LiveBuffer) : Type 0 where
  pub changed : get new index ≡ slot
  pub others : (other : ℕ) → other ≢ index → get new other ≡ get old other

-- the index is one of the slots, and none is alive there
pub record IsVacant (slots : SlotList) (index : ℕ) : Type 0 where
  pub within : index < length slots
  pub nothing : get slots index ≡ None

-- these are the vacant indices, each of them once
pub record AreVacant (slots : SlotList) (vacant : List ℕ) : Type 0 where
  pub each : All (IsVacant slots) vacant
  pub apart : AllPairs (λ a b. a ≢ b) vacant
  pub all : live_count slots + length vacant ≡ length slots

-- the index of the next buffer: the one that was left vacant last, else the first behind all slots
abbrev pub next_slot : SlotList → List ℕ → ℕ
next_slot slots vacant = unwrap_or (slice_get (reverse vacant) 0) (length slots)

-- the live buffer in a slot
abbrev pub buffer_at : ℕ → LiveBuffer → Buffer
buffer_at index slot =
    record {
      id = buffer_id index slot.generation;
      pages = slot.pages;
      uses = slot.uses;
      kept = slot.kept;
      users = slot.users.list.items;
    }

-- the live buffers in slots, the first of which has this index
abbrev pub buffers_from : ℕ → SlotList → List Buffer
buffers_from index [] = []
buffers_from index (None ∷ slots) = buffers_from (index + 1) slots
buffers_from index (Some slot ∷ slots) = buffer_at index slot ∷ buffers_from (index + 1) slots

-- the slot, if the buffer in it has this generation
abbrev pub of_generation : ℕ → Option LiveBuffer → Option LiveBuffer
of_generation generation None = None
of_generation generation (Some slot) = if slot.generation == generation then Some slot else None

-- the slot of the live buffer with an id
abbrev pub live_at : SlotList → BufferId → Option LiveBuffer
live_at slots id = of_generation id.generation (get slots id.index)

-- the live buffer at an index
abbrev pub buffer_in : SlotList → ℕ → Option Buffer
buffer_in slots index = option_map (buffer_at index) (get slots index)

-- the index is noted for each user of the buffer there
abbrev pub AreNoted : Notes → ℕ → Option Buffer → Type 0
AreNoted notes index None = Unit {0}
AreNoted notes index (Some b) = All (λ u. IsNoted notes u.job index) b.users

-- a job is among the users in a slot, or there is room for it
abbrev pub HasRoomForJob : ℕ → Option LiveBuffer → Type 0
HasRoomForJob job None = Unit {0}
HasRoomForJob job (Some slot) = IsNone (position (λ u. u.job == job) slot.users.list.items) → vec_len slot.users.list < vec_capacity slot.users.list

-- a job is among the users in a slot
abbrev pub IsUserIn : ℕ → Option LiveBuffer → Type 0
IsUserIn job None = ⊥
IsUserIn job (Some slot) = IsSome (position (λ u. u.job == job) slot.users.list.items)

-- how many mappings are in the list once one has moved
abbrev pub uses_after : Move → ℕ → ℕ
uses_after In uses = uses + 1
uses_after Out uses = uses - 1
uses_after TakenOut uses = uses - 1
uses_after BroughtBack uses = uses + 1
uses_after Saved uses = uses
uses_after Released uses = uses

-- and how many in undo values
abbrev pub kept_after : Move → ℕ → ℕ
kept_after In kept = kept
kept_after Out kept = kept
kept_after TakenOut kept = kept + 1
kept_after BroughtBack kept = kept - 1
kept_after Saved kept = kept + 1
kept_after Released kept = kept - 1

-- a buffer, one of whose mappings moved
abbrev pub after_move : Move → Buffer → Buffer
after_move how b = record b { uses = uses_after how b.uses; kept = kept_after how b.kept }

-- one of its mappings can move so
abbrev pub CanMove : Move → Buffer → Type 0
CanMove In b = b.uses < most_counted
CanMove Out b = 0 < b.uses
CanMove TakenOut b = (0 < b.uses) × (b.kept < most_counted)
CanMove BroughtBack b = (b.uses < most_counted) × (0 < b.kept)
CanMove Saved b = b.kept < most_counted
CanMove Released b = 0 < b.kept

-- a job has left the buffer at an index, or the buffer is as it was
abbrev pub IsLeftOrSame : ℕ → SlotList → SlotList → ℕ → Type 0
IsLeftOrSame job old new index =
    (buffer_in new index ≡ option_map (left_by job) (buffer_in old index)) ⊎ (buffer_in new index ≡ buffer_in old index)
