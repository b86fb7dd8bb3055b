-- How the live buffers are stored in a slab: an index has a key of it. No public clause cites this module.
use Rattle.std.specs.Prelude.{◌≡◌, ℕ, ◌≤◌, List, map, length, Option, Some, None, slice_index_or, vec_capacity}
use Rattle.slab.specs.Slab.{Slab, get as value_at, ContainsKey, slab_len}
use Rattle.gv_buffers.specs.declared.live_buffer.LiveBuffer.{LiveBuffer}
use Rattle.gv_buffers.specs.declared.slots.Slots.TheInside.{Inside}
use Rattle.gv_buffers.specs.Slots.{SlotList, SlotsState, live_count}

-- the key of an index, if a buffer is alive there
abbrev pub key_at : List (Option ℕ) → ℕ → Option ℕ
key_at keys index = slice_index_or keys index None

-- the live buffer under the key of an index
abbrev pub lookup : Slab LiveBuffer → Option ℕ → Option LiveBuffer
lookup live None = None
lookup live (Some key) = value_at live key

abbrev pub entries_of : Slab LiveBuffer → List (Option ℕ) → SlotList
entries_of live keys = map (lookup live) keys

abbrev pub slots_of : Inside → SlotsState
slots_of s = record { entries = entries_of s.live s.keys.items; vacant = s.vacant.items }

-- the slab has a buffer under each key, and no two indices have the same key
pub record AreKeys (live : Slab LiveBuffer) (keys : List (Option ℕ)) : Type 0 where
  pub contained : (index key : ℕ) → key_at keys index ≡ Some key → ContainsKey live key
  pub apart : (index other key : ℕ) → key_at keys index ≡ Some key → key_at keys other ≡ Some key → index ≡ other

-- each buffer of the slab is at an index, and each index can become vacant without a request for memory
pub record AreSound (live : Slab LiveBuffer) (keys : List (Option ℕ)) (room : ℕ) : Type 0 where
  pub are_keys : AreKeys live keys
  pub count : slab_len live ≡ live_count (entries_of live keys)
  pub fits : length keys ≤ room

abbrev pub AreSoundSlots : Inside → Type 0
AreSoundSlots s = AreSound s.live s.keys.items (vec_capacity s.vacant)
