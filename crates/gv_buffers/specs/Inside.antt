-- How `Buffers` are seen as a `BuffersState`, and what they keep of their slots. No public clause cites this module.
use Rattle.std.specs.Prelude.{◌≡◌, ℕ, ◌≤◌, Some, length, reverse}
use Rattle.gv_types.specs.Limits.{greatest, IsFromOneTo}
use Rattle.gv_buffers.specs.Buffers.{Buffer, BuffersState, IsBuffer}
use Rattle.gv_buffers.specs.Slots.{live_count, buffers_from, buffer_in, AreNoted, AreVacant}
use Rattle.gv_buffers.specs.declared.buffers.Buffers.TheInside.{Inside}

abbrev pub table_of : Inside → BuffersState
table_of b =
    record { limit = b.limit; made = b.made; live = buffers_from 0 b.slots.entries; vacant = reverse b.slots.vacant }

-- at most the limit's buffers are alive, each buffer's index is noted for each of its users, the vacant indices are known,
-- and there are no more slots than the limit
pub record AreSoundBuffers (b : Inside) : Type 0 where
  pub limit : IsFromOneTo greatest.buffers b.limit
  pub few : live_count b.slots.entries ≤ b.limit
  pub buffers : (index : ℕ) (x : Buffer) → buffer_in b.slots.entries index ≡ Some x → IsBuffer b.made x
  pub noted : (index : ℕ) → AreNoted b.indices index (buffer_in b.slots.entries index)
  pub vacant : AreVacant b.slots.entries b.slots.vacant
  pub within : length b.slots.entries ≤ b.limit
