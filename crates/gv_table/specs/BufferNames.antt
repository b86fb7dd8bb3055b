-- Buffers encoded by their indexes alone, as the slots of single pages tell them, and the ids that stand for these.
use Rattle.std.specs.Prelude.{◌≡◌, ℕ, ◌+◌, ◌<◌, ◌≤◌, ◌^◌, Some, List, map, length, slice_get, slice_index_or}
use Rattle.std.specs.List.{All}
use Rattle.gv_types.specs.Mapping.{buffer_id}
use Rattle.gv_types.specs.declared.mapping.Backing.{Backing}
use Rattle.gv_types.specs.declared.mapping.Backing.TheVariants.{Buffer, Zero}
use Rattle.gv_types.specs.declared.mapping.BufferId.{BufferId}
use Rattle.gv_types.specs.declared.mapping.Entry.{Entry}
use Rattle.gv_types.specs.declared.mapping.Mapping.{Mapping}

-- what one page holds, as a number
abbrev pub PageSlot : Type 0
PageSlot = ℕ

-- so many names there are at most
abbrev pub most_names : ℕ
most_names = 2 ^ 16

-- a slot tells no page of a buffer from this one on
abbrev pub encodable_pages : ℕ
encodable_pages = 2 ^ 40

-- a buffer encoded by its index alone
abbrev pub unnamed_id : BufferId → BufferId
unnamed_id id = buffer_id id.index 0

abbrev pub unnamed_backing : Backing → Backing
unnamed_backing (Buffer id page) = Buffer (unnamed_id id) page
unnamed_backing Zero = Zero

abbrev pub unnamed_entry : Entry → Entry
unnamed_entry e = record { backing = unnamed_backing e.backing; flags = e.flags }

abbrev pub unnamed_mapping : Mapping → Mapping
unnamed_mapping m = record { range = m.range; backing = unnamed_backing m.backing; flags = m.flags }

abbrev pub unnamed : List Mapping → List Mapping
unnamed ms = map unnamed_mapping ms

-- each id stands at its index
pub record AreNames (names : List BufferId) : Type 0 where
  pub few : length names ≤ most_names
  pub indexed : (k : ℕ) (d : BufferId) → k < length names → (slice_index_or names k d).index ≡ k

-- the buffer is the one of its index, and its pages can be encoded
abbrev pub IsNamed : List BufferId → Backing → ℕ → Type 0
IsNamed names (Buffer id page) count = (slice_get names id.index ≡ Some id) × (page + count ≤ encodable_pages)
IsNamed names Zero count = Unit {0}

abbrev pub AreNamed : List BufferId → List Mapping → Type 0
AreNamed names = All (λ m. IsNamed names m.backing m.range.count)

-- a buffer that is encoded by its index alone, and pages of it that can be encoded
abbrev pub IsEncodable : Backing → ℕ → Type 0
IsEncodable (Buffer id page) count = (id.generation ≡ 0) × (id.index < most_names) × (page + count ≤ encodable_pages)
IsEncodable Zero count = Unit {0}

abbrev pub AreEncodable : List Mapping → Type 0
AreEncodable = All (λ m. IsEncodable m.backing m.range.count)
