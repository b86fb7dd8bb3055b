-- The ids that the page table's indexes stand for.
use Rattle.std.proofs.Common.{◌≡◌, ◌≢◌, ℕ, List, Some, slice_get, slice_index_or}
use Rattle.gv_types.specs.declared.mapping.Backing.{Backing}
use Rattle.gv_types.specs.declared.mapping.Backing.TheVariants.{Buffer, Zero}
use Rattle.gv_types.specs.declared.mapping.BufferId.{BufferId}
use Rattle.gv_types.specs.declared.mapping.Mapping.{Mapping}
use Rattle.gv_table.specs.BufferNames.{IsNamed, AreNamed}
use Rattle.gv_space.specs.ListWithTable.{IsApart, AreApart}

module _ (old new : List BufferId) where
  same-by : ((k : ℕ) (id : BufferId) → slice_get old k ≡ Some id → slice_get new k ≡ Some id) → (b : Backing) (n : ℕ) → IsNamed old b n → IsNamed new b n
  same-by same (Buffer id page) n is = (same id.index id is.0, is.1)
  same-by same Zero n is = tt

  -- names that stay
  pub named-same : (ms : List Mapping) → ((k : ℕ) (id : BufferId) → slice_get old k ≡ Some id → slice_get new k ≡ Some id) → AreNamed old ms → AreNamed new ms
  named-same ms same are = λ k d below. same-by same (slice_index_or ms k d).backing (slice_index_or ms k d).range.count (are k d below)

  others-by : (index : ℕ) → ((other : BufferId) → other.index ≢ index → slice_get old other.index ≡ Some other → slice_get new other.index ≡ Some other) →
      (b : Backing) (n : ℕ) → IsApart index b → IsNamed old b n → IsNamed new b n
  others-by index others (Buffer id page) n apart is = (others id apart is.0, is.1)
  others-by index others Zero n apart is = tt

  -- one index is renamed that no mapping has
  pub named-others : (index : ℕ) (ms : List Mapping) → ((other : BufferId) → other.index ≢ index → slice_get old other.index ≡ Some other → slice_get new other.index ≡ Some other) →
      AreApart index ms → AreNamed old ms → AreNamed new ms
  named-others index ms others apart are = λ k d below.
      others-by index others (slice_index_or ms k d).backing (slice_index_or ms k d).range.count (apart k d below) (are k d below)
