-- What contracts see of a `ItemStore`: the items held, the oldest one first, and a note beside each; how many settled items have
-- left their slots in front of them, and for how many more there is room. No public clause cites this module.
use Rattle.std.specs.Prelude.{◌≡◌, ℕ, ◌+◌, ◌-◌, ◌*◌, ◌<◌, ◌≤◌, ◌⊎◌, List, [], length, max, take, drop, vec_len, vec_capacity, Option}
use Rattle.std.specs.List.{All}
use Rattle.gv_journal.specs.declared.item.Item.{Item}
use Rattle.gv_journal.specs.Reach.{AreReaches}
use Rattle.gv_journal.specs.declared.item_store.ItemStore.TheInside.{Inside}

pub record ItemStoreState : Type 0 where
  pub items : List Item
  pub notes : List (Option ℕ)
  pub spent : ℕ
  pub item_room : ℕ
  pub note_room : ℕ

-- there is room for one item more
pub record HasSlot (s : ItemStoreState) : Type 0 where
  pub item : 0 < s.item_room
  pub note : 0 < s.note_room

-- the slots that there are, those of settled items and free ones too
abbrev pub item_indices : ItemStoreState → ℕ
item_indices s = s.spent + length s.items + s.item_room

abbrev pub note_indices : ItemStoreState → ℕ
note_indices s = s.spent + length s.notes + s.note_room

-- there is no room, and at least half of what stands here is spent
pub record MustGiveWay (s : ItemStoreState) : Type 0 where
  pub full : (s.item_room ≡ 0) ⊎ (s.note_room ≡ 0)
  pub half : length s.items ≤ s.spent
  pub some : 0 < s.spent

-- the settled items' slots are free
pub record HasGivenWay (old new : ItemStoreState) : Type 0 where
  pub spent : new.spent ≡ 0
  pub item_indices : item_indices new ≡ item_indices old
  pub note_indices : note_indices new ≡ note_indices old

-- there are at most twice the slots, or four
pub record HasFewSlots (old new : ItemStoreState) : Type 0 where
  pub item_indices : item_indices new ≤ max (2 * item_indices old) 4
  pub note_indices : note_indices new ≤ max (2 * note_indices old) 4

-- the settled items stand in front of the held ones until they give way
abbrev pub stored : Inside → ItemStoreState
stored s =
    record {
      items = drop s.spent s.items.items;
      notes = drop s.spent s.columns.notes;
      spent = s.spent;
      item_room = vec_capacity s.items - vec_len s.items;
      note_room = s.columns.room;
    }

-- what is left of a settled item keeps nothing
abbrev pub IsSpent : Item → Type 0
IsSpent item = item.undos.items ≡ []

pub record IsItemStore (s : Inside) : Type 0 where
  pub within : s.spent ≤ vec_len s.items
  pub beside : length s.columns.notes ≡ vec_len s.items
  pub reaches : AreReaches (drop s.spent s.columns.firsts) (drop s.spent s.columns.pasts) (drop s.spent s.columns.regions) (drop s.spent s.items.items)
  pub spent_items : All IsSpent (take s.spent s.items.items)
