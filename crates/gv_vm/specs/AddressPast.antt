-- What the items of a journal say of an address.
use Rattle.std.specs.Prelude.{ℕ, ◌/◌, Bool, List, filter_map, Option}
use Rattle.std.specs.Option.{option_map}
use Rattle.gv_types.specs.Page.{bytes_per_page}
use Rattle.gv_types.specs.Operation.{own_part}
use Rattle.gv_journal.specs.Items.{JournalState, NumberedItem, entries, is_withdrawn}
use Rattle.gv_journal.specs.History.{base}
use Rattle.gv_journal.specs.Covering.{last_covering}
use Rattle.gv_vm.specs.Places.{place_by}
use Rattle.gv_vm.specs.State.{VmState}
use Rattle.gv_vm.specs.declared.places.Place.{Place}
use Rattle.gv_vm.specs.declared.vm.past.PastItem.{PastItem}

-- what an item says of an address, if an operation of it covers the page: where it leads by the last that does, and whether the
-- item is withdrawn
abbrev pub effect_at : (ℕ → Bool) → ℕ → NumberedItem → Option PastItem
effect_at gone addr x =
    option_map (λ op. record { entry = x.number; is_withdrawn = gone x.number; place = place_by (own_part op) addr })
    (last_covering x.item.kind (addr / bytes_per_page))

-- what those say of it that say something, the newest first
abbrev pub past_of : JournalState → ℕ → List PastItem
past_of j addr = filter_map (effect_at (is_withdrawn (entries j)) addr) (entries j)

-- where it leads by what lies under the oldest item
abbrev pub place_under : VmState → ℕ → Option Place
place_under v addr = place_by (base v.space.mappings v.journal.items) addr
