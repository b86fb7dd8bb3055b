-- Items settled: those below a number go, with what they keep.
use Rattle.std.specs.Prelude.{◌≡◌, ℕ, ◌+◌, ◌-◌, ◌≤◌, Bool, false, ◌||◌, nat_lt, if◌then◌else◌, List, reverse, take, drop, length, position, Option, Some}
use Rattle.std.specs.Option.{option_map}
use Rattle.gv_types.specs.Page.{IsPage}
use Rattle.gv_types.specs.declared.fault.Fault.{Fault}
use Rattle.gv_types.specs.declared.fault.Fault.TheVariants.{NoEntry, Crossed}
use Rattle.gv_space.specs.State.{SpaceState}
use Rattle.gv_space.specs.Undo.{released}
use Rattle.gv_journal.specs.Items.{JournalState, numbered, next, view}
use Rattle.gv_journal.specs.History.{kept_by, back, base}
use Rattle.gv_journal.specs.declared.item.Item.{Item}
use Rattle.gv_journal.specs.declared.item.ItemKind.{ItemKind}
use Rattle.gv_journal.specs.declared.item.ItemKind.TheVariants.{Bind, Withdrawal}

-- the items numbered `to` or more
abbrev pub later : JournalState → ℕ → List Item
later j to = take (next j - to) j.items

-- the items below
abbrev pub earlier : JournalState → ℕ → List Item
earlier j to = drop (next j - to) j.items

-- a Withdrawal of an item below a number
abbrev pub crosses : ℕ → ItemKind → Bool
crosses to (Bind queue number request seen done) = false
crosses to (Withdrawal of) = nat_lt of to

-- the least item numbered `to` or more that is one
abbrev pub crossing : JournalState → ℕ → Option ℕ
crossing j to = option_map (λ index. to + index) (position (λ item. crosses to item.kind) (reverse (later j to)))

-- why the items below a number can't be settled
abbrev pub settle_fault : JournalState → ℕ → Option Fault
settle_fault j to =
    if nat_lt to j.first || nat_lt (next j) to then Some NoEntry
    else option_map (λ by. Crossed by) (crossing j to)

-- The items below a number went, and what they kept is given up. The later ones stay with the lists before them, and
-- what lies under them is what the settled ones said.
pub record IsSettled (s t : SpaceState) (old new : JournalState) (to : ℕ) : Type 0 where
  pub items : new ≡ record old { first = to; items = later old to }
  pub space : t ≡ released s (kept_by (earlier old to))
  pub back : (n : ℕ) → n ≤ length new.items → back t.mappings new.items n ≡ back s.mappings old.items n
  pub base : (page : ℕ) → IsPage page →
      base t.mappings new.items page ≡ view (numbered old.first (earlier old to)) (base s.mappings old.items) page
