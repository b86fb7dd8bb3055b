-- Room that nothing needs is given back.
use Rattle.std.specs.Prelude.{ℕ, List, [], ◌∷◌, Option, None, Some}
use Rattle.gv_types.specs.declared.fault.Fault.{Fault}
use Rattle.gv_types.specs.declared.fault.Fault.TheVariants.{Held}
use Rattle.gv_journal.specs.Items.{JournalState}
use Rattle.gv_journal.specs.declared.item.Item.{Item}

-- the least entry held, where one is
abbrev pub held_fault : ℕ → List Item → Option Fault
held_fault first [] = None
held_fault first (item ∷ older) = Some (Held first)

-- why no room is given back: what could come back needs it
abbrev pub trim_fault : JournalState → Option Fault
trim_fault j = held_fault j.first j.items
