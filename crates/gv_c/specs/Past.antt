-- What the entries of the journal say of an address.
use Rattle.std.specs.Prelude.{◌≡◌, ℕ, ◌<◌, ◌⊎◌, List, map, length, Option, Some, None}
use Rattle.gv_vm.specs.AddressPast.{past_of, place_under}
use Rattle.gv_vm.specs.declared.vm.past.PastItem.{PastItem}
use Rattle.gv_c.specs.Lists.{IsWritten, IsNotWritten}
use Rattle.gv_c.specs.Statuses.{ok, out_of_memory, no_vm}
use Rattle.gv_c.specs.Values.{c_place, bit}
use Rattle.gv_c.specs.declared.space_values.Translation.{Translation}
use Rattle.gv_c.specs.declared.held.Held.{Held}
use Rattle.gv_c.specs.declared.past.PastEntry.{PastEntry}

-- by an entry nothing is said of how far
abbrev pub c_past : PastItem → PastEntry
c_past p = record { entry = p.entry; withdrawn = bit p.is_withdrawn; reserved = 0; place = c_place p.place 0 }

-- what is said is written, or memory was refused for it
abbrev pub ArePast : List PastItem → ℕ → List PastEntry → ℕ → List PastEntry → ℕ → ℕ → Type 0
ArePast past from old status new count total =
    ((status ≡ ok) × IsWritten (map c_past past) from old new count total)
    ⊎ ((status ≡ out_of_memory) × (0 < length past) × IsNotWritten old new count total)

abbrev pub IsPast : Option Held → ℕ → ℕ → List PastEntry → ℕ → List PastEntry → ℕ → ℕ → Type 0
IsPast None address from old status new count total = (status ≡ no_vm) × IsNotWritten old new count total
IsPast (Some held) address from old status new count total =
    ArePast (past_of held.world.vm.journal address) from old status new count total

-- what lies under the oldest entry
abbrev pub IsBase : Option Held → ℕ → ℕ → Translation → Type 0
IsBase None address status new = (status ≡ no_vm) × (new ≡ c_place None 0)
IsBase (Some held) address status new = (status ≡ ok) × (new ≡ c_place (place_under held.world.vm address) 0)
