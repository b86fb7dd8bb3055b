-- What calls answer that change nothing.
use Rattle.std.specs.Prelude.{◌≡◌, ℕ, ◌==◌, nat_lt, Bool, true, false, List, [], ◌∷◌, map, length, slice_index, Option, Some, None}
use Rattle.gv_types.specs.Fault.{number_of}
use Rattle.gv_types.specs.declared.fault.Fault.TheVariants.{NoBuffer}
use Rattle.gv_types.specs.declared.mapping.BufferId.{BufferId}
use Rattle.gv_types.specs.declared.mapping.Mapping.{Mapping}
use Rattle.gv_buffers.specs.Buffers.{BuffersState, Buffer, buffer}
use Rattle.gv_table.specs.Table.{tables_of}
use Rattle.gv_journal.specs.Items.{next}
use Rattle.gv_vm.specs.Places.{place_at, run_of}
use Rattle.gv_vm.specs.QueueTurns.{either}
use Rattle.gv_c.specs.Statuses.{ok, bad_argument, no_vm}
use Rattle.gv_c.specs.Values.{c_place, no_uses}
use Rattle.gv_c.specs.declared.space_values.BufferUses.{BufferUses}
use Rattle.gv_c.specs.declared.space_values.TableCounts.{TableCounts}
use Rattle.gv_c.specs.declared.space_values.Translation.{Translation}
use Rattle.gv_c.specs.declared.held.Held.{Held}

-- where an address leads by a list of mappings, and for how many bytes
abbrev pub found_in : List Mapping → ℕ → Translation
found_in ms address = c_place (place_at ms address) (run_of ms address)

-- where an address leads, and nothing of how far
abbrev pub walked_in : List Mapping → ℕ → Translation
walked_in ms address = c_place (place_at ms address) 0

abbrev pub look_in : Bool → List Mapping → ℕ → Translation
look_in true ms address = walked_in ms address
look_in false ms address = found_in ms address

abbrev pub IsFoundBy : (List Mapping → ℕ → Translation) → Option Held → ℕ → ℕ → Translation → Type 0
IsFoundBy look None address status new = (status ≡ no_vm) × (new ≡ c_place None 0)
IsFoundBy look (Some held) address status new = (status ≡ ok) × (new ≡ look held.world.vm.space.mappings address)

abbrev pub IsFound : Option Held → ℕ → ℕ → Translation → Type 0
IsFound held address status new = IsFoundBy (look_in false) held address status new

abbrev pub IsWalked : Option Held → ℕ → ℕ → Translation → Type 0
IsWalked held address status new = IsFoundBy (look_in true) held address status new

-- each of so many, where there is a place for each
abbrev pub AreFoundBy : (List Mapping → ℕ → Translation) → Option Held → List ℕ → List Translation → ℕ → List Translation → Type 0
AreFoundBy look None addresses old status new = (status ≡ no_vm) × (new ≡ old)
AreFoundBy look (Some held) addresses old status new =
    either (length addresses == length old)
    ((status ≡ ok) × (new ≡ map (look held.world.vm.space.mappings) addresses))
    ((status ≡ bad_argument) × (new ≡ old))

abbrev pub AreFound : Option Held → List ℕ → List Translation → ℕ → List Translation → Type 0
AreFound held addresses old status new = AreFoundBy (look_in false) held addresses old status new

abbrev pub AreWalked : Option Held → List ℕ → List Translation → ℕ → List Translation → Type 0
AreWalked held addresses old status new = AreFoundBy (look_in true) held addresses old status new

abbrev pub IsValue : Option Held → ℕ → ℕ → ℕ → Type 0
IsValue None timeline status value = (status ≡ no_vm) × (value ≡ 0)
IsValue (Some held) timeline status value =
    either (nat_lt timeline (length held.world.numbers))
    ((status ≡ ok) × (value ≡ slice_index held.world.numbers timeline))
    ((status ≡ bad_argument) × (value ≡ 0))

abbrev pub uses_by : Option Buffer → Option BufferUses
uses_by None = None
uses_by (Some b) = Some (record { pages = b.pages; mapped = b.uses; kept = b.kept })

-- the pages of a buffer, and how many mappings of it are in the list and in undo values
abbrev pub uses_in : BuffersState → BufferId → Option BufferUses
uses_in t id = uses_by (buffer t id)

abbrev pub AreUsesBy : Option BufferUses → ℕ → BufferUses → Type 0
AreUsesBy None status new = (status ≡ number_of NoBuffer) × (new ≡ no_uses)
AreUsesBy (Some uses) status new = (status ≡ ok) × (new ≡ uses)

abbrev pub AreUses : Option Held → BufferId → ℕ → BufferUses → Type 0
AreUses None id status new = (status ≡ no_vm) × (new ≡ no_uses)
AreUses (Some held) id status new = AreUsesBy (uses_in held.world.vm.space.buffers id) status new

abbrev pub AreTables : Option Held → ℕ → TableCounts → Type 0
AreTables None status new = (status ≡ no_vm) × (new.tables ≡ 0 ∷ 0 ∷ 0 ∷ 0 ∷ 0 ∷ [])
AreTables (Some held) status new = (status ≡ ok) × (new.tables ≡ tables_of held.world.vm.space.mappings)

abbrev pub AreEntries : Option Held → ℕ → ℕ → ℕ → Type 0
AreEntries None status first after = (status ≡ no_vm) × (first ≡ 0) × (after ≡ 0)
AreEntries (Some held) status first after =
    (status ≡ ok) × (first ≡ held.world.vm.journal.first) × (after ≡ next held.world.vm.journal)
