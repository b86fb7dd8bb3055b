-- Entries of the journal, as C is told them.
use Rattle.std.specs.Prelude.{◌≡◌, ℕ, Bool, List, [], map, length, Option, Some, None}
use Rattle.gv_types.specs.Fault.{number_of}
use Rattle.gv_types.specs.declared.fault.Fault.TheVariants.{NoEntry}
use Rattle.gv_types.specs.declared.operation.Op.{Op}
use Rattle.gv_types.specs.declared.operation.Op.TheVariants.{Map, MapZero, Unmap, UnmapBuffer}
use Rattle.gv_journal.specs.Items.{entries, is_withdrawn}
use Rattle.gv_journal.specs.Withdrawing.{item_at}
use Rattle.gv_journal.specs.declared.item.Item.{Item}
use Rattle.gv_journal.specs.declared.item.ItemKind.{ItemKind}
use Rattle.gv_journal.specs.declared.item.ItemKind.TheVariants.{Bind, Withdrawal}
use Rattle.gv_c.specs.Lists.{IsWritten}
use Rattle.gv_c.specs.Statuses.{ok, no_vm}
use Rattle.gv_c.specs.Values.{bit, c_buffer, c_flags, no_buffer}
use Rattle.gv_c.specs.declared.entry.EntryInfo.{EntryInfo}
use Rattle.gv_c.specs.declared.held.Held.{Held}
use Rattle.gv_c.specs.declared.values.Operation.{Operation}

abbrev pub no_op : Operation
no_op = record { kind = 0; flags = 0; start = 0; size = 0; buffer = no_buffer; offset = 0 }

abbrev pub c_op : Op → Operation
c_op (Map addr len buffer offset flags) =
    record { kind = 1; flags = c_flags flags; start = addr; size = len; buffer = c_buffer buffer; offset = offset }
c_op (MapZero addr len flags) = record no_op { kind = 2; flags = c_flags flags; start = addr; size = len }
c_op (Unmap addr len) = record no_op { kind = 3; start = addr; size = len }
c_op (UnmapBuffer buffer) = record no_op { kind = 4; buffer = c_buffer buffer }

abbrev pub no_info : EntryInfo
no_info = record { kind = 0; withdrawn = 0; queue = 0; number = 0; ops = 0; of = 0 }

abbrev pub c_info : ItemKind → Bool → EntryInfo
c_info (Bind queue number request seen done) gone =
    record no_info { kind = 1; withdrawn = bit gone; queue = queue; number = number; ops = length request.ops.items }
c_info (Withdrawal of) gone = record no_info { kind = 2; withdrawn = bit gone; of = of }

-- the operations that were asked for
abbrev pub asked_in : ItemKind → List Op
asked_in (Bind queue number request seen done) = request.ops.items
asked_in (Withdrawal of) = []

-- an item that is held, and its operations, as many as there is room for
abbrev pub IsItem : Option Item → Bool → List Operation → ℕ → EntryInfo → List Operation → ℕ → Type 0
IsItem None gone old status info new count = (status ≡ number_of NoEntry) × (info ≡ no_info) × (new ≡ old) × (count ≡ 0)
IsItem (Some item) gone old status info new count =
    (status ≡ ok) × (info ≡ c_info item.kind gone)
    × IsWritten (map c_op (asked_in item.kind)) 0 old new count (length (asked_in item.kind))

abbrev pub IsEntry : Option Held → ℕ → List Operation → ℕ → EntryInfo → List Operation → ℕ → Type 0
IsEntry None entry old status info new count = (status ≡ no_vm) × (info ≡ no_info) × (new ≡ old) × (count ≡ 0)
IsEntry (Some held) entry old status info new count =
    IsItem (item_at held.world.vm.journal entry) (is_withdrawn (entries held.world.vm.journal) entry) old status info new count
