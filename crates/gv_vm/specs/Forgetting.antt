-- Outcomes of a queue that are let go.
use Rattle.std.specs.Prelude.{ℕ, ◌+◌, Bool, false, ◌==◌, ◌&&◌, ◌||◌, nat_lt, nat_le, if◌then◌else◌, ◌++◌, length, drop, replicate, reverse, position, slice_set, Option, Some}
use Rattle.std.specs.Option.{option_map}
use Rattle.gv_types.specs.declared.fault.Fault.{Fault}
use Rattle.gv_types.specs.declared.fault.Fault.TheVariants.{NoOutcome, Held}
use Rattle.gv_journal.specs.Items.{JournalState}
use Rattle.gv_journal.specs.declared.item.ItemKind.{ItemKind}
use Rattle.gv_journal.specs.declared.item.ItemKind.TheVariants.{Bind, Withdrawal}
use Rattle.gv_vm.specs.Outcomes.{told_to, forgotten_outcome}
use Rattle.gv_vm.specs.State.{VmState, forgotten_of}

-- a Bind of the queue whose number is below this one
abbrev pub is_told_below : ℕ → ℕ → ItemKind → Bool
is_told_below queue to (Bind q number request seen done) = q == queue && nat_lt number to
is_told_below queue to (Withdrawal of) = false

-- the least held entry of a queue whose number is below this one: its outcome stays
abbrev pub least_held_below : JournalState → ℕ → ℕ → Option ℕ
least_held_below j queue to = option_map (λ index. j.first + index) (position (λ item. is_told_below queue to item.kind) (reverse j.items))

-- why the outcomes of a queue below a number aren't forgotten
abbrev pub forget_fault : VmState → ℕ → ℕ → Option Fault
forget_fault v queue to =
    if nat_le (length v.told) queue || nat_lt to (forgotten_of v queue) || nat_lt (length (told_to v.told queue)) to then Some NoOutcome
    else option_map (λ by. Held by) (least_held_below v.journal queue to)

-- the outcomes of a queue below a number are forgotten
abbrev pub with_forgotten : VmState → ℕ → ℕ → VmState
with_forgotten v queue to =
    record v {
      told = slice_set v.told queue (replicate to forgotten_outcome ++ drop to (told_to v.told queue));
      forgotten = slice_set v.forgotten queue to;
    }
