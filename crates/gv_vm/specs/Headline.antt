-- The headline. After any interleaving of calls every page translates, by mapping list and page table alike, to what the
-- newest live operation covering it says; a request refused at any operation leaves mappings, tables and buffer uses as
-- before; taking back the newest entry restores the state before it; withdrawing an older entry that no live later one
-- touches gives the map of the history without it.
-- A machine has no page table here: 'by page table' is said of every tree of its list. The one that stands is given by
-- `Vm::table`, and it is such a tree (`TableMatchesList`).
use Rattle.std.specs.Prelude.{◌≡◌, ℕ, ◌+◌, List, Option, Some}
use Rattle.gv_types.specs.Page.{IsPage}
use Rattle.gv_types.specs.declared.mapping.BufferId.{BufferId}
use Rattle.gv_types.specs.declared.mapping.Entry.{Entry}
use Rattle.gv_ranges.specs.List.{at}
use Rattle.gv_table.specs.Table.{IsTree, IsEntryAt}
use Rattle.gv_table.specs.declared.page_table.PageTable.{PageTable}
use Rattle.gv_buffers.specs.Buffers.{uses, kept}
use Rattle.gv_space.specs.Counts.{count_of}
use Rattle.gv_journal.specs.Items.{entries, view, view_without}
use Rattle.gv_journal.specs.History.{base, back}
use Rattle.gv_vm.specs.World.{WorldState}
use Rattle.gv_vm.specs.Run.{RunsWith, StoppedWith}
use Rattle.gv_vm.specs.State.{VmState, IsVm}
use Rattle.gv_vm.specs.declared.event.Event.{Event}
use Rattle.gv_vm.specs.declared.event.Event.TheVariants.{Withdraw}
use Rattle.gv_vm.specs.declared.event.Reply.{Reply}
use Rattle.gv_vm.specs.declared.event.Reply.TheVariants.{Told, Rewound, Withdrawn}
use Rattle.gv_vm.specs.declared.outcome.Outcome.{Outcome}
use Rattle.gv_vm.specs.declared.outcome.Outcome.TheVariants.{Accepted, Refused}

-- each page holds, by the list and by the page table of that list, what the newest live operation that covers it says, and
-- where none does, what lies under the oldest item
abbrev pub EachPageTranslates : VmState → Type 0
EachPageTranslates v =
    (page : ℕ) → IsPage page →
    (at v.space.mappings page ≡ view (entries v.journal) (base v.space.mappings v.journal.items) page)
    × ((table : PageTable) (held : Option Entry) → IsTree v.space.mappings table → IsEntryAt table page held → held ≡ at v.space.mappings page)

-- the list with its boundaries, every page table of it, the uses and the kept mappings of every buffer, and the items are
-- equal to those before
pub record LeavesAll (before after : VmState) : Type 0 where
  pub list : after.space.mappings ≡ before.space.mappings
  pub tree : (table : PageTable) → IsTree before.space.mappings table → IsTree after.space.mappings table
  pub used : (id : BufferId) → uses after.space.buffers id ≡ uses before.space.buffers id
  pub kept : (id : BufferId) → kept after.space.buffers id ≡ kept before.space.buffers id
  pub items : after.journal ≡ before.journal

-- the list that comes back is the one before the newest entry, boundaries included, and so are its page table and the uses
-- of every buffer, which count that list; the older entries lead where they led
pub record TakesBack (before after : VmState) : Type 0 where
  pub list : after.space.mappings ≡ back before.space.mappings before.journal.items 1
  pub tree : (table : PageTable) → IsTree (back before.space.mappings before.journal.items 1) table → IsTree after.space.mappings table
  pub used : (id : BufferId) (n : ℕ) → uses after.space.buffers id ≡ Some n → n ≡ count_of id (back before.space.mappings before.journal.items 1)
  pub older : (n : ℕ) → back after.space.mappings after.journal.items n ≡ back before.space.mappings before.journal.items (n + 1)

-- the list before the newest entry is that from which it was applied
abbrev pub RemembersBefore : VmState → VmState → Type 0
RemembersBefore before after = (n : ℕ) → back after.space.mappings after.journal.items (n + 1) ≡ back before.space.mappings before.journal.items n

-- each page holds what the history without one entry says
abbrev pub GivesTheRest : ℕ → VmState → VmState → Type 0
GivesTheRest entry before after =
    (page : ℕ) → IsPage page →
    at after.space.mappings page ≡ view_without entry (entries before.journal) (base before.space.mappings before.journal.items) page

abbrev pub SaysOfOutcome : Outcome → VmState → VmState → Type 0
SaysOfOutcome (Accepted entry) before after = RemembersBefore before after
SaysOfOutcome (Refused op fault) before after = LeavesAll before after
SaysOfOutcome _ before after = LeavesAll before after

abbrev pub SaysOfReply : Event → Reply → VmState → VmState → Type 0
SaysOfReply event (Told number outcome) before after = SaysOfOutcome outcome before after
SaysOfReply event (Rewound item) before after = TakesBack before after
SaysOfReply (Withdraw entry) (Withdrawn item) before after = GivesTheRest entry before after × RemembersBefore before after
SaysOfReply event _ before after = Unit {0}

-- of each step: all pages translate behind it, what always holds of a machine holds there, and what its reply says of it
abbrev pub Says : WorldState → Event → Reply → WorldState → Type 0
Says before event reply after = EachPageTranslates after.vm × IsVm after.vm × SaysOfReply event reply before.vm after.vm

-- a step leads to a machine as it has to be, and its reply says of it what it has to say
abbrev pub IsSoundStep : WorldState → Event → Reply → WorldState → Type 0
IsSoundStep old event reply new = IsVm new.vm × SaysOfReply event reply old.vm new.vm

-- it holds along every run
abbrev pub Headline : WorldState → List Event → List Reply → WorldState → Type 0
Headline old events replies new = RunsWith Says old events replies new

-- it holds along the events that ran, where want of memory stopped them
abbrev pub StoppedHeadline : WorldState → List Event → List Reply → WorldState → Type 0
StoppedHeadline old events replies new = StoppedWith Says old events replies new
