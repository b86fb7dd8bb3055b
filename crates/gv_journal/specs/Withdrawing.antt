-- An older item withdrawn: what refuses it, and what it makes of the list.
use Rattle.std.specs.Prelude.{◌≡◌, ℕ, ◌+◌, ◌-◌, ◌*◌, ◌≤◌, Bool, false, not, ◌&&◌, nat_lt, if◌then◌else◌, List, [], ◌∷◌, length, max, reverse, drop, slice_get, Option, Some, None, ◌⊎◌}
use Rattle.std.specs.List.{list_any}
use Rattle.gv_types.specs.Page.{IsPage}
use Rattle.gv_types.specs.PageRange.{covers, meets}
use Rattle.gv_types.specs.Operation.{range_of}
use Rattle.gv_types.specs.declared.fault.Fault.{Fault}
use Rattle.gv_types.specs.declared.fault.Fault.TheVariants.{NoEntry, NotABind, Withdrawn, Touched, OutOfMemory}
use Rattle.gv_types.specs.declared.mapping.Mapping.{Mapping}
use Rattle.gv_types.specs.declared.operation.PageOp.{PageOp}
use Rattle.gv_ranges.specs.List.{at}
use Rattle.gv_ranges.specs.Edit.{edited_by_all, restored}
use Rattle.gv_space.specs.State.{SpaceState}
use Rattle.gv_space.specs.Undo.{OpUndoState, IsUndoOf}
use Rattle.gv_space.specs.Refusal.{first_of, limit_fault}
use Rattle.gv_space.specs.Change.{changed_to}
use Rattle.gv_journal.specs.Items.{JournalState, entries, next, is_withdrawn, done_by, view_without}
use Rattle.gv_journal.specs.History.{back, base}
use Rattle.gv_journal.specs.Applying.{met}
use Rattle.gv_journal.specs.Verdict.{full_fault}
use Rattle.gv_journal.specs.declared.item.Item.{Item}
use Rattle.gv_journal.specs.declared.item.ItemKind.{ItemKind}
use Rattle.gv_journal.specs.declared.item.ItemKind.TheVariants.{Bind, Withdrawal}

-- the item with a number
abbrev pub item_at : JournalState → ℕ → Option Item
item_at j n = if nat_lt n j.first then None else slice_get (reverse j.items) (n - j.first)

-- some page is covered by an operation of each
abbrev pub touch : List PageOp → List PageOp → Bool
touch ops others = list_any (λ op. list_any (λ other. meets (range_of op) (range_of other)) others) ops

-- the least number of an item that is live and touches these operations; the items stand the oldest one first, from this
-- number on
abbrev pub touched_from : (ℕ → Bool) → List PageOp → ℕ → List Item → Option ℕ
touched_from gone ops n [] = None
touched_from gone ops n (item ∷ later) =
    if touch ops (done_by item.kind) && not (gone n) then Some n else touched_from gone ops (n + 1) later

-- the least live later item that touches what an item did
abbrev pub touched_by : JournalState → ℕ → List PageOp → Option ℕ
touched_by j n ops = touched_from (is_withdrawn (entries j)) ops (n + 1) (drop (n + 1 - j.first) (reverse j.items))

abbrev pub touched_fault : Option ℕ → Option Fault
touched_fault None = None
touched_fault (Some by) = Some (Touched by)

abbrev pub kind_fault : JournalState → ℕ → ItemKind → Option Fault
kind_fault j n (Withdrawal of) = Some NotABind
kind_fault j n (Bind queue number request seen done) =
    if is_withdrawn (entries j) n then Some Withdrawn else touched_fault (touched_by j n done.items)

abbrev pub found_fault : JournalState → ℕ → Option Item → Option Fault
found_fault j n None = Some NoEntry
found_fault j n (Some item) = kind_fault j n item.kind

-- why an item isn't withdrawn, before its pages are put back
abbrev pub entry_fault : JournalState → ℕ → Option Fault
entry_fault j n = first_of (found_fault j n (item_at j n)) (full_fault j)

-- the space once the pages of an operation hold what the list before it held there
abbrev pub after_restore : SpaceState → PageOp → List Mapping → SpaceState
after_restore s op old = changed_to (restored s.mappings (range_of op) old) (met s.mappings (range_of op)) s

-- The list once operations are withdrawn, the newest first: each gives up its pages, which get what stood there in the
-- list that it was applied to. That is the list before them all, edited by those before it.
abbrev pub withdrawn : List Mapping → List PageOp → List Mapping → List Mapping
withdrawn before [] ms = ms
withdrawn before (op ∷ older) ms = withdrawn before older (restored ms (range_of op) (edited_by_all older before))

abbrev pub after_withdrawal : List Mapping → List PageOp → SpaceState → SpaceState
after_withdrawal before [] s = s
after_withdrawal before (op ∷ older) s = after_withdrawal before older (after_restore s op (edited_by_all older before))

-- the first limit that is passed meanwhile
abbrev pub withdrawal_limits : List Mapping → List PageOp → SpaceState → Option Fault
withdrawal_limits before [] s = None
withdrawal_limits before (op ∷ older) s =
    first_of (limit_fault s (range_of op) (restored s.mappings (range_of op) (edited_by_all older before)))
    (withdrawal_limits before older (after_restore s op (edited_by_all older before)))

-- the list before an item
abbrev pub list_before : SpaceState → JournalState → ℕ → List Mapping
list_before s j n = back s.mappings j.items (next j - n)

-- what an item did
abbrev pub done_of : Option Item → List PageOp
done_of None = []
done_of (Some item) = done_by item.kind

-- the item's operations, the newest first
abbrev pub ops_at : JournalState → ℕ → List PageOp
ops_at j n = reverse (done_of (item_at j n))

-- The undo values of a withdrawal, that of the newest operation first: each took what the pages of its operation gave up, from
-- the list that those before it left.
abbrev pub AreUndosOfWithdrawal : List Mapping → List PageOp → List Mapping → List OpUndoState → Type 0
AreUndosOfWithdrawal before [] ms [] = Unit {0}
AreUndosOfWithdrawal before (op ∷ older) ms (u ∷ us) =
    (u.range ≡ range_of op)
    × IsUndoOf ms (restored ms (range_of op) (edited_by_all older before)) u
    × AreUndosOfWithdrawal before older (restored ms (range_of op) (edited_by_all older before)) us
AreUndosOfWithdrawal before [] ms (u ∷ us) = ⊥
AreUndosOfWithdrawal before (op ∷ older) ms [] = ⊥

-- how long the longest of the lists on the way is
abbrev pub longest_withdrawn : List Mapping → List PageOp → List Mapping → ℕ
longest_withdrawn before [] ms = length ms
longest_withdrawn before (op ∷ older) ms =
    max (length ms) (longest_withdrawn before older (restored ms (range_of op) (edited_by_all older before)))

-- where there was no room for that, there is now for twice that at most
abbrev pub GrowsForWithdrawal : JournalState → ℕ → SpaceState → SpaceState → Type 0
GrowsForWithdrawal j n old new = new.room ≤ max old.room (2 * longest_withdrawn (list_before old j n) (ops_at j n) old.mappings)

-- why an item isn't withdrawn, where memory suffices
abbrev pub withdraw_fault : SpaceState → JournalState → ℕ → Option Fault
withdraw_fault s j n = first_of (entry_fault j n) (withdrawal_limits (list_before s j n) (ops_at j n) s)

-- a call is refused by its fault, or for want of memory, which comes after all faults but the limits
abbrev pub IsWithdrawRefused : SpaceState → JournalState → ℕ → Fault → Type 0
IsWithdrawRefused s j n fault = (withdraw_fault s j n ≡ Some fault) ⊎ ((fault ≡ OutOfMemory) × (entry_fault j n ≡ None))

-- An item was withdrawn: there is a Withdrawal of it more, the list is as the definition says, and each page holds what the
-- items without it say.
pub record IsWithdrawn (s t : SpaceState) (old new : JournalState) (n : ℕ) : Type 0 where
  pub item : Item
  pub items : new ≡ record old { items = item ∷ old.items }
  pub kind : item.kind ≡ Withdrawal n
  pub state : t ≡ record (after_withdrawal (list_before s old n) (ops_at old n) s) { room = t.room }
  pub list : t.mappings ≡ withdrawn (list_before s old n) (ops_at old n) s.mappings
  pub pages : (page : ℕ) → IsPage page → at t.mappings page ≡ view_without n (entries old) (base s.mappings old.items) page
  pub undos : AreUndosOfWithdrawal (list_before s old n) (ops_at old n) s.mappings item.undos.items
  pub others : (page : ℕ) → IsPage page → list_any (λ op. covers (range_of op) page) (ops_at old n) ≡ false →
      at t.mappings page ≡ at s.mappings page
