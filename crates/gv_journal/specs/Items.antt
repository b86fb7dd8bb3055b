-- The items of a journal with their numbers: which of them are live, and what the live ones say of a page.
-- A list of items, of operations or of undo values has the newest first, unless it says otherwise.
use Rattle.std.specs.Prelude.{ℕ, ◌≡◌, ◌+◌, Bool, false, ◌==◌, ◌||◌, if◌then◌else◌, List, [], ◌∷◌, ◌++◌, length, reverse, Option}
use Rattle.std.specs.List.{list_any}
use Rattle.gv_types.specs.Operation.{view as view_of_ops}
use Rattle.gv_types.specs.declared.mapping.Entry.{Entry}
use Rattle.gv_types.specs.declared.operation.PageOp.{PageOp}
use Rattle.gv_journal.specs.declared.item.Item.{Item}
use Rattle.gv_journal.specs.declared.item.ItemKind.{ItemKind}
use Rattle.gv_journal.specs.declared.item.ItemKind.TheVariants.{Bind, Withdrawal}

-- what contracts see of a `Journal`: how many items it may hold, the number of the oldest one, and the items
pub record JournalState : Type 0 where
  pub limit : ℕ
  pub first : ℕ
  pub items : List Item

-- the number of the next item
abbrev pub next : JournalState → ℕ
next j = j.first + length j.items

-- an item with its number
pub record NumberedItem : Type 0 where
  pub number : ℕ
  pub item : Item

-- items with their numbers, the oldest of which is `first`
abbrev pub numbered : ℕ → List Item → List NumberedItem
numbered first [] = []
numbered first (item ∷ older) = record { number = first + length older; item = item } ∷ numbered first older

-- the items of a journal with their numbers
abbrev pub entries : JournalState → List NumberedItem
entries j = numbered j.first j.items

-- a Withdrawal names the item that it withdraws
abbrev pub names : ItemKind → ℕ → Bool
names (Bind queue number request seen done) n = false
names (Withdrawal of) n = of == n

-- some item names this number
abbrev pub is_withdrawn : List NumberedItem → ℕ → Bool
is_withdrawn xs n = list_any (λ x. names x.item.kind n) xs

-- a Bind is live where no item names it
abbrev pub IsLiveItem : List NumberedItem → ℕ → Type 0
IsLiveItem xs n = is_withdrawn xs n ≡ false

-- what an item did, the first operation first: a Withdrawal has no operations of its own
abbrev pub done_by : ItemKind → List PageOp
done_by (Bind queue number request seen done) = done.items
done_by (Withdrawal of) = []

-- the operations of those items whose numbers aren't among these
abbrev pub ops_without : (ℕ → Bool) → List NumberedItem → List PageOp
ops_without gone [] = []
ops_without gone (x ∷ older) = (if gone x.number then [] else reverse (done_by x.item.kind)) ++ ops_without gone older

-- the operations of the live items
abbrev pub live_ops : List NumberedItem → List PageOp
live_ops xs = ops_without (is_withdrawn xs) xs

-- looking back from the newest item: the newest live operation that covers a page decides what it holds, and where none
-- covers it, what lay below the oldest item
abbrev pub view : List NumberedItem → (ℕ → Option Entry) → ℕ → Option Entry
view xs base page = view_of_ops (live_ops xs) base page

-- what the items say without one of them, the others with their numbers: its operations are left out as those of one that
-- isn't live
abbrev pub view_without : ℕ → List NumberedItem → (ℕ → Option Entry) → ℕ → Option Entry
view_without n xs base page = view_of_ops (ops_without (λ m. (n == m) || is_withdrawn xs m) xs) base page
