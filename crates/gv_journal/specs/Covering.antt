-- What an item says of a page.
use Rattle.std.specs.Prelude.{ℕ, Bool, List, [], ◌∷◌, reverse, find, if◌then◌else◌, Option, Some, None}
use Rattle.gv_types.specs.PageRange.{covers}
use Rattle.gv_types.specs.Operation.{range_of}
use Rattle.gv_types.specs.declared.mapping.Entry.{Entry}
use Rattle.gv_types.specs.declared.operation.PageOp.{PageOp}
use Rattle.gv_ranges.specs.List.{at}
use Rattle.gv_space.specs.Undo.{OpUndoState}
use Rattle.gv_journal.specs.Items.{NumberedItem, done_by, IsLiveItem}
use Rattle.gv_journal.specs.declared.item.Item.{Item}
use Rattle.gv_journal.specs.declared.item.ItemKind.{ItemKind}

-- the last of its operations that covers the page
abbrev pub last_covering : ItemKind → ℕ → Option PageOp
last_covering kind page = find (λ op. covers (range_of op) page) (reverse (done_by kind))

-- what the first of operations that covers the page took out of it, by their undo values; both stand the first operation first
abbrev pub first_taken : List PageOp → List OpUndoState → ℕ → Option (Option Entry)
first_taken [] us page = None
first_taken (op ∷ later) [] page = None
first_taken (op ∷ later) (u ∷ us) page =
    if covers (range_of op) page then Some (at u.change.taken page) else first_taken later us page

-- what a live item took out of the page first
abbrev pub live_taken : Bool → Item → ℕ → Option (Option Entry)
live_taken withdrawn item page = if withdrawn then None else first_taken (done_by item.kind) item.undos.items page

-- each item was live when it was the newest: nothing older names it
abbrev pub WereLive : List NumberedItem → Type 0
WereLive [] = Unit {0}
WereLive (x ∷ older) = IsLiveItem (x ∷ older) x.number × WereLive older
