-- The lists before each item, and what its undo values have to do with them.
use Rattle.std.specs.Prelude.{◌≡◌, ℕ, Bool, zero, suc, false, IsTrue, List, [], ◌∷◌, ◌++◌, length, reverse, Option}
use Rattle.gv_types.specs.Page.{IsPage}
use Rattle.gv_types.specs.PageRange.{covers}
use Rattle.gv_types.specs.Operation.{range_of, view as view_of_ops}
use Rattle.gv_types.specs.declared.mapping.Entry.{Entry}
use Rattle.gv_types.specs.declared.mapping.Mapping.{Mapping}
use Rattle.gv_types.specs.declared.operation.PageOp.{PageOp}
use Rattle.gv_ranges.specs.List.{at}
use Rattle.gv_ranges.specs.Edit.{edited, edited_by_all}
use Rattle.gv_space.specs.Undo.{OpUndoState, IsUndoOf}
use Rattle.gv_journal.specs.Undoing.{taken_by, undone_by, AreRevertible}
use Rattle.gv_journal.specs.Items.{NumberedItem, numbered, is_withdrawn, ops_without, view}
use Rattle.gv_journal.specs.declared.item.Item.{Item}
use Rattle.gv_journal.specs.declared.item.ItemKind.{ItemKind}
use Rattle.gv_journal.specs.declared.item.ItemKind.TheVariants.{Bind, Withdrawal}

-- the undo values of an item
abbrev pub undos_of : Item → List OpUndoState
undos_of item = reverse item.undos.items

-- the mappings that the undo values of items keep
abbrev pub kept_by : List Item → List Mapping
kept_by [] = []
kept_by (item ∷ older) = taken_by (undos_of item) ++ kept_by older

-- the list once the newest items are taken back
abbrev pub back : List Mapping → List Item → ℕ → List Mapping
back ms items zero = ms
back ms [] (suc n) = ms
back ms (item ∷ older) (suc n) = back (undone_by ms (undos_of item)) older n

-- what lies under the oldest item
abbrev pub base : List Mapping → List Item → ℕ → Option Entry
base ms items page = at (back ms items (length items)) page

-- each page of the list is what the items say of it
abbrev pub Translates : List Mapping → List NumberedItem → (ℕ → Option Entry) → Type 0
Translates ms xs below = (page : ℕ) → IsPage page → at ms page ≡ view xs below page

-- each undo value has, for the pages of its operation, what the operations before it say over what was below
abbrev pub Save : List PageOp → List OpUndoState → (ℕ → Option Entry) → Type 0
Save [] [] below = Unit {0}
Save (op ∷ ops) (u ∷ us) below =
    ((page : ℕ) → IsPage page → IsTrue (covers (range_of op) page) → at u.change.taken page ≡ view_of_ops ops below page)
    × Save ops us below
Save [] (u ∷ us) below = ⊥
Save (op ∷ ops) [] below = ⊥

-- those of a Bind do
abbrev pub SavesBelow : ItemKind → List OpUndoState → (ℕ → Option Entry) → Type 0
SavesBelow (Bind queue number request seen done) us below = Save (reverse done.items) us below
SavesBelow (Withdrawal of) us below = Unit {0}

abbrev pub ItemSaves : Item → (ℕ → Option Entry) → Type 0
ItemSaves item below = SavesBelow item.kind (undos_of item) below

-- those of each Bind whose number isn't among these do, over the items before it without these
abbrev pub EachSaves : (ℕ → Bool) → List NumberedItem → (ℕ → Option Entry) → Type 0
EachSaves gone [] below = Unit {0}
EachSaves gone (x ∷ older) below =
    (gone x.number ≡ false → ItemSaves x.item (view_of_ops (ops_without gone older) below)) × EachSaves gone older below

-- those of each live Bind save what `view` gives over the live items before it, and then its own operations
abbrev pub UndoSavesTheView : List NumberedItem → (ℕ → Option Entry) → Type 0
UndoSavesTheView xs below = EachSaves (is_withdrawn xs) xs below

-- Operations were applied to a list, each to what those before it made of it, and the undo values are those of them.
abbrev pub AreUndosOf : List Mapping → List PageOp → List OpUndoState → Type 0
AreUndosOf before [] [] = Unit {0}
AreUndosOf before (op ∷ ops) (u ∷ us) =
    (u.range ≡ range_of op)
    × IsUndoOf (edited_by_all ops before) (edited (edited_by_all ops before) op) u
    × AreUndosOf before ops us
AreUndosOf before [] (u ∷ us) = ⊥
AreUndosOf before (op ∷ ops) [] = ⊥

-- those of a Bind are those of what it did
abbrev pub IsDone : ItemKind → List OpUndoState → List Mapping → Type 0
IsDone (Bind queue number request seen done) us before = AreUndosOf before (reverse done.items) us
IsDone (Withdrawal of) us before = Unit {0}

-- Taking back the newest item gives a list that the items before it translate, and for which the same holds.
abbrev pub Rewinds : ℕ → ℕ → ℕ → List Mapping → List Item → (ℕ → Option Entry) → Type 0
Rewinds limit room first ms [] below = Unit {0}
Rewinds limit room first ms (item ∷ older) below =
    let before = undone_by ms (undos_of item) in
    AreRevertible limit room ms (undos_of item)
    × IsDone item.kind (undos_of item) before
    × Translates before (numbered first older) below
    × UndoSavesTheView (numbered first older) below
    × Rewinds limit room first before older below
