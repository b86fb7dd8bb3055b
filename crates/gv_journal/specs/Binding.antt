-- What `bind` and `rewind` make of a journal and its address space.
use Rattle.std.specs.Prelude.{Vec, ◌≡◌, ℕ, ◌∷◌, reverse}
use Rattle.std.specs.Global.{Global}
use Rattle.gv_types.specs.declared.operation.PageOp.{PageOp}
use Rattle.gv_types.specs.declared.request.Request.{Request}
use Rattle.gv_ranges.specs.Edit.{edited_by_all}
use Rattle.gv_space.specs.State.{SpaceState}
use Rattle.gv_journal.specs.Items.{JournalState}
use Rattle.gv_journal.specs.Undoing.{reverted_by}
use Rattle.gv_journal.specs.History.{undos_of, AreUndosOf}
use Rattle.gv_journal.specs.Applying.{all_do, after_all}
use Rattle.gv_journal.specs.declared.item.Item.{Item}
use Rattle.gv_journal.specs.declared.item.ItemKind.TheVariants.{Bind}

-- One item more: a Bind of this request, with what its operations did to the list, and the undo values of that.
pub record IsBound (s : SpaceState) (old new : JournalState) (queue number : ℕ) (request : Request) (seen : Vec ℕ Global) : Type 0 where
  pub item : Item
  pub items : new ≡ record old { items = item ∷ old.items }
  pub done : Vec PageOp Global
  pub kind : item.kind ≡ Bind queue number request seen done
  pub did : done.items ≡ all_do s.mappings request.ops.items
  pub undos : AreUndosOf s.mappings (reverse done.items) (undos_of item)

-- the space after all operations of a request
pub record IsApplied (old new : SpaceState) (request : Request) : Type 0 where
  pub list : new.mappings ≡ edited_by_all (reverse (all_do old.mappings request.ops.items)) old.mappings
  pub state : new ≡ record (after_all (reverse (all_do old.mappings request.ops.items)) old) { room = new.room }

-- The newest item is taken off, and the space is reverted by its undo values.
pub record IsRewound (s t : SpaceState) (old new : JournalState) : Type 0 where
  pub item : Item
  pub items : old ≡ record new { items = item ∷ new.items }
  pub space : t ≡ reverted_by s (undos_of item)
