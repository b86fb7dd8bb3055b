-- A journal bare of memory: without what a vector has beside its contents, and without the tables that undo values own. All that
-- calls answer follows from what is left, but for want of memory.
use Rattle.std.specs.Prelude.{ℕ, List, map, Option, Some, None}
use Rattle.gv_types.specs.PageRange.{PageRangeState}
use Rattle.gv_types.specs.declared.operation.Op.{Op}
use Rattle.gv_types.specs.declared.operation.PageOp.{PageOp}
use Rattle.gv_types.specs.declared.request.Point.{Point}
use Rattle.gv_types.specs.declared.request.Request.{Request}
use Rattle.gv_ranges.specs.Edit.{Undo}
use Rattle.gv_space.specs.Undo.{OpUndoState}
use Rattle.gv_journal.specs.Items.{JournalState, done_by}
use Rattle.gv_journal.specs.History.{undos_of}
use Rattle.gv_journal.specs.declared.item.Item.{Item}
use Rattle.gv_journal.specs.declared.item.ItemKind.{ItemKind}
use Rattle.gv_journal.specs.declared.item.ItemKind.TheVariants.{Bind, Withdrawal}

pub record BareRequest : Type 0 where
  pub ops : List Op
  pub waits : List Point
  pub signals : List Point

abbrev pub bare_request : Request → BareRequest
bare_request request = record { ops = request.ops.items; waits = request.waits.items; signals = request.signals.items }

-- an undo value without its tables
pub record BareUndo : Type 0 where
  pub change : Undo
  pub range : PageRangeState

abbrev pub bare_undo : OpUndoState → BareUndo
bare_undo u = record { change = u.change; range = u.range }

-- of a Bind: its queue, its number there, its request, and what its waits saw
pub record BareBind : Type 0 where
  pub queue : ℕ
  pub number : ℕ
  pub request : BareRequest
  pub saw : List ℕ

-- an item: the Bind that it is, or the number that it withdraws, what it did, and its undo values, the newest first
pub record BareItem : Type 0 where
  pub bind : Option BareBind
  pub withdraws : Option ℕ
  pub done : List PageOp
  pub undos : List BareUndo

abbrev pub bind_of : ItemKind → Option BareBind
bind_of (Bind queue number request seen done) =
    Some (record { queue = queue; number = number; request = bare_request request; saw = seen.items })
bind_of (Withdrawal of) = None

abbrev pub withdrawn_by : ItemKind → Option ℕ
withdrawn_by (Bind queue number request seen done) = None
withdrawn_by (Withdrawal of) = Some of

abbrev pub bare_item : Item → BareItem
bare_item item =
    record {
      bind = bind_of item.kind;
      withdraws = withdrawn_by item.kind;
      done = done_by item.kind;
      undos = map bare_undo (undos_of item);
    }

pub record BareJournal : Type 0 where
  pub limit : ℕ
  pub first : ℕ
  pub items : List BareItem

abbrev pub bare_journal : JournalState → BareJournal
bare_journal j = record { limit = j.limit; first = j.first; items = map bare_item j.items }
