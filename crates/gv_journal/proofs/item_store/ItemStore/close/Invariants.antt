use Rattle.std.proofs.Common.{◌≡◌, reverse}
use Rattle.gv_space.specs.State.{AreKept}
use Rattle.gv_space.specs.Undo.{released}
use Rattle.gv_journal.specs.History.{kept_by}
use Rattle.gv_journal.proofs.item_store.ItemStore.close.Given as goal

abbrev pub invariant-loop-undos : goal.invariant-loop-undos
invariant-loop-undos l = record {
  kept : AreKept l.space (kept_by (reverse l.items.items));
  rest : released l.space (kept_by (reverse l.items.items)) ≡ released l.fn.space (kept_by (reverse l.fn.self.items));
}

abbrev pub decreases-loop-undos : goal.decreases-loop-undos
decreases-loop-undos l = goal.left-loop-undos l
