use Rattle.std.proofs.Common.{◌≡◌, ◌++◌, ◌≤◌, List, length, take, drop, reverse}
use Rattle.std.specs.List.{All}
use Rattle.gv_types.specs.declared.mapping.Mapping.{Mapping}
use Rattle.gv_space.specs.State.{AreKept}
use Rattle.gv_space.specs.Undo.{released}
use Rattle.gv_journal.specs.History.{kept_by}
use Rattle.gv_journal.specs.ItemStore.{IsSpent}
use Rattle.gv_journal.proofs.settling.release_items.Given as goal

abbrev pub invariant-loop-remaining : goal.invariant-loop-remaining
invariant-loop-remaining l = record {
  within : l.remaining ≤ length l.items;
  ahead : take l.remaining l.items ≡ take l.remaining l.fn.items;
  spent : All IsSpent (drop l.remaining l.items);
  kept : (others : List Mapping) → AreKept l.fn.space (kept_by (reverse l.fn.items) ++ others) → AreKept l.space (kept_by (reverse (take l.remaining l.fn.items)) ++ others);
  rest : released l.space (kept_by (reverse (take l.remaining l.fn.items))) ≡ released l.fn.space (kept_by (reverse l.fn.items));
}

abbrev pub decreases-loop-remaining : goal.decreases-loop-remaining
decreases-loop-remaining l = l.remaining
