use Rattle.std.proofs.Common.{◌≡◌, ◌≤◌, take, drop, vec_len, vec_capacity}
use Rattle.std.specs.List.{All}
use Rattle.gv_journal.specs.ItemStore.{IsSpent}
use Rattle.gv_journal.proofs.item_store.drop_spent.Given as goal

abbrev pub invariant-loop-items : goal.invariant-loop-items
invariant-loop-items l = record {
  within : l.held ≤ vec_len l.items;
  front : take l.held l.items.items ≡ take l.held l.fn.items.items;
  behind : All IsSpent (drop l.held l.items.items);
  capacity : vec_capacity l.items ≡ vec_capacity l.fn.items;
}

abbrev pub decreases-loop-items : goal.decreases-loop-items
decreases-loop-items l = goal.left-loop-items l
