use Rattle.std.proofs.Common.{◌≡◌, ◌+◌, ◌<◌, ℕ, false, length, take, get_or}
use Rattle.std.specs.List.{list_any}
use Rattle.gv_journal.specs.Items.{names}
use Rattle.gv_session.proofs.journal.withdrawn_among.Given as goal

abbrev pub invariant-loop-item : goal.invariant-loop-item
invariant-loop-item l = record {
  len : length l.marks.items ≡ length l.items;
  marked : (k : ℕ) → k < length l.items → get_or l.marks.items k false ≡ list_any (λ i. names i.kind (l.first + k)) (take l.item-index l.items);
}
