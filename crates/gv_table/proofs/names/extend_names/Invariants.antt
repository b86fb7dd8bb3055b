use Rattle.std.proofs.Common.{◌≡◌, ◌<◌, ◌≤◌, ℕ, length, max, slice_index_or, vec_capacity}
use Rattle.gv_types.specs.declared.mapping.BufferId.{BufferId}
use Rattle.gv_table.specs.BufferNames.{AreNames}
use Rattle.gv_table.proofs.names.extend_names.Given as goal

abbrev pub invariant-loop-next : goal.invariant-loop-next
invariant-loop-next l = record {
  long : length l.names.items ≡ l.next;
  begun : length l.fn.names.items ≤ l.next;
  within : l.next ≤ max (length l.fn.names.items) l.end;
  room : l.end ≤ vec_capacity l.names;
  few : AreNames l.fn.names.items → l.next ≤ 65536;
  same : (k : ℕ) (d : BufferId) → k < length l.fn.names.items → slice_index_or l.names.items k d ≡ slice_index_or l.fn.names.items k d;
  indexed : AreNames l.fn.names.items → (k : ℕ) (d : BufferId) → k < l.next → (slice_index_or l.names.items k d).index ≡ k;
}
