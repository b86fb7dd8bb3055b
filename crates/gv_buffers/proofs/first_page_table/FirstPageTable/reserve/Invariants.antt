use Rattle.std.proofs.Common.{◌≡◌, ◌≤◌, ℕ, length, max, ◌+◌, ◌-◌}
use Rattle.gv_buffers.specs.FirstPages.{first_pages_at}
use Rattle.gv_buffers.proofs.first_page_table.FirstPageTable.reserve.Given as goal

abbrev pub invariant-loop-alloc : goal.invariant-loop-alloc
invariant-loop-alloc l = record {
  same : (other : ℕ) → first_pages_at l.self-inside.rows.items other ≡ first_pages_at l.fn.self other;
  no_fewer : length l.fn.self ≤ length l.self-inside.rows.items;
  no_more : length l.self-inside.rows.items ≤ max (length l.fn.self) (l.index + 1);
}

-- how many rows there are too few
abbrev pub decreases-loop-alloc : goal.decreases-loop-alloc
decreases-loop-alloc l = l.index + 1 - length l.self-inside.rows.items
