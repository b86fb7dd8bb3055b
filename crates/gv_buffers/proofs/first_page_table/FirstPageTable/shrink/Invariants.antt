use Rattle.std.proofs.Common.{◌≡◌, length}
use Rattle.gv_buffers.specs.FirstPages.{HaveSameFirstPages}
use Rattle.gv_buffers.proofs.first_page_table.FirstPageTable.shrink.Given as goal

abbrev pub invariant-loop-index : goal.invariant-loop-index
invariant-loop-index l = record {
  same : HaveSameFirstPages l.fn.self l.self-inside.rows.items;
  length : length l.self-inside.rows.items ≡ length l.fn.self;
}
