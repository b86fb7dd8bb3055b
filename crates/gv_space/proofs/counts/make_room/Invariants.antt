use Rattle.std.proofs.Common.{◌≡◌, length}
use Rattle.gv_buffers.specs.FirstPages.{HaveSameFirstPages}
use Rattle.gv_space.proofs.counts.make_room.Given as goal

abbrev pub invariant-loop-mapping : goal.invariant-loop-mapping
invariant-loop-mapping l = record {
  same : HaveSameFirstPages l.initial.first_pages l.first_pages;
  rows : length l.first_pages ≡ length l.initial.first_pages;
}
