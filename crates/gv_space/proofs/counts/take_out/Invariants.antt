use Rattle.std.proofs.Common.{◌≡◌, List, length, take, drop}
use Rattle.gv_types.specs.declared.mapping.Mapping.{Mapping}
use Rattle.gv_ranges.specs.List.{IsLaidOut}
use Rattle.gv_space.specs.Counts.{by_count, moved_out}
use Rattle.gv_space.specs.ListFirstPages.{between, AreFirstPages, HaveNoMore}
use Rattle.gv_space.proofs.counts.take_out.Given as goal

abbrev pub invariant-loop-mapping : goal.invariant-loop-mapping
invariant-loop-mapping l = record {
  counts : l.buffers ≡ by_count moved_out (take l.mapping-index l.mappings) l.initial.buffers;
  first_pages : (before behind : List Mapping) → IsLaidOut (between before l.mappings behind) → AreFirstPages (between before l.mappings behind) l.initial.first_pages →
      AreFirstPages (between before (drop l.mapping-index l.mappings) behind) l.first_pages;
  no_more : HaveNoMore l.initial.first_pages l.first_pages;
  rows : length l.first_pages ≡ length l.initial.first_pages;
}
