use Rattle.std.proofs.Common.{◌≡◌, ◌+◌, ◌-◌, ◌≤◌, ℕ, List, length, take}
use Rattle.gv_types.specs.declared.mapping.Mapping.{Mapping}
use Rattle.gv_ranges.specs.List.{IsLaidOut}
use Rattle.gv_buffers.specs.Buffers.{most_counted}
use Rattle.gv_buffers.specs.FirstPages.{first_pages_at}
use Rattle.gv_space.specs.Counts.{by_count, moved_in}
use Rattle.gv_space.specs.ListFirstPages.{between, AreFirstPages}
use Rattle.gv_space.proofs.counts.bring_back.Given as goal

abbrev pub invariant-loop-mapping : goal.invariant-loop-mapping
invariant-loop-mapping l = record {
  counts : l.buffers ≡ by_count moved_in (take l.mapping-index l.mappings) l.initial.buffers;
  first_pages : (before behind : List Mapping) → IsLaidOut (between before l.mappings behind) → AreFirstPages (between before (take 0 l.mappings) behind) l.initial.first_pages →
      AreFirstPages (between before (take l.mapping-index l.mappings) behind) l.first_pages;
  few : (index : ℕ) → (first_pages_at l.first_pages index).count + (length l.mappings - l.mapping-index) ≤ most_counted;
  rows : length l.first_pages ≡ length l.initial.first_pages;
}
