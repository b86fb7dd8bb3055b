use Rattle.gv_types.specs.declared.mapping.Mapping.{Mapping}
use Rattle.gv_ranges.specs.List.{IsLaidOut}
use Rattle.gv_space.specs.ListFirstPages.{between, AreFirstPages, HaveNoMore}
use Rattle.std.proofs.Common.{List, ◌≡◌, ◌≤◌, length, take, drop}
use Rattle.gv_space.specs.Counts.{by_count, less_used}
use Rattle.gv_space.proofs.counts.count_out_run.Given as goal

abbrev pub invariant-loop-mapping : goal.invariant-loop-mapping
invariant-loop-mapping l = record {
  within : length l.yielded ≤ length l.fn.run;
  walked : l.mapping-iterator ≡ drop (length l.yielded) l.fn.run;
  counted : l.buffers ≡ by_count less_used (take (length l.yielded) l.fn.run) l.initial.buffers;
  first_pages : (before behind : List Mapping) → IsLaidOut (between before l.fn.run behind) → AreFirstPages (between before l.fn.run behind) l.initial.first_pages →
      AreFirstPages (between before (drop (length l.yielded) l.fn.run) behind) l.first_pages;
  no_more : HaveNoMore l.initial.first_pages l.first_pages;
  rows : length l.first_pages ≡ length l.initial.first_pages;
  can : (goal.iterator-loop-mapping).can_next l.mapping-iterator;
  finite : (goal.iterator-loop-mapping).is_finite l.mapping-iterator;
}
