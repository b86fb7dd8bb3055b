use Rattle.std.proofs.Common.{◌≡◌, ◌+◌, ◌*◌, ◌-◌, ◌<◌, ◌≤◌, ℕ, slice_index_or}
use Rattle.gv_ranges.specs.List.{AreEnded}
use Rattle.gv_table.specs.Levels.{pages_of, first_within}
use Rattle.gv_table.specs.Tree.{IsTreeOf, slot_of, no_page}
use Rattle.gv_table.proofs.pages.paint_pages.Given as goal

abbrev pub invariant-loop-index : goal.invariant-loop-index
invariant-loop-index l = record {
  from : l.initial.index ≤ l.index;
  upto : l.index ≤ l.high;
  position : AreEnded l.mappings (first_within l.excerpt.range (l.first + l.index * pages_of 0)) l.position;
  painted : (k : ℕ) → l.initial.index ≤ k → k < l.index → IsTreeOf l.mappings 0 (l.first + k * pages_of 0) (slot_of (slice_index_or l.slots k no_page));
  before : (k : ℕ) → k < l.initial.index → slice_index_or l.slots k no_page ≡ slice_index_or l.initial.slots k no_page;
  untouched : (k : ℕ) → l.index ≤ k → slice_index_or l.slots k no_page ≡ slice_index_or l.initial.slots k no_page;
}

abbrev pub decreases-loop-index : goal.decreases-loop-index
decreases-loop-index l = l.high - l.index
