use Rattle.std.proofs.Common.{◌≡◌, ℕ, length}
use Rattle.gv_buffers.specs.Slots.{buffer_in}
use Rattle.gv_buffers.proofs.slots.Slots.shrink_buffers.Given as goal

abbrev pub invariant-loop-index : goal.invariant-loop-index
invariant-loop-index l = record {
  same : (other : ℕ) → buffer_in l.self.entries other ≡ buffer_in l.initial.self.entries other;
  length : length l.self.entries ≡ length l.initial.self.entries;
  vacant : l.self.vacant ≡ l.initial.self.vacant;
}
