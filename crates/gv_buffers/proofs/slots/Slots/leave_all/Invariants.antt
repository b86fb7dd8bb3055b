use Rattle.std.proofs.Common.{◌≡◌, take, length}
use Rattle.gv_buffers.proofs.Leaving.{HaveLeft}
use Rattle.gv_buffers.proofs.slots.Slots.leave_all.Given as goal

abbrev pub invariant-loop-index : goal.invariant-loop-index
invariant-loop-index l =
    HaveLeft l.job l.initial.self.entries l.self.entries (take l.index-index l.indices)
    × (length l.self.entries ≡ length l.initial.self.entries) × (l.self.vacant ≡ l.initial.self.vacant)
