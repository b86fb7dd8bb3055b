use Rattle.std.proofs.Common.{min, length, arith, ◌≤◌, ◌∙◌}
use Rattle.gv_vm.specs.State.{forgotten_of}
use Rattle.gv_vm.proofs.HeldEntries.{told_least, no_queue}
use Rattle.gv_vm.proofs.vm.Vm.least_held_below.Goals as goal

pub returns-then-queue : goal.returns-then-queue
returns-then-queue c =
    let v = c.args.self.now in
    let past : length v.told ≤ c.args.queue = omega (arith, c.space-space.ensures.holds.queues, c.if-queue.true) in
    no_queue v c.args.queue c.args.to c.space-space.ensures.holds.told_matches_journal past

pub returns-then-told-items : goal.returns-then-told-items
returns-then-told-items c =
    let v = c.args.self.now in
    c.least_held.ensures
    ∙ told_least v c.args.queue c.args.to (min c.args.to (forgotten_of v c.args.queue)) c.told_below-told.result.now c.space-space.ensures.holds.told_matches_journal c.told_below-told.ensures
