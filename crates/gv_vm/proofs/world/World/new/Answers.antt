use Rattle.std.proofs.Common.{ℕ, List, replicate, sym, ◌∙◌, ap, subst}
use Rattle.gv_vm.specs.Queues.{AreQueues}
use Rattle.gv_vm.specs.State.{VmState, new_vm}
use Rattle.gv_vm.specs.World.{WorldState, QueueState, new_queue}
use Rattle.gv_vm.proofs.NewWorlds.{new_queues}
use Rattle.gv_vm.proofs.world.World.new.Goals as goal

pub invariant_of-result : goal.invariant_of-result
invariant_of-result c =
    let sizes = c.args.sizes in
    let timelines : List ℕ = replicate sizes.timelines 0 in
    let queues : List QueueState = replicate sizes.queues new_queue in
    let machine = ap (λ (v : VmState). let w : WorldState = record { vm = v; numbers = c.in_ok-clock.clock; depth = sizes.depth; queues = c.in_ok-queues.queues.items } in w) c.in-Ok.ensures in
    let numbers = ap (λ (ns : List ℕ). let w : WorldState = record { vm = new_vm c.args.bounds c.args.limits; numbers = ns; depth = sizes.depth; queues = c.in_ok-queues.queues.items } in w) c.in_ok-clock.ensures.zero in
    let empty_queues = ap (λ (qs : List QueueState). let w : WorldState = record { vm = new_vm c.args.bounds c.args.limits; numbers = timelines; depth = sizes.depth; queues = qs } in w) c.in_ok-queues.ensures in
    subst AreQueues (sym (machine ∙ numbers ∙ empty_queues)) (new_queues c.args.bounds c.args.limits sizes.queues sizes.depth sizes.timelines c.requires.queues.1)
