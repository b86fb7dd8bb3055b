use Rattle.std.proofs.Common.{◌≡◌, ◌<◌, ℕ, ◌∙◌, arith, ap, subst, sym, length}
use Rattle.gv_vm.specs.World.{WorldState, QueueState, queue_at, with_queue, next_number}
use Rattle.gv_vm.specs.WorldInside.{world_of}
use Rattle.gv_vm.specs.Queues.{AreQueues}
use Rattle.gv_vm.specs.Step.{step}
use Rattle.gv_vm.specs.QueueEvents.{TookFront, MayTake}
use Rattle.gv_vm.specs.declared.event.Event.TheVariants.{Take}
use Rattle.gv_vm.specs.declared.event.Reply.{Reply}
use Rattle.gv_vm.specs.declared.event.Reply.TheVariants.{Taken}
use Rattle.gv_vm.proofs.AllQueuesInvariant.{AreQueues-with_queue}
use Rattle.gv_vm.proofs.TurnsAreSteps.{queue_read, same_world, took, not_taken}
use Rattle.gv_vm.proofs.QueueInvariant.{IsQueueOf-took}
use Rattle.gv_vm.proofs.world.World.take.Goals as goal
use Rattle.gv_vm.proofs.world.World.take.Goals.{then-take, else-take}

pub invariant_of-self : goal.invariant_of-self
invariant_of-self c =
    let w : WorldState = world_of c.self.inside in
    let less : c.args.queue < length w.queues = omega arith in
    let read : c.index_mut.result.now ≡ queue_at w c.args.queue = queue_read w c.args.queue c.index_mut.result.now less c.index_mut.ensures.value in
    elim c.if-take.branch [
      | then-take x ↦
          let front : TookFront (queue_at w c.args.queue) c.take.new.self = subst (λ (q : QueueState). TookFront q c.take.new.self) read (c.take.ensures.took x.if-take.true) in
          AreQueues-with_queue w c.args.queue c.take.new.self c.self.invariant less
          (IsQueueOf-took _ _ _ (queue_at w c.args.queue) c.take.new.self front (c.self.invariant.each c.args.queue less))
      | else-take x ↦
          subst AreQueues (sym (same_world w c.args.queue c.take.new.self (c.take.ensures.same x.if-take.false ∙ read))) c.self.invariant
    ]

pub returns : goal.returns
returns c =
    let w : WorldState = world_of c.self.inside in
    let less : c.args.queue < length w.queues = omega arith in
    let read : c.index_mut.result.now ≡ queue_at w c.args.queue = queue_read w c.args.queue c.index_mut.result.now less c.index_mut.ensures.value in
    subst (λ (v : WorldState). step v (Take c.args.queue) c.if-take.result (with_queue w c.args.queue c.take.new.self)) c.self.view_is
    (elim c.if-take.branch [
      | then-take x ↦
          let front : TookFront (queue_at w c.args.queue) c.take.new.self = subst (λ (q : QueueState). TookFront q c.take.new.self) read (c.take.ensures.took x.if-take.true) in
          let number : c.if-take.result ≡ Taken (next_number w c.args.queue) = x.result-is ∙ ap (λ (k : ℕ). Taken k) c.told_next-number.ensures.number in
          subst (λ (r : Reply). step w (Take c.args.queue) r (with_queue w c.args.queue c.take.new.self)) (sym number)
          (took w c.args.queue c.take.new.self less front)
      | else-take x ↦
          let never : MayTake (queue_at w c.args.queue) → ⊥ = subst (λ (q : QueueState). MayTake q → ⊥) read (c.take.ensures.not x.if-take.false) in
          subst (λ (r : Reply). step w (Take c.args.queue) r (with_queue w c.args.queue c.take.new.self)) (sym x.result-is)
          (not_taken w c.args.queue never, same_world w c.args.queue c.take.new.self (c.take.ensures.same x.if-take.false ∙ read))
    ])
