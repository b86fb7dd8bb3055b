use Rattle.std.proofs.Common.{◌≡◌, ◌<◌, ℕ, ◌∙◌, arith, ap, subst, sym, refl, length, List}
use Rattle.std.proofs.lemmas.List.{length-set}
use Rattle.gv_vm.specs.State.{told_limit}
use Rattle.gv_vm.specs.World.{WorldState, QueueState, queue_at, with_queue, next_number}
use Rattle.gv_vm.specs.WorldInside.{world_of}
use Rattle.gv_vm.specs.Queues.{IsQueueOf}
use Rattle.gv_vm.specs.Step.{step}
use Rattle.gv_vm.specs.QueueEvents.{PaidFirst}
use Rattle.gv_vm.specs.declared.event.Event.TheVariants.{Pay}
use Rattle.gv_vm.specs.declared.event.Reply.TheVariants.{Raised}
use Rattle.gv_vm.proofs.AllQueuesInvariant.{IsOf, AreQueues-one}
use Rattle.gv_vm.proofs.TurnsAreSteps.{queue_read, paid}
use Rattle.gv_vm.proofs.QueueInvariant.{IsQueueOf-paid, paid_timeline}
use Rattle.gv_vm.proofs.world.World.pay.Goals as goal

pub raise-now-requires : goal.raise-now-requires
raise-now-requires c =
    let w : WorldState = world_of c.self.inside in
    let n : ℕ = c.args.queue in
    let less : n < length w.queues = omega arith in
    let read : c.index_mut.result.now ≡ queue_at w n = queue_read w n c.index_mut.result.now less c.index_mut.ensures.value in
    let first : PaidFirst (queue_at w n) c.in-Some.point c.pay.new.self = subst (λ (q : QueueState). PaidFirst q c.in-Some.point c.pay.new.self) read c.in-Some.ensures.paid in
    paid_timeline _ _ _ (queue_at w n) c.pay.new.self c.in-Some.point first (c.self.invariant.each n less)

pub invariant_of-self : goal.invariant_of-self
invariant_of-self c =
    let w : WorldState = world_of c.self.inside in
    let n : ℕ = c.args.queue in
    let less : n < length w.queues = omega arith in
    let read : c.index_mut.result.now ≡ queue_at w n = queue_read w n c.index_mut.result.now less c.index_mut.ensures.value in
    let first : PaidFirst (queue_at w n) c.in-Some.point c.pay.new.self = subst (λ (q : QueueState). PaidFirst q c.in-Some.point c.pay.new.self) read c.in-Some.ensures.paid in
    let count : length c.raise-now.new.self ≡ length w.numbers = ap (λ (ns : List ℕ). length ns) c.raise-now.ensures.numbers ∙ length-set w.numbers _ _ in
    let new : WorldState = with_queue (record w { numbers = c.raise-now.new.self }) n c.pay.new.self in
    let here : IsOf w n c.pay.new.self = IsQueueOf-paid _ _ _ (queue_at w n) c.pay.new.self c.in-Some.point first (c.self.invariant.each n less) in
    AreQueues-one w new n c.pay.new.self c.self.invariant less refl (record { limit = refl; forgotten = refl; timelines = count; told = refl }) (λ m other. refl)
    (subst (λ (k : ℕ). IsQueueOf (told_limit w.vm n) k (next_number w n) c.pay.new.self) (sym count) here)

pub returns-in-Some : goal.returns-in-Some
returns-in-Some c =
    let w : WorldState = world_of c.self.inside in
    let n : ℕ = c.args.queue in
    let less : n < length w.queues = omega arith in
    let read : c.index_mut.result.now ≡ queue_at w n = queue_read w n c.index_mut.result.now less c.index_mut.ensures.value in
    let first : PaidFirst (queue_at w n) c.in-Some.point c.pay.new.self = subst (λ (q : QueueState). PaidFirst q c.in-Some.point c.pay.new.self) read c.in-Some.ensures.paid in
    subst (λ (v : WorldState). step v (Pay n) (Raised c.in-Some.point c.raise-now.result) (with_queue (record w { numbers = c.raise-now.new.self }) n c.pay.new.self)) c.self.view_is
    (paid w n c.in-Some.point c.raise-now.new.self c.raise-now.result c.pay.new.self less first c.raise-now.ensures.numbers c.raise-now.ensures.value)
