use Rattle.std.proofs.Common.{◌≡◌, ◌<◌, ℕ, ◌∙◌, arith, ap, subst, sym, length, Some}
use Rattle.gv_vm.specs.World.{WorldState, QueueState, HandState, queue_at, with_queue, next_number}
use Rattle.gv_vm.specs.WorldInside.{world_of}
use Rattle.gv_vm.specs.Queues.{AreQueues}
use Rattle.gv_vm.specs.QueueEvents.{IsLacking, without_hand}
use Rattle.gv_vm.specs.Step.{step, CanGiveUp}
use Rattle.gv_vm.specs.declared.event.Event.TheVariants.{GiveUp}
use Rattle.gv_vm.specs.declared.event.Reply.TheVariants.{Idle, Told}
use Rattle.gv_vm.proofs.TurnsAreSteps.{queue_read, same_world, not_given_up, may_give_up, given_up, given_up_keeps, came_back}
use Rattle.gv_vm.proofs.world.World.give_up.Goals as goal

pub returns-in_default : goal.returns-in_default
returns-in_default c =
    let w : WorldState = world_of c.self.inside in
    let n : ℕ = c.args.queue in
    let less : n < length w.queues = omega arith in
    let read : c.index_mut-own_queue.result.now ≡ queue_at w n = queue_read w n c.index_mut-own_queue.result.now less c.index_mut-own_queue.ensures.value in
    let never : IsLacking (queue_at w n) → ⊥ = subst (λ (q : QueueState). IsLacking q → ⊥) read c.in_default.ensures.not in
    subst (λ (v : WorldState). step v (GiveUp n) Idle (with_queue w n c.take_lacking.new.self)) c.self.view_is
    (not_given_up w n never, same_world w n c.take_lacking.new.self (c.in_default.ensures.same ∙ read))

pub invariant_of-self-in-Err : goal.invariant_of-self-in-Err
invariant_of-self-in-Err c =
    let w : WorldState = world_of c.self.inside in
    let n : ℕ = c.args.queue in
    let less : n < length w.queues = omega arith in
    let read : c.index_mut-own_queue.result.now ≡ queue_at w n = queue_read w n c.index_mut-own_queue.result.now less c.index_mut-own_queue.ensures.value in
    let hand : HandState = c.in-Some.hand in
    let is : (queue_at w n).hand ≡ Some hand = subst (λ (q : QueueState). q.hand ≡ Some hand) read c.in-Some.ensures.hand in
    let same : c.hold.new.self ≡ queue_at w n =
    c.hold.ensures ∙ ap (λ (q : QueueState). record q { hand = Some c.in-Err.hand }) c.in-Some.ensures.gone
    ∙ ap (λ (h : HandState). record c.index_mut-own_queue.result.now { hand = Some h }) c.in-Err.ensures.hand
    ∙ ap (λ (q : QueueState). record q { hand = Some hand }) read ∙ ap (λ o. record (queue_at w n) { hand = o }) (sym is) in
    subst AreQueues (sym (ap (λ v. with_queue (record w { vm = v }) n c.hold.new.self) c.in-Err.ensures.err ∙ same_world w n c.hold.new.self same)) c.self.invariant

pub returns-in-Err : goal.returns-in-Err
returns-in-Err c =
    let w : WorldState = world_of c.self.inside in
    let n : ℕ = c.args.queue in
    let less : n < length w.queues = omega arith in
    let read : c.index_mut-own_queue.result.now ≡ queue_at w n = queue_read w n c.index_mut-own_queue.result.now less c.index_mut-own_queue.ensures.value in
    let hand : HandState = c.in-Some.hand in
    let is : (queue_at w n).hand ≡ Some hand = subst (λ (q : QueueState). q.hand ≡ Some hand) read c.in-Some.ensures.hand in
    let same : c.hold.new.self ≡ queue_at w n =
    c.hold.ensures ∙ ap (λ (q : QueueState). record q { hand = Some c.in-Err.hand }) c.in-Some.ensures.gone
    ∙ ap (λ (h : HandState). record c.index_mut-own_queue.result.now { hand = Some h }) c.in-Err.ensures.hand
    ∙ ap (λ (q : QueueState). record q { hand = Some hand }) read ∙ ap (λ o. record (queue_at w n) { hand = o }) (sym is) in
    subst (λ (v : WorldState). CanGiveUp v n × (with_queue (record w { vm = c.give_up_hand.new.vm }) n c.hold.new.self ≡ v)) c.self.view_is
    (may_give_up w n hand less is c.in-Some.ensures.lacked, came_back w c.give_up_hand.new.vm n c.hold.new.self same c.in-Err.ensures.err)

pub invariant_of-self-2 : goal.invariant_of-self-2
invariant_of-self-2 c =
    let w : WorldState = world_of c.self.inside in
    let n : ℕ = c.args.queue in
    let less : n < length w.queues = omega arith in
    let read : c.index_mut-own_queue.result.now ≡ queue_at w n = queue_read w n c.index_mut-own_queue.result.now less c.index_mut-own_queue.ensures.value in
    let hand : HandState = c.in-Some.hand in
    let is : (queue_at w n).hand ≡ Some hand = subst (λ (q : QueueState). q.hand ≡ Some hand) read c.in-Some.ensures.hand in
    let new : c.take_lacking.new.self ≡ without_hand (queue_at w n) = c.in-Some.ensures.gone ∙ ap (λ (q : QueueState). without_hand q) read in
    subst (λ (q : QueueState). AreQueues (with_queue (record w { vm = c.give_up_hand.new.vm }) n q)) (sym new)
    (given_up_keeps w c.give_up_hand.new.vm n hand c.in-Ok.outcome c.self.invariant less is c.in-Ok.ensures.told)

pub returns : goal.returns
returns c =
    let w : WorldState = world_of c.self.inside in
    let n : ℕ = c.args.queue in
    let less : n < length w.queues = omega arith in
    let read : c.index_mut-own_queue.result.now ≡ queue_at w n = queue_read w n c.index_mut-own_queue.result.now less c.index_mut-own_queue.ensures.value in
    let hand : HandState = c.in-Some.hand in
    let is : (queue_at w n).hand ≡ Some hand = subst (λ (q : QueueState). q.hand ≡ Some hand) read c.in-Some.ensures.hand in
    let new : c.take_lacking.new.self ≡ without_hand (queue_at w n) = c.in-Some.ensures.gone ∙ ap (λ (q : QueueState). without_hand q) read in
    let number : c.told_next-number.result ≡ next_number w n = c.told_next-number.ensures.number in
    subst (λ (v : WorldState). step v (GiveUp n) (Told c.told_next-number.result c.in-Ok.outcome) (with_queue (record w { vm = c.give_up_hand.new.vm }) n c.take_lacking.new.self)) c.self.view_is
    (subst (λ (k : ℕ). step w (GiveUp n) (Told k c.in-Ok.outcome) (with_queue (record w { vm = c.give_up_hand.new.vm }) n c.take_lacking.new.self)) (sym number)
    (given_up w c.give_up_hand.new.vm n hand c.in-Ok.outcome c.take_lacking.new.self less is c.in-Ok.ensures.told new))
