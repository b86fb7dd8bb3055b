use Rattle.std.proofs.Common.{◌≡◌, ◌<◌, ℕ, ◌∙◌, arith, ap, subst, sym, length, List, Some, None, reverse}
use Rattle.gv_types.specs.declared.request.Point.{Point}
use Rattle.gv_vm.specs.World.{WorldState, QueueState, HandState, queue_at, with_queue, next_number}
use Rattle.gv_vm.specs.WorldInside.{world_of}
use Rattle.gv_vm.specs.Queues.{AreQueues}
use Rattle.gv_vm.specs.BindOutcome.{IsBoundAndTold, seen_by}
use Rattle.gv_vm.specs.QueueEvents.{IsReadyToBind}
use Rattle.gv_vm.specs.Step.{step, CanBind, owed_for}
use Rattle.gv_vm.specs.declared.event.Event.TheVariants.{Bind}
use Rattle.gv_vm.specs.declared.event.Reply.TheVariants.{Idle, Told}
use Rattle.gv_vm.proofs.TurnsAreSteps.{queue_read, same_world, not_bound, may_bind, bound, bound_keeps, came_back}
use Rattle.gv_vm.proofs.world.World.bind.Goals as goal

pub returns-in_default : goal.returns-in_default
returns-in_default c =
    let w : WorldState = world_of c.self.inside in
    let n : ℕ = c.args.queue in
    let less : n < length w.queues = omega arith in
    let read : c.index_mut-own_queue.result.now ≡ queue_at w n = queue_read w n c.index_mut-own_queue.result.now less c.index_mut-own_queue.ensures.value in
    let never : IsReadyToBind (queue_at w n) → ⊥ = subst (λ (q : QueueState). IsReadyToBind q → ⊥) read c.in_default.ensures.not in
    subst (λ (v : WorldState). step v (Bind n) Idle (with_queue w n c.take_ready.new.self)) c.self.view_is
    (not_bound w n never, same_world w n c.take_ready.new.self (c.in_default.ensures.same ∙ read))

pub returns-in-Err : goal.returns-in-Err
returns-in-Err c =
    let w : WorldState = world_of c.self.inside in
    let n : ℕ = c.args.queue in
    let less : n < length w.queues = omega arith in
    let read : c.index_mut-own_queue.result.now ≡ queue_at w n = queue_read w n c.index_mut-own_queue.result.now less c.index_mut-own_queue.ensures.value in
    let hand : HandState = c.in-Some.hand in
    let is : (queue_at w n).hand ≡ Some hand = subst (λ (q : QueueState). q.hand ≡ Some hand) read c.in-Some.ensures.hand in
    let same : c.hold.new.self ≡ queue_at w n =
    c.hold.ensures ∙ ap (λ (q : QueueState). record q { hand = Some c.in-Err.hand }) c.in-Some.ensures.gone
    ∙ ap (λ (h : HandState). record c.index_mut-own_queue.result.now { hand = Some h }) c.in-Err.ensures.hand
    ∙ ap (λ (q : QueueState). record q { hand = Some hand }) read ∙ ap (λ o. record (queue_at w n) { hand = o }) (sym is) in
    subst (λ (v : WorldState). CanBind v n × (with_queue (record w { vm = c.bind_hand.new.vm }) n c.hold.new.self ≡ v)) c.self.view_is
    (may_bind w n hand less is c.in-Some.ensures.reached, came_back w c.bind_hand.new.vm n c.hold.new.self same c.in-Err.ensures.err)

pub invariant_of-self-2 : goal.invariant_of-self-2
invariant_of-self-2 c =
    let w : WorldState = world_of c.self.inside in
    let n : ℕ = c.args.queue in
    let less : n < length w.queues = omega arith in
    let read : c.index_mut-own_queue.result.now ≡ queue_at w n = queue_read w n c.index_mut-own_queue.result.now less c.index_mut-own_queue.ensures.value in
    let hand : HandState = c.in-Some.hand in
    let is : (queue_at w n).hand ≡ Some hand = subst (λ (q : QueueState). q.hand ≡ Some hand) read c.in-Some.ensures.hand in
    let new : c.owe.new.self ≡ record (queue_at w n) { hand = None; owed = owed_for hand.request c.in-Ok.bound.outcome } =
    c.owe.ensures ∙ ap (λ (q : QueueState). record q { owed = reverse c.in-Ok.bound.owed.items }) c.in-Some.ensures.gone
    ∙ ap (λ (q : QueueState). record q { hand = None; owed = reverse c.in-Ok.bound.owed.items }) read
    ∙ ap (λ (ps : List Point). record (queue_at w n) { hand = None; owed = ps }) c.in-Ok.ensures.owed in
    subst (λ (q : QueueState). AreQueues (with_queue (record w { vm = c.bind_hand.new.vm }) n q)) (sym new)
    (bound_keeps w c.bind_hand.new.vm n c.told_next-number.result hand c.in-Ok.bound.outcome c.self.invariant less is c.in-Ok.ensures.carried)

pub returns : goal.returns
returns c =
    let w : WorldState = world_of c.self.inside in
    let n : ℕ = c.args.queue in
    let less : n < length w.queues = omega arith in
    let read : c.index_mut-own_queue.result.now ≡ queue_at w n = queue_read w n c.index_mut-own_queue.result.now less c.index_mut-own_queue.ensures.value in
    let hand : HandState = c.in-Some.hand in
    let is : (queue_at w n).hand ≡ Some hand = subst (λ (q : QueueState). q.hand ≡ Some hand) read c.in-Some.ensures.hand in
    let new : c.owe.new.self ≡ record (queue_at w n) { hand = None; owed = owed_for hand.request c.in-Ok.bound.outcome } =
    c.owe.ensures ∙ ap (λ (q : QueueState). record q { owed = reverse c.in-Ok.bound.owed.items }) c.in-Some.ensures.gone
    ∙ ap (λ (q : QueueState). record q { hand = None; owed = reverse c.in-Ok.bound.owed.items }) read
    ∙ ap (λ (ps : List Point). record (queue_at w n) { hand = None; owed = ps }) c.in-Ok.ensures.owed in
    let number : c.told_next-number.result ≡ next_number w n = c.told_next-number.ensures.number in
    subst (λ (v : WorldState). step v (Bind n) (Told c.told_next-number.result c.in-Ok.bound.outcome) (with_queue (record w { vm = c.bind_hand.new.vm }) n c.owe.new.self)) c.self.view_is
    (subst (λ (k : ℕ). step w (Bind n) (Told k c.in-Ok.bound.outcome) (with_queue (record w { vm = c.bind_hand.new.vm }) n c.owe.new.self)) (sym number)
    (bound w c.bind_hand.new.vm n hand c.in-Ok.bound.outcome c.owe.new.self less is c.in-Some.ensures.reached
    (subst (λ (k : ℕ). IsBoundAndTold w.vm c.bind_hand.new.vm n k hand.request (seen_by hand.reached) c.in-Ok.bound.outcome) number c.in-Ok.ensures.carried) new))
