use Rattle.std.proofs.Common.{◌≡◌, ◌<◌, ℕ, ◌∙◌, arith, ap, subst, sym, refl, Some, length}
use Rattle.gv_sync.specs.Sights.{Sight}
use Rattle.gv_sync.specs.Raises.{IsReached}
use Rattle.gv_vm.specs.World.{WorldState, QueueState, queue_at, with_queue, seen_at}
use Rattle.gv_vm.specs.WorldInside.{world_of}
use Rattle.gv_vm.specs.Step.{step, CanReach}
use Rattle.gv_vm.specs.QueueEvents.{wait_of, with_reached, with_lacked}
use Rattle.gv_vm.specs.declared.event.Event.TheVariants.{Look}
use Rattle.gv_vm.specs.declared.event.Reply.TheVariants.{Reached, Lacking}
use Rattle.gv_vm.proofs.AllQueuesInvariant.{IsOf, AreQueues-with_queue}
use Rattle.gv_vm.proofs.TurnsAreSteps.{from_err, from_ok, queue_read, same_world, reached, lacked, may_reach}
use Rattle.gv_vm.proofs.QueueInvariant.{IsQueueOf-reached, IsQueueOf-lacked}
use Rattle.gv_vm.proofs.world.World.look.Goals as goal

pub invariant_of-self-in-Err : goal.invariant_of-self-in-Err
invariant_of-self-in-Err c =
    let w : WorldState = world_of c.self.inside in
    let n : ℕ = c.args.queue in
    let less : n < length w.queues = omega arith in
    let read : c.index_mut-hand.result.now ≡ queue_at w n = queue_read w n c.index_mut-hand.result.now less c.index_mut-hand.ensures.value in
    let new : c.lack.new.self ≡ with_lacked c.in-Err.lacking (queue_at w n) = c.lack.ensures ∙ ap (λ (q : QueueState). with_lacked c.in-Err.lacking q) read in
    AreQueues-with_queue w n c.lack.new.self c.self.invariant less
    (subst (IsOf w n) (sym new) (IsQueueOf-lacked _ _ _ (queue_at w n) c.in-Err.lacking (c.self.invariant.each n less)))

pub returns-in-Err : goal.returns-in-Err
returns-in-Err c =
    let w : WorldState = world_of c.self.inside in
    let n : ℕ = c.args.queue in
    let less : n < length w.queues = omega arith in
    let read : c.index_mut-hand.result.now ≡ queue_at w n = queue_read w n c.index_mut-hand.result.now less c.index_mut-hand.ensures.value in
    let new : c.lack.new.self ≡ with_lacked c.in-Err.lacking (queue_at w n) = c.lack.ensures ∙ ap (λ (q : QueueState). with_lacked c.in-Err.lacking q) read in
    let wait : wait_of (queue_at w n) ≡ Some c.in-Some.point = subst (λ (q : QueueState). wait_of q ≡ Some c.in-Some.point) read (sym c.in-Some.ensures) in
    let sees : c.in-Err.lacking ≡ seen_at w c.in-Some.point = c.in-Err.ensures.sight in
    let point : c.in-Err.lacking.point ≡ c.in-Some.point = ap (λ (s : Sight). s.point) sees in
    let have : c.have-have.result ≡ c.in-Err.lacking.number = c.have-have.ensures.have in
    let short : c.in-Err.lacking.number < c.in-Some.point.value = omega (arith, c.have-have.ensures.lacking, ap (λ p. p.value) point) in
    subst (λ (v : WorldState). step v (Look n) (Lacking c.in-Some.point c.have-have.result) (with_queue w n c.lack.new.self)) c.self.view_is
    (subst (λ (k : ℕ). step w (Look n) (Lacking c.in-Some.point k) (with_queue w n c.lack.new.self)) (sym have)
    (lacked w n c.in-Some.point c.in-Err.lacking c.lack.new.self less wait sees short new))

pub returns-then-is_err : goal.returns-then-is_err
returns-then-is_err c =
    let w : WorldState = world_of c.self.inside in
    let n : ℕ = c.args.queue in
    let less : n < length w.queues = omega arith in
    let read : c.index_mut-hand.result.now ≡ queue_at w n = queue_read w n c.index_mut-hand.result.now less c.index_mut-hand.ensures.value in
    let wait : wait_of (queue_at w n) ≡ Some c.in-Some.point = subst (λ (q : QueueState). wait_of q ≡ Some c.in-Some.point) read (sym c.in-Some.ensures) in
    let same : c.reach.new.self ≡ queue_at w n = from_err (c.reach.new.self ≡ c.index_mut-hand.result.now) c.reach.result (sym c.is_err.ensures.value ∙ c.if-is_err.true) c.reach.ensures.err ∙ read in
    let enough : IsReached w.numbers c.in-Some.point = c.in-Ok.ensures.reached.0 refl in
    subst (λ (v : WorldState). CanReach v n × (with_queue w n c.reach.new.self ≡ v)) c.self.view_is
    (may_reach w n c.in-Some.point less wait enough, same_world w n c.reach.new.self same)

pub invariant_of-self-2 : goal.invariant_of-self-2
invariant_of-self-2 c =
    let w : WorldState = world_of c.self.inside in
    let n : ℕ = c.args.queue in
    let less : n < length w.queues = omega arith in
    let read : c.index_mut-hand.result.now ≡ queue_at w n = queue_read w n c.index_mut-hand.result.now less c.index_mut-hand.ensures.value in
    let new : c.reach.new.self ≡ with_reached c.in-Ok.reached (queue_at w n) =
    from_ok (c.reach.new.self ≡ with_reached c.in-Ok.reached c.index_mut-hand.result.now) c.reach.result (sym c.is_err.ensures.value ∙ c.if-is_err.false) c.reach.ensures.ok ∙ ap (λ (q : QueueState). with_reached c.in-Ok.reached q) read in
    AreQueues-with_queue w n c.reach.new.self c.self.invariant less
    (subst (IsOf w n) (sym new) (IsQueueOf-reached _ _ _ (queue_at w n) c.in-Ok.reached (c.self.invariant.each n less)))

pub returns : goal.returns
returns c =
    let w : WorldState = world_of c.self.inside in
    let n : ℕ = c.args.queue in
    let less : n < length w.queues = omega arith in
    let read : c.index_mut-hand.result.now ≡ queue_at w n = queue_read w n c.index_mut-hand.result.now less c.index_mut-hand.ensures.value in
    let new : c.reach.new.self ≡ with_reached c.in-Ok.reached (queue_at w n) =
    from_ok (c.reach.new.self ≡ with_reached c.in-Ok.reached c.index_mut-hand.result.now) c.reach.result (sym c.is_err.ensures.value ∙ c.if-is_err.false) c.reach.ensures.ok ∙ ap (λ (q : QueueState). with_reached c.in-Ok.reached q) read in
    let wait : wait_of (queue_at w n) ≡ Some c.in-Some.point = subst (λ (q : QueueState). wait_of q ≡ Some c.in-Some.point) read (sym c.in-Some.ensures) in
    let sees : c.in-Ok.reached ≡ seen_at w c.in-Some.point = c.in-Ok.ensures.sight in
    let seen : c.seen-seen.result ≡ c.in-Ok.reached.number = c.seen-seen.ensures.seen in
    let enough : IsReached w.numbers c.in-Some.point = c.in-Ok.ensures.reached.0 refl in
    subst (λ (v : WorldState). step v (Look n) (Reached c.in-Some.point c.seen-seen.result) (with_queue w n c.reach.new.self)) c.self.view_is
    (subst (λ (k : ℕ). step w (Look n) (Reached c.in-Some.point k) (with_queue w n c.reach.new.self)) (sym seen)
    (reached w n c.in-Some.point c.in-Ok.reached c.reach.new.self less wait sees enough new))
