use Rattle.std.proofs.Common.{◌≡◌, ◌<◌, ℕ, arith, subst, length}
use Rattle.gv_types.specs.Request.{Fits}
use Rattle.gv_vm.specs.State.{told_limit}
use Rattle.gv_vm.specs.World.{WorldState, QueueState, queue_at, with_queue}
use Rattle.gv_vm.specs.WorldInside.{world_of}
use Rattle.gv_vm.specs.Step.{IsStep}
use Rattle.gv_vm.specs.declared.event.Event.TheVariants.{Put}
use Rattle.gv_vm.proofs.TurnsAreSteps.{queue_read, PutCameTo, put_keeps, put_answers}
use Rattle.gv_vm.proofs.world.World.put.Goals as goal

pub invariant_of-self : goal.invariant_of-self
invariant_of-self c =
    let w : WorldState = world_of c.self.inside in
    let n : ℕ = c.args.queue in
    let less : n < length w.queues = omega arith in
    let read : c.index_mut.result.now ≡ queue_at w n = queue_read w n c.index_mut.result.now less c.index_mut.ensures.value in
    let fits : Fits (length w.numbers) c.args.request = subst (λ (k : ℕ). Fits k c.args.request) c.count.ensures.count (c.fits.ensures.0 c.if-not-fits.false) in
    let limit : c.told_limit-limit.result ≡ told_limit w.vm n = c.told_limit-limit.ensures in
    let came : PutCameTo c.told_limit-limit.result w.depth c.args.request c.index_mut.result.now c.put-put.new.self c.put-put.result = record { fault = c.put-put.ensures.fault; back = c.put-put.ensures.back; number = c.put-put.ensures.number; err = c.put-put.ensures.err } in
    put_keeps w n c.args.request c.put-put.new.self c.put-put.result c.self.invariant less fits
    (subst (λ (k : ℕ). PutCameTo k w.depth c.args.request (queue_at w n) c.put-put.new.self c.put-put.result) limit
    (subst (λ (q : QueueState). PutCameTo c.told_limit-limit.result w.depth c.args.request q c.put-put.new.self c.put-put.result) read came))

pub returns : goal.returns
returns c =
    let w : WorldState = world_of c.self.inside in
    let n : ℕ = c.args.queue in
    let less : n < length w.queues = omega arith in
    let read : c.index_mut.result.now ≡ queue_at w n = queue_read w n c.index_mut.result.now less c.index_mut.ensures.value in
    let fits : Fits (length w.numbers) c.args.request = subst (λ (k : ℕ). Fits k c.args.request) c.count.ensures.count (c.fits.ensures.0 c.if-not-fits.false) in
    let limit : c.told_limit-limit.result ≡ told_limit w.vm n = c.told_limit-limit.ensures in
    let came : PutCameTo c.told_limit-limit.result w.depth c.args.request c.index_mut.result.now c.put-put.new.self c.put-put.result = record { fault = c.put-put.ensures.fault; back = c.put-put.ensures.back; number = c.put-put.ensures.number; err = c.put-put.ensures.err } in
    subst (λ (v : WorldState). IsStep v (Put n c.args.request) c.put_reply.result (with_queue w n c.put-put.new.self)) c.self.view_is
    (put_answers w n c.args.request c.put-put.new.self c.put-put.result c.put_reply.result less fits
    (subst (λ (k : ℕ). PutCameTo k w.depth c.args.request (queue_at w n) c.put-put.new.self c.put-put.result) limit
    (subst (λ (q : QueueState). PutCameTo c.told_limit-limit.result w.depth c.args.request q c.put-put.new.self c.put-put.result) read came))
    c.put-put.ensures.request c.put_reply.ensures)
