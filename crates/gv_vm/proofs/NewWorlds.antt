-- A world that holds nothing: what always holds of queues holds of its.
use Rattle.std.proofs.Common.{◌≡◌, ℕ, ◌<◌, ◌≤◌, [], List, length, replicate, get_or, refl, sym, subst, arith, rules}
use Rattle.std.proofs.lemmas.List.{get_or-replicate, length-replicate}
use Rattle.gv_types.specs.Bounds.{BoundsState}
use Rattle.gv_types.specs.Limits.{LimitsState}
use Rattle.gv_vm.specs.Outcomes.{queues, told_to}
use Rattle.gv_vm.specs.State.{new_vm, told_limit}
use Rattle.gv_vm.specs.Queues.{IsQueueOf, AreQueues}
use Rattle.gv_vm.specs.World.{QueueState, new_queue, new_world}
use Rattle.gv_vm.specs.declared.outcome.Outcome.{Outcome}

-- a queue to which nothing was put
nothing_put : (limit timelines : ℕ) → IsQueueOf limit timelines 0 new_queue
nothing_put limit timelines = record {
  put = refl;
  few = omega arith;
  waiting = search rules;
  hand = tt;
  owed = search rules;
}

pub new_queues : (area : BoundsState) (limits : LimitsState) (count depth timelines : ℕ) → count ≤ queues → AreQueues (new_world area limits count depth timelines)
new_queues area limits count depth timelines most = record {
  few = omega (arith, most, length-replicate count new_queue);
  told = refl;
  each = λ n below.
      let numbers : List ℕ = replicate timelines 0 in
      let within : n < count = omega (arith, below, length-replicate count new_queue) in
      let told : told_to (new_vm area limits).told n ≡ [] = get_or-replicate queues n [] [] (omega (arith, within, most)) in
      let queue : get_or (replicate count new_queue) n new_queue ≡ new_queue = get_or-replicate count n new_queue new_queue within in
      subst (λ (q : QueueState). IsQueueOf (told_limit (new_vm area limits) n) (length numbers) (length (told_to (new_vm area limits).told n)) q) (sym queue)
      (subst (λ (xs : List Outcome). IsQueueOf (told_limit (new_vm area limits) n) (length numbers) (length xs) new_queue) (sym told) (nothing_put (told_limit (new_vm area limits) n) (length numbers)));
}
