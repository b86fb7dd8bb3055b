use Rattle.std.proofs.Common.{◌++◌, ◌∷◌, [], List, ◌∙◌, subst, sym, ap, ◌≡◌, Some, None}
use Rattle.gv_sync.specs.Sights.{Sight}
use Rattle.gv_vm.specs.World.{HandState, next_wait}
use Rattle.gv_vm.specs.Queues.{IsInOrder}
use Rattle.gv_vm.specs.HandInside.{hand_of}
use Rattle.gv_vm.proofs.QueueInvariant.{IsInOrder-reached}
use Rattle.gv_vm.proofs.queue.Hand.reach.Goals as goal

pub invariant_of-self-2 : goal.invariant_of-self-2
invariant_of-self-2 c =
    let h : HandState = hand_of c.self.inside in
    let items : c.push_reserved.new.self.items ≡ h.reached ++ c.args.reached ∷ [] =
    c.push_reserved.ensures.items ∙ ap (λ (ss : List Sight). ss ++ c.args.reached ∷ []) c.in_ok-reserve.ensures.items in
    let wait : next_wait h ≡ Some c.args.reached.point = subst (λ (x : HandState). next_wait x ≡ Some c.args.reached.point) (sym c.self.view_is) c.requires in
    subst (λ (ss : List Sight). IsInOrder (record h { reached = ss; lacked = None })) (sym items) (IsInOrder-reached h c.args.reached c.self.invariant wait)
