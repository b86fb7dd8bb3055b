use Rattle.std.proofs.Common.{◌≡◌, sym, rules, true, false, refl}
use Rattle.gv_vm.specs.Plans.{nothing}
use Rattle.gv_vm.specs.QueueTurns.{going_on, turning}
use Rattle.gv_vm.specs.World.{queue_at}
use Rattle.gv_vm.proofs.PlanLemmas.{carried_out}
use Rattle.gv_vm.proofs.QueueTurns.{quiet_idle, paid_on, nothing_left}
use Rattle.gv_vm.proofs.world.World.turn.Goals as goal

pub returns-then-not-pay_all : goal.returns-then-not-pay_all
returns-then-not-pay_all c =
    let q = queue_at c.args.self.now c.args.queue in
    let e : c.pay_all.result ≡ false = search rules in
    let paid = rw e at c.pay_all.ensures in
    record {
      replies = paid.0;
      carried_out = carried_out (turning c.args.gives_up c.args.queue q) nothing _ _ _ refl (paid.2 q.owed (going_on c.args.gives_up c.args.queue q.hand q.waiting) c.next_turn-owed.ensures.owed);
      came = sym (quiet_idle paid.0 paid.1);
    }

pub returns-in-None : goal.returns-in-None
returns-in-None c =
    let q = queue_at c.args.self.now c.args.queue in
    let e : c.pay_all.result ≡ true = search rules in
    let paid = rw e at c.pay_all.ensures in
    let next = going_on c.args.gives_up c.args.queue q.hand q.waiting in
    record {
      replies = paid.0;
      carried_out = carried_out (turning c.args.gives_up c.args.queue q) next _ _ _ (nothing_left c.args.gives_up c.args.queue q.hand q.waiting (rw c.in-None.is at c.next_turn-owed.ensures.remaining)) (paid.2 q.owed next c.next_turn-owed.ensures.owed);
      came = sym (quiet_idle paid.0 paid.1);
    }

pub returns-in-Some : goal.returns-in-Some
returns-in-Some c =
    let q = queue_at c.args.self.now c.args.queue in
    let e : c.pay_all.result ≡ true = search rules in
    let paid = rw e at c.pay_all.ensures in
    paid_on c.args.gives_up c.args.queue c.args.self.now c.pay_all.new.self c.go_on.new.self c.in-Some.remaining paid.0 paid.1 (paid.2 q.owed (going_on c.args.gives_up c.args.queue q.hand q.waiting) c.next_turn-owed.ensures.owed)
    c.go_on.result (rw c.in-Some.is at c.next_turn-owed.ensures.remaining) c.go_on.ensures.went c.go_on.ensures.stopped
