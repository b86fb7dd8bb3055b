use Rattle.std.proofs.Common.{◌≡◌, List, length, drop}
use Rattle.gv_types.specs.declared.request.Point.{Point}
use Rattle.gv_vm.specs.declared.event.Reply.{Reply}
use Rattle.gv_vm.specs.Plans.{payments, Goes}
use Rattle.gv_session.specs.LineProgress.{Tells}
use Rattle.gv_session.proofs.run_request.pay_all.Given as goal

abbrev pub invariant-loop-done : goal.invariant-loop-done
invariant-loop-done l = record {
  replies : List Reply;
  tells : Tells l.fn.session l.session replies l.fn.out l.out;
  goes : (points : List Point) → length points ≡ l.signals → Goes (payments l.queue points) l.fn.session.world replies l.session.world (payments l.queue (drop l.done points));
}
