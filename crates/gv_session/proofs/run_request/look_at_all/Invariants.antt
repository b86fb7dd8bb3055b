use Rattle.std.proofs.Common.{◌≡◌, true, List, length, drop}
use Rattle.gv_types.specs.declared.request.Point.{Point}
use Rattle.gv_vm.specs.declared.event.Reply.{Reply}
use Rattle.gv_vm.specs.Plans.{looks, Goes}
use Rattle.gv_session.specs.LineProgress.{Tells}
use Rattle.gv_session.proofs.run_request.look_at_all.Given as goal

abbrev pub invariant-loop-done : goal.invariant-loop-done
invariant-loop-done l = record {
  replies : List Reply;
  tells : Tells l.fn.session l.session replies l.fn.out l.out;
  goes : (points signals : List Point) → length points ≡ l.waits → Goes (looks true l.queue points signals) l.fn.session.world replies l.session.world (looks true l.queue (drop l.done points) signals);
}
