use Rattle.std.proofs.Common.{◌≡◌, List, length, drop}
use Rattle.gv_types.specs.declared.request.Point.{Point}
use Rattle.gv_vm.specs.declared.event.Reply.{Reply}
use Rattle.gv_vm.specs.Plans.{Plan, Goes, paying}
use Rattle.gv_vm.specs.TurnParts.{AreQuiet}
use Rattle.gv_vm.proofs.world.World.pay_all.Given as goal

abbrev pub invariant-loop-done : goal.invariant-loop-done
invariant-loop-done l = record {
  replies : List Reply;
  quiet : AreQuiet replies;
  goes : (points : List Point) (next : Plan) → length points ≡ l.signals → Goes (paying l.queue points next) l.fn.self replies l.self (paying l.queue (drop l.done points) next);
}
