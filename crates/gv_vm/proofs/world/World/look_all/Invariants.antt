use Rattle.std.proofs.Common.{◌≡◌, Bool, List, length, drop}
use Rattle.gv_types.specs.declared.request.Point.{Point}
use Rattle.gv_vm.specs.declared.event.Reply.{Reply}
use Rattle.gv_vm.specs.Plans.{Goes, looks}
use Rattle.gv_vm.specs.TurnParts.{AreQuiet}
use Rattle.gv_vm.proofs.world.World.look_all.Given as goal

abbrev pub invariant-loop-done : goal.invariant-loop-done
invariant-loop-done l = record {
  replies : List Reply;
  quiet : AreQuiet replies;
  goes : (gives_up : Bool) (points signals : List Point) → length points ≡ l.waits → Goes (looks gives_up l.queue points signals) l.fn.self replies l.self (looks gives_up l.queue (drop l.done points) signals);
}
