use Rattle.std.proofs.Common.{◌≡◌, true, take}
use Rattle.std.specs.List.{All}
use Rattle.gv_sync.specs.Seats.{most_timelines}
use Rattle.gv_threads.specs.Naming.{MayBePut}
use Rattle.gv_threads.specs.Parts.{unnumbered}
use Rattle.gv_threads.specs.Running.{AreNamed}
use Rattle.gv_threads.specs.Script.{IsFor}
use Rattle.gv_threads.proofs.script.ThreadsScript.requests_named.Given as goal

abbrev pub invariant-loop-number : goal.invariant-loop-number
invariant-loop-number l = record {
  fit : All (IsFor l.self.queues most_timelines) l.requests.items;
  good : All (MayBePut l.self.queues l.buffers.entries l.self.timelines) (unnumbered (take l.number-index l.self.requests));
  named : l.has_memory ≡ true → AreNamed l.buffers.entries l.self.timelines (unnumbered (take l.number-index l.self.requests)) l.requests.items;
}
