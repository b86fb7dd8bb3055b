use Rattle.std.proofs.Common.{◌≡◌, ◌++◌, ℕ, List, length}
use Rattle.std.specs.Vec.Iter.{into_iter_items}
use Rattle.gv_types.specs.declared.request.Request.{Request}
use Rattle.gv_queues.specs.Driving.{AreSomePut}
use Rattle.gv_queues.specs.Submitting.{AreCounted, AreSameSubmitters}
use Rattle.gv_queues.specs.Counts.{count_of_queue}
use Rattle.gv_queues.proofs.put_all.put_all.Given as goal

abbrev pub invariant-loop-queue : goal.invariant-loop-queue
invariant-loop-queue g l = record {
  same : AreSameSubmitters l.fn.submitters l.submitters;
  counted : AreCounted (count_of_queue l.counts) l.submitters;
  even : length l.submitters ≡ length l.fn.submitters;
  done : List (ℕ × Request);
  split : done ++ into_iter_items l.queue-iterator ≡ l.fn.requests.items;
  put : AreSomePut done l.submitters;
}
