use Rattle.std.proofs.Common.{◌≡◌, length}
use Rattle.gv_sync.specs.Seats.{IsSeatOf}
use Rattle.gv_queues.specs.Counts.{count_of_queue}
use Rattle.gv_queues.specs.Submitting.{AreCounted, AreSameSubmitters}
use Rattle.gv_machine_tests.proofs.plan.Stage.act_all.Given as goal

abbrev pub invariant-loop-place : goal.invariant-loop-place
invariant-loop-place g l = record {
  own : IsSeatOf l.self.timelines.now l.seat;
  same : AreSameSubmitters l.fn.submitters l.submitters;
  counted : AreCounted (count_of_queue l.counts) l.submitters;
  even : length l.submitters ≡ length l.fn.submitters;
}
