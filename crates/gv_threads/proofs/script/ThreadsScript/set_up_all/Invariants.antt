use Rattle.std.proofs.Common.{◌≡◌, ◌++◌, List, ℕ}
use Rattle.std.specs.Io.KnownBytes.{Appends, append_known}
use Rattle.std.specs.Vec.Iter.{into_iter_items}
use Rattle.gv_sync.specs.Seats.{IsSeatOf}
use Rattle.gv_threads.specs.Parts.{unnumbered}
use Rattle.gv_threads.specs.Running.{IsFirst, SetUpAll, ready_of}
use Rattle.gv_threads.specs.declared.setting.SetupLine.{SetupLine}
use Rattle.gv_threads.proofs.script.ThreadsScript.set_up_all.Given as goal

abbrev pub invariant-loop-number : goal.invariant-loop-number
invariant-loop-number g l = record {
  own : IsSeatOf l.harness.timelines l.harness.seat;
  timelines : l.harness.timelines ≡ l.initial.harness.timelines;
  told : l.harness.vm.told ≡ l.initial.harness.vm.told;
  first : IsFirst l.harness.seat;
  done : List SetupLine;
  text : List ℕ;
  split : done ++ unnumbered (into_iter_items l.number-iterator) ≡ unnumbered (into_iter_items l.initial.number-iterator);
  ran : SetUpAll l.self-inside.timelines.names done (ready_of l.initial.harness) text (ready_of l.harness);
  wrote : Appends (g.W.Sink.written l.initial.writer) (append_known (g.W.Sink.written l.writer) l.output) text;
  flag : g.W.Sink.failed l.writer ≡ g.W.Sink.failed l.initial.writer;
}
