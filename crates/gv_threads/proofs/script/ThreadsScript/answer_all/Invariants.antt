use Rattle.std.proofs.Common.{◌≡◌, List, ℕ, take}
use Rattle.std.specs.List.{All}
use Rattle.std.specs.Io.KnownBytes.{Appends, append_known}
use Rattle.gv_sync.specs.Seats.{IsSeatOf}
use Rattle.gv_threads.specs.Naming.{HasNames}
use Rattle.gv_threads.specs.Parts.{unnumbered}
use Rattle.gv_threads.specs.Running.{AreAnswered}
use Rattle.gv_threads.proofs.script.ThreadsScript.answer_all.Given as goal

abbrev pub invariant-loop-number : goal.invariant-loop-number
invariant-loop-number g l = record {
  own : IsSeatOf l.harness.timelines l.harness.seat;
  timelines : l.harness.timelines ≡ l.initial.harness.timelines;
  vm : l.harness.vm ≡ l.initial.harness.vm;
  buffers : l.harness.buffers ≡ l.initial.harness.buffers;
  good : All (HasNames l.initial.harness.buffers.entries l.self.timelines) (unnumbered (take l.number-index l.self.questions));
  text : List ℕ;
  ran : AreAnswered l.initial.harness.buffers.entries l.self.timelines l.initial.harness.vm l.initial.harness.seat (unnumbered (take l.number-index l.self.questions)) text l.harness.seat;
  wrote : Appends (g.W.Sink.written l.initial.writer) (append_known (g.W.Sink.written l.writer) l.output) text;
  flag : g.W.Sink.failed l.writer ≡ g.W.Sink.failed l.initial.writer;
}
