use Rattle.std.proofs.Common.{◌≡◌, ◌≤◌, List, ℕ, length}
use Rattle.std.specs.Io.KnownBytes.{Appends, Consumes, append_known}
use Rattle.gv_serve.specs.DialogueProgress.{HasAnswered}
use Rattle.gv_serve.proofs.dialogue.Dialogue.hold.Given as goal

abbrev pub invariant-loop-done : goal.invariant-loop-done
invariant-loop-done g l = record {
  input : List ℕ;
  text : List ℕ;
  heard : HasAnswered input text l.self.talk.session l.self.talk.number l.self.partial;
  each_gave : l.done ≤ length input;
  so_far : Consumes (g.R.Source.remaining l.initial.reader) (g.R.Source.remaining l.reader) input;
  wrote : Appends (g.W.Sink.written l.initial.writer) (append_known (g.W.Sink.written l.writer) l.self.talk.output) text;
  read_flag : g.R.Source.failed l.reader ≡ g.R.Source.failed l.initial.reader;
  write_flag : g.W.Sink.failed l.writer ≡ g.W.Sink.failed l.initial.writer;
}
