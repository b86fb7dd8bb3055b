use Rattle.std.proofs.Common.{◌≡◌, List, ℕ, ◌++◌, length}
use Rattle.std.specs.Io.KnownBytes.{Appends, append_known}
use Rattle.gv_serve.specs.DialogueProgress.{HasAnswered, HasAnsweredUpTo}
use Rattle.gv_serve.proofs.dialogue.Dialogue.answer_lines.Given as goal

abbrev pub invariant-loop-front : goal.invariant-loop-front
invariant-loop-front g l = record {
  text : List ℕ;
  heard : (input before : List ℕ) → HasAnswered input before l.initial.self.talk.session l.initial.self.talk.number l.initial.self.partial →
      HasAnsweredUpTo (input ++ l.bytes) (before ++ text) l.self.talk.session l.self.talk.number l.self.partial l.rest;
  wrote : Appends (append_known (g.W.Sink.written l.initial.writer) l.initial.self.talk.output) (append_known (g.W.Sink.written l.writer) l.self.talk.output) text;
  flag : g.W.Sink.failed l.writer ≡ g.W.Sink.failed l.initial.writer;
}

abbrev pub decreases-loop-front : goal.decreases-loop-front
decreases-loop-front g l = length l.rest
