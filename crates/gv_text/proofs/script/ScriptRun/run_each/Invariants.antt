use Rattle.std.proofs.Common.{◌≡◌, List, ℕ, ◌+◌, ◌≤◌, length}
use Rattle.std.specs.Io.KnownBytes.{Appends, append_known}
use Rattle.gv_lines.specs.Words.{parts}
use Rattle.gv_text.specs.Script.{IsFront}
use Rattle.gv_text.proofs.script.ScriptRun.run_each.Given as goal

abbrev pub invariant-loop-line : goal.invariant-loop-line
invariant-loop-line g l = record {
  text : List ℕ;
  refusals : ℕ;
  front : IsFront l.script text (parts 10 l.rest) l.done refusals l.self.session;
  wrote : Appends (g.W.Sink.written l.initial.writer) (append_known (g.W.Sink.written l.writer) l.output) text;
  flag : g.W.Sink.failed l.writer ≡ g.W.Sink.failed l.initial.writer;
  remaining : l.done + length l.rest ≤ length l.script;
}

abbrev pub decreases-loop-line : goal.decreases-loop-line
decreases-loop-line g l = length l.rest
