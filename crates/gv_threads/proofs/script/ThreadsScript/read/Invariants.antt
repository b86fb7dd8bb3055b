use Rattle.std.proofs.Common.{◌≡◌, ◌+◌, ◌≤◌, ◌++◌, ℕ, List, Some, true, length, map}
use Rattle.gv_lines.specs.Grammar.{parsed}
use Rattle.gv_lines.specs.Words.{parts}
use Rattle.gv_lines.specs.declared.line.Line.{Line}
use Rattle.gv_threads.specs.Parts.{Keeps}
use Rattle.gv_threads.specs.ReadSoFar.{MayStandAll, read_after, read_so_far}
use Rattle.gv_threads.proofs.script.ThreadsScript.read.Given as goal

abbrev pub invariant-loop-line : goal.invariant-loop-line
invariant-loop-line l = record {
  queues : l.script.queues ≡ l.count;
  remaining : l.number + length l.rest ≤ length l.text + 1;
  lines : List Line;
  texts : List (List ℕ);
  cut : parts 10 l.text ≡ texts ++ parts 10 l.rest;
  read : map parsed texts ≡ map Some lines;
  kept : l.script.has_memory ≡ true → Keeps lines l.script;
  so_far : read_so_far l.script ≡ read_after lines;
  stand : MayStandAll l.count lines;
  counted : l.number ≡ length texts + 1;
}

abbrev pub decreases-loop-line : goal.decreases-loop-line
decreases-loop-line l = length l.rest
