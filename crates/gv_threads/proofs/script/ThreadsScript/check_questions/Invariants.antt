use Rattle.std.proofs.Common.{take}
use Rattle.std.specs.List.{All}
use Rattle.gv_threads.specs.Naming.{HasBuffer}
use Rattle.gv_threads.specs.Parts.{unnumbered}
use Rattle.gv_threads.proofs.script.ThreadsScript.check_questions.Given as goal

abbrev pub invariant-loop-number : goal.invariant-loop-number
invariant-loop-number l = All (HasBuffer l.buffers.entries) (unnumbered (take l.number-index l.self.questions))
