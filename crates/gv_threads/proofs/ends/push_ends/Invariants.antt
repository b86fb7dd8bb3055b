use Rattle.std.proofs.Common.{◌≡◌, ◌++◌, take, string_bytes}
use Rattle.gv_threads.specs.Ending.{end_lines}
use Rattle.gv_threads.proofs.ends.push_ends.Given as goal

abbrev pub invariant-loop-queue : goal.invariant-loop-queue
invariant-loop-queue l = string_bytes l.text ≡ string_bytes l.initial.text ++ end_lines (take l.queue l.ends)
