use Rattle.std.proofs.Common.{◌≡◌, List, length}
use Rattle.gv_lines.specs.Job.{access_of, accesses_read}
use Rattle.gv_lines.specs.declared.job.Access.{Access}
use Rattle.gv_lines.proofs.ListParsing.{read_behind}
use Rattle.gv_lines.proofs.job.AccessList.from_parts.Given as goal

abbrev pub invariant-loop-words : goal.invariant-loop-words
invariant-loop-words l = (front : List Access) × accesses_read l.parts ≡ read_behind access_of front l.left

abbrev pub decreases-loop-words : goal.decreases-loop-words
decreases-loop-words l = length l.left
