use Rattle.std.proofs.Common.{length}
use Rattle.gv_serve.proofs.json_dialogue.JsonDialogue.answer_lines.Given as goal

abbrev pub decreases-loop-front : goal.decreases-loop-front
decreases-loop-front g l = length l.rest
