use Rattle.std.proofs.Common.{sym, subst}
use Rattle.std.specs.List.{All}
use Rattle.gv_session.specs.State.{HasBytesThatFit}
use Rattle.gv_session.proofs.InsideBuffer.{held_list}
use Rattle.gv_session.proofs.question.answer.Goals as goal

pub write_mappings-requires : goal.write_mappings-requires
write_mappings-requires c = subst (All HasBytesThatFit) (sym c.list.ensures.value) (held_list c.space-in-Map.result.now c.list.ensures.space)
