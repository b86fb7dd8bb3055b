use Rattle.std.proofs.Common.{refl}
use Rattle.gv_session.proofs.LinesLemmas.{wrote_plain}
use Rattle.gv_serve.specs.DialogueLine.{Asks}
use Rattle.gv_serve.proofs.asking.say.Goals as goal

pub returns-clause-done : goal.returns-clause-done
returns-clause-done c =
    wrote_plain Asks c.args.session.now c.begin.new.self c.args.reply.now c.args.out.now c.push_str.new.self c.in_ok-push_str.ensures.bytes
    (c.args.reply.now, (refl, c.begin.ensures))
