use Rattle.std.proofs.Common.{refl}
use Rattle.gv_session.proofs.AnswerLemmas.{then_ok}
use Rattle.gv_threads.proofs.LastPart.{is_answered, is_question}
use Rattle.gv_session.specs.State.{start}
use Rattle.gv_threads.proofs.UndeclaredNames.{has_good}
use Rattle.gv_threads.proofs.last.ask.Goals as goal

pub returns-in_default : goal.returns-in_default
returns-in_default c = record {
  timelines = refl;
  own = c.requires.own;
  vm = refl;
  buffers = refl;
  done = then_ok c.answer.result _ _
      (λ found. (found.0, is_answered c.args.question.now _ _ _ c.args.harness.now.seat found.0 c.in_default.not-Value found.1, found.2))
      (c.answer.ensures.done (is_question c.args.question.now c.requires.asked c.in_default.not-Value));
  bad = λ is has. c.answer.ensures.bad is start (has_good c.args.question.now c.args.harness.now.buffers.entries c.args.names.now.names c.args.harness.now.vm start c.requires.asked c.in_default.not-Value has);
}
