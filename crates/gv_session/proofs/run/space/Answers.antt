use Rattle.std.proofs.Common.{refl, sym, rules, inl, inr}
use Rattle.gv_session.specs.Line.{SetsBounds}
use Rattle.gv_session.specs.Texts.{ok_reply}
use Rattle.gv_session.proofs.AnswerLemmas.{of_found}
use Rattle.gv_session.proofs.LinesLemmas.{wrote_plain}
use Rattle.gv_session.specs.Line.{plain}
use Rattle.gv_session.proofs.StoppedLemmas.{on_err}
use Rattle.gv_session.proofs.run.space.Goals as goal

pub returns-clause-done : goal.returns-clause-done
returns-clause-done c =
    wrote_plain (SetsBounds c.args.bounds) c.args.session.now c.set_bounds.new.self ok_reply c.args.out.now c.push_str.new.self c.in_ok-push_str.ensures.bytes
    (search rules, of_found c.args.bounds c.in-Some.bounds _ (sym c.in-Some.is) (refl, c.in_ok-set_bounds.ensures.done))

pub returns-in_err-set_bounds-clause-stopped : goal.returns-in_err-set_bounds-clause-stopped
returns-in_err-set_bounds-clause-stopped c = on_err c.from_residual.result _ (inl c.in_err-set_bounds.ensures.err)

pub returns-in_err-push_str-clause-stopped : goal.returns-in_err-push_str-clause-stopped
returns-in_err-push_str-clause-stopped c =
    on_err c.from_residual-in_err-push_str.result _ (inr (inr (
      plain ok_reply,
      (search rules, of_found c.args.bounds c.in-Some.bounds _ (sym c.in-Some.is) (refl, c.in_ok-set_bounds.ensures.done)),
    )))
