use Rattle.std.proofs.Common.{refl, rules, inl, inr}
use Rattle.std.proofs.lemmas.Result.{err_from_is_err_and}
use Rattle.gv_lines.specs.declared.line.Line.TheVariants as line
use Rattle.gv_session.specs.Line.{plain}
use Rattle.gv_session.specs.Texts.{ok_reply}
use Rattle.gv_session.proofs.StoppedLemmas.{leaves_any}
use Rattle.gv_session.proofs.run.timeline.Goals as goal

pub returns-in_err-declare_timeline-clause-stopped : goal.returns-in_err-declare_timeline-clause-stopped
returns-in_err-declare_timeline-clause-stopped c = leaves_any (line.Timeline c.args.name) _ _ c.from_residual.result c.in_err-declare_timeline.ensures.same

pub returns-in_err-push_str-clause-stopped : goal.returns-in_err-push_str-clause-stopped
returns-in_err-push_str-clause-stopped c =
    let p = err_from_is_err_and c.from_residual-in_err-push_str.result c.from_residual-in_err-push_str.ensures.1 in
    rw (p.1, p.2) (inl (inr (inr (plain ok_reply, (search rules, search rules, refl, c.in_ok-declare_timeline.ensures.done)))))
