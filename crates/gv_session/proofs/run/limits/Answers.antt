use Rattle.std.proofs.Common.{◌≡◌, refl, rules, inl, inr}
use Rattle.std.proofs.lemmas.Result.{err_from_is_err_and}
use Rattle.gv_session.specs.Line.{plain, line_limits}
use Rattle.gv_session.specs.Texts.{ok_reply}
use Rattle.gv_session.proofs.run.limits.Goals as goal

pub returns-in_err-set_limits-clause-stopped : goal.returns-in_err-set_limits-clause-stopped
returns-in_err-set_limits-clause-stopped c =
    let p = err_from_is_err_and c.from_residual.result c.from_residual.ensures.1 in
    rw (p.1, p.2) (inl (inl c.in_err-set_limits.ensures.err))

pub returns-in_err-push_str-clause-stopped : goal.returns-in_err-push_str-clause-stopped
returns-in_err-push_str-clause-stopped c =
    let p = err_from_is_err_and c.from_residual-in_err-push_str.result c.from_residual-in_err-push_str.ensures.1 in
    let same : c.in-Some.limits ≡ line_limits c.args.caps.buffers c.args.caps.mappings c.args.caps.items = search rules in
    rw (p.1, p.2) (inl (inr (inr (plain ok_reply, (search rules, search rules, refl, rw same at c.in_ok-set_limits.ensures.done)))))
