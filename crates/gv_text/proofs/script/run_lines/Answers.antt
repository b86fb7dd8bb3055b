use Rattle.std.proofs.lemmas.Result.{err_from_is_err_and}
use Rattle.gv_text.proofs.LinesRun.{nothing_ran}
use Rattle.gv_text.proofs.script.run_lines.Goals as goal

pub returns-in_err-new-clause-ends : goal.returns-in_err-new-clause-ends
returns-in_err-new-clause-ends g c =
    let p = err_from_is_err_and c.from_residual.result c.from_residual.ensures.1 in
    rw (p.1, p.2)
    (nothing_ran c.args.script.now (g.W.Sink.written c.args.writer.now) c.args.output.now c.requires.short c.requires.fresh)
