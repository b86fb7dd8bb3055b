use Rattle.std.proofs.Common.{[], refl, sym, append-nil}
use Rattle.gv_lines.specs.declared.line.Line.TheVariants as line
use Rattle.gv_session.specs.Line.{Runs}
use Rattle.gv_session.proofs.LinesLemmas.{wrote_plain}
use Rattle.gv_session.proofs.run.run.Goals as goal

pub returns-in-Silent-clause-done : goal.returns-in-Silent-clause-done
returns-in-Silent-clause-done c = rw c.in-Silent.is (
    wrote_plain (Runs line.Silent) c.args.session.now c.args.session.now [] c.args.out.now c.args.out.now (sym (append-nil _)) (refl, refl))
