use Rattle.std.proofs.Common.{ap, ◌∙◌}
use Rattle.std.proofs.lemmas.Result.{IfOk-weaker}
use Rattle.clap.specs.Words.{App, app_of, with_subcommand}
use Rattle.gv_program.proofs.commands.with_line.Goals as goal

pub returns : goal.returns
returns c =
    let line = c.in_ok-line_command.ensures in
    IfOk-weaker c.subcommand.result _ _
    (λ made adds. adds.shape line.1 ∙ ap (λ (a : App). with_subcommand (app_of c.args.command) a.top) line.0) c.subcommand.ensures
