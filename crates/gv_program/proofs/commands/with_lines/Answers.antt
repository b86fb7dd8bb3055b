use Rattle.std.proofs.Common.{◌≡◌, ℕ, suc, ◌+◌, ◌<◌, List, length, get_or, drop, drop-cons, add-one, sym, ap, ◌∙◌}
use Rattle.clap.specs.Simple.{App, with_subcommand}
use Rattle.clap.specs.Words.{app_of}
use Rattle.gv_program.specs.Rows.{line_of, with_lines}
use Rattle.gv_program.specs.declared.commands.Subcommand.{Subcommand}
use Rattle.gv_program.proofs.commands.with_lines.Goals as goal

-- a line is added, and is no longer among those that are left
one_line : (old new : App) (lines : List Subcommand) (i : ℕ) (d : Subcommand) → i < length lines
    → new ≡ with_subcommand old (line_of (get_or lines i d)).top
    → with_lines new (drop (i + 1) lines) ≡ with_lines old (drop i lines)
one_line old new lines i d less is =
    rw add-one (ap (λ (a : App). with_lines a (drop (suc i) lines)) is ∙ ap (with_lines old) (sym (drop-cons lines i d less)))

pub loop-line-preserved : goal.loop-line-preserved
loop-line-preserved c =
    let at = c.loop-line in
    one_line (app_of at.command) (app_of c.in_ok-command.command) c.args.lines.now at.line-index _ c.loop-line-test.true
    c.in_ok-command.ensures
    ∙ at.invariant
