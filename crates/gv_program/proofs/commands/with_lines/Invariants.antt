use Rattle.std.proofs.Common.{◌≡◌, drop}
use Rattle.clap.specs.Words.{app_of}
use Rattle.gv_program.specs.Rows.{with_lines}
use Rattle.gv_program.proofs.commands.with_lines.Given as goal

-- with the lines that are left the command is what it will be
abbrev pub invariant-loop-line : goal.invariant-loop-line
invariant-loop-line l = with_lines (app_of l.command) (drop l.line-index l.lines) ≡ with_lines (app_of l.initial.command) l.lines
