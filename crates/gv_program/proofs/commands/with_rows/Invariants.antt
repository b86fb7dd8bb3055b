use Rattle.std.proofs.Common.{◌≡◌, drop}
use Rattle.clap.specs.Words.{app_of}
use Rattle.clap.specs.declared.builder.command.Command.TheViews.{out-Command}
use Rattle.gv_program.specs.Rows.{with_rows}
use Rattle.gv_program.proofs.commands.with_rows.Given as goal

-- with the rows that are left the command is what it will be
abbrev pub invariant-loop-row : goal.invariant-loop-row
invariant-loop-row l =
    (with_rows (app_of l.command) (drop l.row-index l.rows) ≡ with_rows (app_of l.initial.command) l.rows)
    × ((out-Command l.command).has_globals ≡ (out-Command l.initial.command).has_globals)
