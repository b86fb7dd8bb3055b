-- What the rows of the command line's tables say.
use Rattle.std.specs.Prelude.{◌≡◌, List, [], ◌∷◌, map, Some}
use Rattle.clap.specs.Words.{app_of}
use Rattle.clap.specs.Simple.{App, new_app, new_rule, with_rule, with_subcommand}
use Rattle.clap.specs.Walk.{Rule}
use Rattle.clap.specs.declared.builder.action.ArgAction.TheVariants.{Append, SetTrue}
use Rattle.clap.specs.declared.builder.command.Command.{Command}
use Rattle.clap.specs.declared.builder.command.Command.TheViews.{out-Command}
use Rattle.clap.specs.declared.builder.value_parser.ValueParser.TheVariants.{Unsigned}
use Rattle.gv_program.specs.declared.args.Kind.TheVariants.{Flag, Positional, Text, Texts, Number}
use Rattle.gv_program.specs.declared.args.Kind.{Kind}
use Rattle.gv_program.specs.declared.args.Numbers.{Numbers}
use Rattle.gv_program.specs.declared.args.Argument.{Argument}
use Rattle.gv_program.specs.declared.commands.Subcommand.{Subcommand}

-- what a row says of its argument
abbrev pub numbered : Rule → Numbers → Rule
numbered rule numbers = record rule {
  parser = Some (Unsigned numbers.least numbers.most);
  defaults = map (λ s. s.now) numbers.defaults.now;
}

abbrev pub of_kind : Kind → Rule → Rule
of_kind Flag rule = record rule { long = Some rule.id; action = Some SetTrue }
of_kind (Positional shown) rule = record rule { value_names = 1 }
of_kind (Text shown) rule = record rule { long = Some rule.id; value_names = 1 }
of_kind (Texts shown) rule = record rule { long = Some rule.id; value_names = 1; action = Some Append }
of_kind (Number shown numbers) rule = numbered (record rule { long = Some rule.id; value_names = 1 }) numbers

abbrev pub rule_of_row : Argument → Rule
rule_of_row row = of_kind row.kind (record (new_rule row.name.now) { required = row.needed })

-- a command with the arguments of these rows, the last ones
abbrev pub with_rows : App → List Argument → App
with_rows app [] = app
with_rows app (row ∷ rows) = with_rows (with_rule app (rule_of_row row)) rows

abbrev pub Adds : Command → List Argument → Command → Type 0
Adds old rows new = (app_of new ≡ with_rows (app_of old) rows)
    × ((out-Command new).has_globals ≡ (out-Command old).has_globals)

-- a subcommand of the table
abbrev pub line_of : Subcommand → App
line_of line = with_rows (new_app line.name.now) line.rows.now

-- a command with the subcommands of these lines
abbrev pub with_lines : App → List Subcommand → App
with_lines app [] = app
with_lines app (line ∷ lines) = with_lines (with_subcommand app (line_of line).top) lines
