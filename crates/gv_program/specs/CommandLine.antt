-- The command line of the program.
use Rattle.std.specs.Prelude.{◌≡◌, ◌≢◌, List, [], ◌∷◌, ℕ, Bool, map, option_map, option_and_then, true, false, codes, Option, Some, None, Result, Ok, Err, String, string_bytes}
use Rattle.std.specs.Borrow.{Bor}
use Rattle.std.specs.declared.alloc.Global.{Global}
use Rattle.clap.specs.Kinds.{Kinds, IsAmong}
use Rattle.clap.specs.Words.{Row, app_of, fault_of, first_of, one_of, subcommand_name_of, subcommand_rows_of}
use Rattle.clap.specs.Simple.{App, new_app, new_rule, on_top, subcommand_of, with_rule, with_subcommand}
use Rattle.clap.specs.Walk.{Rule}
use Rattle.clap.specs.Values.{kind_of}
use Rattle.clap.specs.declared.builder.action.ArgAction.TheVariants.{Append, SetTrue}
use Rattle.clap.specs.declared.builder.command.Command.{Command}
use Rattle.clap.specs.declared.builder.command.Command.TheViews.{out-Command}
use Rattle.clap.specs.declared.builder.value_parser.ValueParser.TheVariants.{Unsigned}
use Rattle.clap.specs.declared.error.Error.{Error}
use Rattle.clap.specs.declared.error.kind.ErrorKind.TheVariants as kind
use Rattle.clap.specs.declared.parser.matches.ArgMatches.{ArgMatches}
use Rattle.gv_types.specs.Limits.{IsFromOneTo}
use Rattle.gv_program.specs.declared.words.Task.{Task}
use Rattle.gv_program.specs.declared.words.Task.TheVariants.{Run, Serve, Replay, Draw, Compare, Threads}
use Rattle.gv_program.specs.declared.words.WordsFault.{WordsFault}
use Rattle.gv_program.specs.declared.words.WordsFault.TheVariants.{Printed, OutOfMemory}

-- how many queues there may be, and how many turns a request may wait
abbrev pub most_queues : ℕ
most_queues = 16

abbrev pub most_turns : ℕ
most_turns = 1000000000

-- a flag: `--NAME`
abbrev pub flag_rule : List ℕ → Rule
flag_rule name = record (new_rule name) { long = Some name; action = Some SetTrue }

-- `FILE`
abbrev pub file_rule : Rule
file_rule = record (new_rule (codes "file")) { value_names = 1 }

-- a file that may not be left out
abbrev pub list_rule : List ℕ → Rule
list_rule name = record (new_rule name) { value_names = 1; required = true }

-- `--format FORMAT`, which may not be left out
abbrev pub format_rule : Rule
format_rule = record (new_rule (codes "format")) { long = Some (codes "format"); value_names = 1; required = true }

-- `--format FORMAT`, which may be left out
abbrev pub log_format_rule : Rule
log_format_rule = record (new_rule (codes "format")) { long = Some (codes "format"); value_names = 1 }

-- `--space NAME`
abbrev pub space_rule : Rule
space_rule = record (new_rule (codes "space")) { long = Some (codes "space"); value_names = 1 }

-- `--at ADDR`, any number of times
abbrev pub addresses_rule : Rule
addresses_rule = record (new_rule (codes "at")) { long = Some (codes "at"); value_names = 1; action = Some Append }

-- `--flags BITS`
abbrev pub flags_rule : Rule
flags_rule = record (new_rule (codes "flags")) { long = Some (codes "flags"); value_names = 1 }

-- the greatest number of a process, and how wide a picture may be
abbrev pub most_pid : ℕ
most_pid = 4294967295

abbrev pub most_width : ℕ
most_width = 16384

-- `--pid N`
abbrev pub pid_rule : Rule
pid_rule = record (new_rule (codes "pid")) { long = Some (codes "pid"); value_names = 1; parser = Some (Unsigned 0 most_pid) }

-- `--at ADDR`
abbrev pub at_rule : Rule
at_rule = record (new_rule (codes "at")) { long = Some (codes "at"); value_names = 1 }

-- `--width N`, or 1,600
abbrev pub width_rule : Rule
width_rule = record (new_rule (codes "width")) {
  long = Some (codes "width");
  value_names = 1;
  defaults = codes "1600" ∷ [];
  parser = Some (Unsigned 1 most_width);
}

-- `--queues N`, which may not be left out
abbrev pub queues_rule : Rule
queues_rule = record (new_rule (codes "queues")) {
  long = Some (codes "queues");
  value_names = 1;
  parser = Some (Unsigned 1 most_queues);
  required = true;
}

-- `--turns T`, or 100,000
abbrev pub turns_rule : Rule
turns_rule = record (new_rule (codes "turns")) {
  long = Some (codes "turns");
  value_names = 1;
  defaults = codes "100000" ∷ [];
  parser = Some (Unsigned 1 most_turns);
}

-- a subcommand with one more flag
abbrev pub with_flag : App → List ℕ → App
with_flag line name = with_rule line (flag_rule name)

abbrev pub run_line : App
run_line = with_rule (with_flag (new_app (codes "run")) (codes "explain")) file_rule

abbrev pub serve_line : App
serve_line = with_rule (with_flag (new_app (codes "serve")) (codes "json")) file_rule

abbrev pub replay_asked : App
replay_asked = with_rule (with_rule (new_app (codes "replay")) format_rule) addresses_rule

abbrev pub replay_options : App
replay_options = with_rule (with_rule (with_rule replay_asked flags_rule) pid_rule) space_rule

abbrev pub replay_forms : App
replay_forms = with_flag (with_flag (with_flag replay_options (codes "json")) (codes "script")) (codes "draw")

abbrev pub replay_told : App
replay_told = with_flag (with_flag replay_forms (codes "all")) (codes "quiet")

abbrev pub replay_line : App
replay_line = with_rule (with_rule replay_told width_rule) file_rule

abbrev pub draw_options : App
draw_options = with_rule (with_rule (new_app (codes "draw")) at_rule) width_rule

abbrev pub draw_line : App
draw_line = with_rule (with_flag draw_options (codes "quiet")) file_rule

abbrev pub compare_lists : App
compare_lists = with_rule (with_rule (new_app (codes "compare")) (list_rule (codes "first"))) (list_rule (codes "second"))

abbrev pub compare_log : App
compare_log = with_rule (with_rule (with_rule compare_lists log_format_rule) flags_rule) pid_rule

abbrev pub compare_line : App
compare_line = with_flag (with_rule compare_log space_rule) (codes "quiet")

abbrev pub threads_line : App
threads_line = with_flag (with_rule (with_rule (new_app (codes "threads")) queues_rule) turns_rule) (codes "explain")

-- a command is this one, and none of its arguments is one of its subcommands too
abbrev pub IsCommandOf : App → Command → Type 0
IsCommandOf line command = (app_of command ≡ line) × ((out-Command command).has_globals ≡ false)

-- the program, where a subcommand may not be left out, and the version may be asked for
abbrev pub bare_line : App
bare_line = on_top (λ s. record s { has_version = true; subcommand_required = true }) (new_app (codes "vmbind"))

-- with its first subcommands
abbrev pub first_lines : App
first_lines = with_subcommand (with_subcommand (with_subcommand bare_line run_line.top) serve_line.top) replay_line.top

-- with all its subcommands; help may be asked for everywhere
abbrev pub command_line : App
command_line = with_subcommand (with_subcommand (with_subcommand first_lines draw_line.top) compare_line.top) threads_line.top

-- so many queues, and turns, as running queues and their gate take them
abbrev pub IsTask : Task → Type 0
IsTask (Run explain file) = Unit {0}
IsTask (Serve json file) = Unit {0}
IsTask (Replay words) = Unit {0}
IsTask (Draw at width quiet file) = Unit {0}
IsTask (Compare words) = Unit {0}
IsTask (Threads queues turns explain) = IsFromOneTo most_queues queues × IsFromOneTo most_turns turns

-- the subcommand that clap enters on these words
abbrev pub entered : List (List ℕ) → Option (List ℕ)
entered words = option_map (λ found. found.0) (subcommand_of command_line words)

-- the task is that of the subcommand which clap enters; `run` stands for no other
abbrev pub IsEntered : Option (List ℕ) → Task → Type 0
IsEntered name (Run explain file) = (name ≢ Some (codes "serve")) × (name ≢ Some (codes "threads"))
IsEntered name (Serve json file) = name ≡ Some (codes "serve")
IsEntered name (Replay words) = name ≡ Some (codes "replay")
IsEntered name (Draw at width quiet file) = name ≡ Some (codes "draw")
IsEntered name (Compare words) = name ≡ Some (codes "compare")
IsEntered name (Threads queues turns explain) = name ≡ Some (codes "threads")

-- the command line refuses nothing of the words, and they enter this subcommand
abbrev pub AreReadAs : List ℕ → List (List ℕ) → Type 0
AreReadAs name words = (fault_of command_line words ≡ []) × (entered words ≡ Some name)

-- the text that a reference leads to
abbrev pub text_of : Option (Bor (List ℕ)) → Option (List ℕ)
text_of = option_map (λ s. s.now)

-- the file that the words name behind their subcommand
abbrev pub file_named : List (List ℕ) → Option (List ℕ)
file_named words = option_and_then (λ found. first_of (codes "file") found.1) (subcommand_of command_line words)

-- a script and lines are read from the file that the words name
abbrev pub NamesFile : List (List ℕ) → Task → Type 0
NamesFile words (Run explain file) = entered words ≡ Some (codes "run") → text_of file ≡ file_named words
NamesFile words (Serve json file) = text_of file ≡ file_named words
NamesFile words other = Unit {0}

-- what these matches give `run`
abbrev pub IsRunOf : List Row → Task → Type 0
IsRunOf rows (Run explain file) = (text_of file ≡ first_of (codes "file") rows)
    × (one_of (codes "explain") rows ≡ Some (codes "false") → explain ≡ false)
IsRunOf rows other = ⊥

-- what these matches give `serve`
abbrev pub IsServeOf : List Row → Task → Type 0
IsServeOf rows (Serve json file) = (text_of file ≡ first_of (codes "file") rows)
    × (one_of (codes "json") rows ≡ Some (codes "false") → json ≡ false)
IsServeOf rows other = ⊥

abbrev pub IsThreads : Task → Type 0
IsThreads (Threads queues turns explain) = Unit {0}
IsThreads other = ⊥

abbrev pub IsReplay : Task → Type 0
IsReplay (Replay words) = Unit {0}
IsReplay other = ⊥

abbrev pub IsDraw : Task → Type 0
IsDraw (Draw at width quiet file) = Unit {0}
IsDraw other = ⊥

abbrev pub IsCompare : Task → Type 0
IsCompare (Compare words) = Unit {0}
IsCompare other = ⊥

abbrev pub words_of : List (String Global) → List (List ℕ)
words_of = map string_bytes

-- the words are read where no kind of error comes, and else the error has one of these kinds
abbrev pub ReadsBy : {T : Type 0} → Kinds → Result T WordsFault → Type 0
ReadsBy kinds (Ok task) = kinds ≡ []
ReadsBy kinds (Err (Printed error)) = IsAmong (kind_of error) kinds
ReadsBy kinds (Err OutOfMemory) = Unit {0}

-- clap's error as the program's fault
abbrev pub IsFaultOf : Error → WordsFault → Type 0
IsFaultOf error (Printed shown) = (shown ≡ error) × (kind_of error ≢ kind.OutOfMemory)
IsFaultOf error OutOfMemory = kind_of error ≡ kind.OutOfMemory

-- the matches of the subcommand that a parse entered
abbrev pub rows_in : ArgMatches → Option (List Row)
rows_in m = option_map (λ p. p.1) (subcommand_rows_of m)

-- the task is that of the subcommand that a parse entered, with what is given there
abbrev pub IsTaskOf : ArgMatches → Task → Type 0
IsTaskOf m (Run explain file) =
    (subcommand_name_of m ≢ Some (codes "serve")) × (subcommand_name_of m ≢ Some (codes "threads"))
    × ((rows : List Row) → subcommand_name_of m ≡ Some (codes "run") → rows_in m ≡ Some rows → IsRunOf rows (Run explain file))
IsTaskOf m (Serve json file) =
    (subcommand_name_of m ≡ Some (codes "serve"))
    × ((rows : List Row) → rows_in m ≡ Some rows → IsServeOf rows (Serve json file))
IsTaskOf m (Replay words) = subcommand_name_of m ≡ Some (codes "replay")
IsTaskOf m (Draw at width quiet file) = subcommand_name_of m ≡ Some (codes "draw")
IsTaskOf m (Compare words) = subcommand_name_of m ≡ Some (codes "compare")
IsTaskOf m (Threads queues turns explain) = subcommand_name_of m ≡ Some (codes "threads")
