use Rattle.std.proofs.Common.{◌≡◌, [], inl, inr, ap, Result, Ok}
use Rattle.clap.specs.Kinds.{HasKind}
use Rattle.gv_program.specs.CommandLine.{words_of}
use Rattle.gv_program.proofs.Arguments.{at_command_line, found_by, is_entered, names_file, no_memory_of, reads_by, run_alone, run_passes, serve_alone, serve_passes}
use Rattle.gv_program.specs.declared.words.Task.{Task}
use Rattle.gv_program.specs.declared.words.WordsFault.{WordsFault}
use Rattle.gv_program.proofs.words.read_words.Goals as goal

pub returns-in_err-matches-clause-kinds : goal.returns-in_err-matches-clause-kinds
returns-in_err-matches-clause-kinds c =
    let parse = c.in_err-matches in
    reads_by _ parse.field-0.0 _
    (at_command_line (λ kinds. HasKind kinds parse.field-0.0) (words_of c.args.words.now) _
    c.in_ok-command.ensures parse.ensures.kinds)
    c.from_residual-in_err-matches.ensures.1

pub returns-in_err-matches-clause-run : goal.returns-in_err-matches-clause-run
returns-in_err-matches-clause-run c =
    let parse = c.in_err-matches in
    λ name given. inr (no_memory_of parse.field-0.0 _
    (parse.ensures.passes (run_passes _ _ name c.in_ok-command.ensures given))
    c.from_residual-in_err-matches.ensures.1)

pub returns-in_err-matches-clause-serve : goal.returns-in_err-matches-clause-serve
returns-in_err-matches-clause-serve c =
    let parse = c.in_err-matches in
    λ name given. inr (no_memory_of parse.field-0.0 _
    (parse.ensures.passes (serve_passes _ _ name c.in_ok-command.ensures given))
    c.from_residual-in_err-matches.ensures.1)

pub returns-clause-kinds : goal.returns-clause-kinds
returns-clause-kinds c = at_command_line (λ kinds. kinds ≡ []) (words_of c.args.words.now) _
    c.in_ok-command.ensures c.in_ok-matches.ensures.kinds

pub returns-clause-run : goal.returns-clause-run
returns-clause-run c = λ name given.
    let found = found_by _ (words_of c.args.words.now) c.in_ok-matches.matches c.in_ok-command.ensures c.in_ok-matches.ensures.matches in
    inl (ap (λ (t : Task). let answer : Result Task WordsFault = Ok t in answer) (run_alone (words_of c.args.words.now) name c.in_ok-matches.matches c.in_ok-task_of.field-0 given found c.in_ok-task_of.ensures.of))

pub returns-clause-serve : goal.returns-clause-serve
returns-clause-serve c = λ name given.
    let found = found_by _ (words_of c.args.words.now) c.in_ok-matches.matches c.in_ok-command.ensures c.in_ok-matches.ensures.matches in
    inl (ap (λ (t : Task). let answer : Result Task WordsFault = Ok t in answer) (serve_alone (words_of c.args.words.now) name c.in_ok-matches.matches c.in_ok-task_of.field-0 given found c.in_ok-task_of.ensures.of))

pub returns-clause-entered : goal.returns-clause-entered
returns-clause-entered c = is_entered (words_of c.args.words.now) c.in_ok-matches.matches c.in_ok-task_of.field-0
    (found_by _ (words_of c.args.words.now) c.in_ok-matches.matches c.in_ok-command.ensures c.in_ok-matches.ensures.matches) c.in_ok-task_of.ensures.of

pub returns-clause-file : goal.returns-clause-file
returns-clause-file c = names_file (words_of c.args.words.now) c.in_ok-matches.matches c.in_ok-task_of.field-0
    (found_by _ (words_of c.args.words.now) c.in_ok-matches.matches c.in_ok-command.ensures c.in_ok-matches.ensures.matches) c.in_ok-task_of.ensures.of
