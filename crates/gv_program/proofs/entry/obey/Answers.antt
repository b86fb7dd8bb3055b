use Rattle.std.proofs.Common.{inl, inr, ⊎_elim}
use Rattle.gv_program.specs.CommandLine.{words_of}
use Rattle.gv_program.proofs.Reading.{read_has_no_error, run_alone, run_done, run_file_done, serve_alone, status_of_one, threads_done, version_is_no_task, version_is_shown}
use Rattle.gv_program.proofs.entry.obey.Goals as goal

pub returns-in-Ok-clause-version : goal.returns-in-Ok-clause-version
returns-in-Ok-clause-version g c = λ name given. absurd (version_is_no_task (words_of c.args.words.now) name given c.in-Ok.ensures.kinds)

pub returns-in-Ok-clause-run : goal.returns-in-Ok-clause-run
returns-in-Ok-clause-run g c = λ name given. inr (run_alone _ _ _ _ _ _ _ _ _ _ (c.in-Ok.ensures.run name given) c.carry_out.ensures.done)

pub returns-in-Ok-clause-read_as_run : goal.returns-in-Ok-clause-read_as_run
returns-in-Ok-clause-read_as_run g c = λ read none. inr (run_done _ _ _ _ _ _ _ _ (words_of c.args.words.now) _ _ c.in-Ok.ensures.entered c.in-Ok.ensures.file c.carry_out.ensures.done read.1 none)

pub returns-in-Ok-clause-run_file : goal.returns-in-Ok-clause-run_file
returns-in-Ok-clause-run_file g c = λ read some. inr (run_file_done _ _ _ _ _ _ _ _ (words_of c.args.words.now) _ _ c.in-Ok.ensures.entered c.in-Ok.ensures.file c.carry_out.ensures.done read.1 some)

pub returns-in-Ok-clause-serve : goal.returns-in-Ok-clause-serve
returns-in-Ok-clause-serve g c = λ name given. inr (serve_alone _ _ _ _ _ _ _ _ _ _ (c.in-Ok.ensures.serve name given) c.carry_out.ensures.done)

pub returns-in-Ok-clause-threads : goal.returns-in-Ok-clause-threads
returns-in-Ok-clause-threads g c = λ read. inr (threads_done _ _ _ _ _ _ _ _ (words_of c.args.words.now) _ _ c.in-Ok.ensures.entered c.in-Ok.ensures.task c.carry_out.ensures.done read.1)

pub returns-in-Err-Printed-clause-version : goal.returns-in-Err-Printed-clause-version
returns-in-Err-Printed-clause-version g c = λ name given.
    let same = version_is_shown (words_of c.args.words.now) name c.in-Err-Printed.error given (rw c.in-Err-Printed.field-0-is at c.in-Err-Printed.ensures.kinds) in
    ⊎_elim (λ is. inl is) (λ is. inr (inr is)) (c.printed.ensures.shown (inr same))

pub returns-in-Err-Printed-clause-read_as_run : goal.returns-in-Err-Printed-clause-read_as_run
returns-in-Err-Printed-clause-read_as_run g c = λ read none.
    read_has_no_error _ (words_of c.args.words.now) c.in-Err-Printed.error read (rw c.in-Err-Printed.field-0-is at c.in-Err-Printed.ensures.kinds)

pub returns-in-Err-Printed-clause-run_file : goal.returns-in-Err-Printed-clause-run_file
returns-in-Err-Printed-clause-run_file g c = λ read some.
    read_has_no_error _ (words_of c.args.words.now) c.in-Err-Printed.error read (rw c.in-Err-Printed.field-0-is at c.in-Err-Printed.ensures.kinds)

pub returns-in-Err-Printed-clause-refused_status : goal.returns-in-Err-Printed-clause-refused_status
returns-in-Err-Printed-clause-refused_status g c = λ refused.
    status_of_one (words_of c.args.words.now) c.in-Err-Printed.error _ (rw c.in-Err-Printed.field-0-is at c.in-Err-Printed.ensures.kinds)
    c.printed.ensures.refused c.printed.ensures.shown
