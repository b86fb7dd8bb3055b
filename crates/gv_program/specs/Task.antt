-- What the program does with a task.
use Rattle.std.specs.Prelude.{◌≡◌, ℕ, List, Bool, false, Option, Some, None, Result}
use Rattle.gv_session.specs.declared.fault.ScriptFault.{ScriptFault}
use Rattle.gv_serve.specs.declared.fault.ServeFault.{ServeFault}
use Rattle.gv_threads.specs.declared.fault.ThreadsFault.{ThreadsFault}
use Rattle.gv_program.specs.declared.words.Task.{Task}
use Rattle.gv_program.specs.declared.words.Task.TheVariants.{Run, Serve, Threads}
use Rattle.gv_program.specs.Run.{HasRun, HasRunSome, HasRunThreads, exit_status, threads_status}
use Rattle.gv_program.specs.Serving.{HasServed, serve_status}
use Rattle.gv_program.specs.Status.{IsStatus}

-- A task was done with this status: of a reader before and after, of which these tell the bytes that are left and whether it has
-- failed, and of a writer, of which these tell what was written and whether it has failed. Of replies in JSON, files of lines,
-- logs, pictures and comparisons only the status is said.
abbrev pub IsDone : {R W : Type 0} → (R → Option (List ℕ)) → (R → Bool) → (W → Option (List ℕ)) → (W → Bool) → R → R → W → W → Task → ℕ → Type 0
IsDone remaining read_failed written write_failed reader reader_after writer writer_after (Run explain None) status =
    (answer : Result (Unit {0}) ScriptFault) × HasRun remaining read_failed written write_failed reader reader_after writer writer_after answer
    × (status ≡ exit_status answer)
IsDone remaining read_failed written write_failed reader reader_after writer writer_after (Run explain (Some file)) status =
    (reader_after ≡ reader) × HasRunSome written writer writer_after status
IsDone remaining read_failed written write_failed reader reader_after writer writer_after (Serve false None) status =
    (answer : Result (Unit {0}) ServeFault) × HasServed remaining read_failed written write_failed reader reader_after writer writer_after answer
    × (status ≡ serve_status answer)
IsDone remaining read_failed written write_failed reader reader_after writer writer_after (Threads queues turns explain) status =
    (answer : Result (Unit {0}) ThreadsFault) × HasRunThreads remaining read_failed written write_failed reader reader_after writer writer_after queues answer
    × (status ≡ threads_status answer)
IsDone remaining read_failed written write_failed reader reader_after writer writer_after task status = IsStatus status
