-- What the program does with a script.
use Rattle.std.specs.Prelude.{◌≡◌, ◌⊎◌, ℕ, List, Bool, Option, IfErr, IfSome, Result, Ok, Err, OnOk}
use Rattle.std.specs.Io.KnownBytes.{Appends}
use Rattle.gv_text.specs.Reading.{TakesFew, TellsLength, TellsReads, TellsWrites}
use Rattle.gv_text.specs.Script.{IsRun, StopsAt, IsStart}
use Rattle.gv_session.specs.declared.fault.ScriptFault.{ScriptFault}
use Rattle.gv_session.specs.declared.fault.ScriptFault.TheVariants.{BadLine, ScriptTooLong, ReadFault, OutOfMemory}
use Rattle.gv_threads.specs.Ending.{HasNotBegun, EndsAs}
use Rattle.gv_threads.specs.Running.{IsThreadsRun}
use Rattle.gv_threads.specs.declared.fault.ThreadsFault.{ThreadsFault}
use Rattle.gv_program.specs.Fault.{of_threads, script_status, status_of}
use Rattle.gv_program.specs.Status.{broken_stream, done}

-- A script was run with this answer, as `run_script` says: of a reader before and after, of which these tell the bytes
-- that are left and whether it has failed, and of a writer, of which these tell what was written and whether it has failed.
pub record HasRun {R W : Type 0} (remaining : R → Option (List ℕ)) (read_failed : R → Bool) (written : W → Option (List ℕ)) (write_failed : W → Bool) (reader reader_after : R) (writer writer_after : W) (answer : Result (Unit {0}) ScriptFault) : Type 0 where
  pub text : OnOk answer ((script text : List ℕ) × IfSome (remaining reader) (λ bytes. script ≡ bytes)
      × IsRun script text × Appends (written writer) (written writer_after) text)
  pub bad_line : (line : ℕ) → answer ≡ Err (BadLine line) → (script text : List ℕ) × IfSome (remaining reader) (λ bytes. script ≡ bytes)
      × StopsAt script text line × Appends (written writer) (written writer_after) text
  pub out_of_memory : answer ≡ Err OutOfMemory → (script text : List ℕ) × IfSome (remaining reader) (λ bytes. script ≡ bytes)
      × IsStart script text × Appends (written writer) (written writer_after) text
  pub too_long : TellsLength (remaining reader) answer
  pub too_long_silent : answer ≡ Err ScriptTooLong → writer_after ≡ writer
  pub read_fault : TellsReads (read_failed reader) (read_failed reader_after) answer
  pub read_fault_silent : answer ≡ Err ReadFault → writer_after ≡ writer
  pub write_fault : TellsWrites (write_failed writer) (write_failed writer_after) answer
  pub few : TakesFew (remaining reader) (remaining reader_after)

-- the exit status for an answer: that of its fault, or that of a task that is done
abbrev pub exit_status : Result (Unit {0}) ScriptFault → ℕ
exit_status (Ok finished) = done
exit_status (Err fault) = script_status fault

-- A threads script was run on so many queues with this answer, as `run_threads` says: of the same devices.
pub record HasRunThreads {R W : Type 0} (remaining : R → Option (List ℕ)) (read_failed : R → Bool) (written : W → Option (List ℕ)) (write_failed : W → Bool) (reader reader_after : R) (writer writer_after : W) (count : ℕ) (answer : Result (Unit {0}) ThreadsFault) : Type 0 where
  pub text : OnOk answer ((script text : List ℕ) × IfSome (remaining reader) (λ bytes. script ≡ bytes)
      × IsThreadsRun script count text × Appends (written writer) (written writer_after) text)
  pub ends : EndsAs (read_failed reader) (read_failed reader_after) (write_failed writer) (write_failed writer_after) count answer
  pub silent : IfErr answer (λ fault. HasNotBegun fault → writer_after ≡ writer)
  pub few : TakesFew (remaining reader) (remaining reader_after)

-- the exit status for such an answer
abbrev pub threads_status : Result (Unit {0}) ThreadsFault → ℕ
threads_status (Ok finished) = done
threads_status (Err fault) = status_of (of_threads fault)

-- A script from a file was run: the text is that of a run of some script. Where the file can't be opened nothing is written.
abbrev pub HasRunSome : {W : Type 0} → (W → Option (List ℕ)) → W → W → ℕ → Type 0
HasRunSome written writer writer_after status =
    ((status ≡ broken_stream) × (writer_after ≡ writer))
    ⊎ ((answer : Result (Unit {0}) ScriptFault) × OnOk answer ((script text : List ℕ) × IsRun script text × Appends (written writer) (written writer_after) text)
    × (status ≡ exit_status answer))
