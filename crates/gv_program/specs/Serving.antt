-- What the program does with a dialogue.
use Rattle.std.specs.Prelude.{◌≡◌, ℕ, List, Bool, Option, Result, Ok, Err, OnOk}
use Rattle.std.specs.Io.KnownBytes.{Appends, Consumes}
use Rattle.gv_text.specs.Script.{RunsWhole}
use Rattle.gv_serve.specs.Dialogue.{IsBroken, IsDialogue, IsReadToEnd, TellsReads, TellsWrites}
use Rattle.gv_serve.specs.declared.fault.ServeFault.{ServeFault}
use Rattle.gv_serve.specs.declared.fault.ServeFault.TheVariants.{ReadFault, WriteFault, OutOfMemory}
use Rattle.gv_program.specs.Status.{broken_stream, done, no_memory}

-- A dialogue was held with this answer, as `serve` of `gv_serve` says: of a reader before and after, of which these tell the bytes
-- that are left and whether it has failed, and of a writer, of which these tell what was written and whether it has failed.
pub record HasServed {R W : Type 0} (remaining : R → Option (List ℕ)) (read_failed : R → Bool) (written : W → Option (List ℕ)) (write_failed : W → Bool) (reader reader_after : R) (writer writer_after : W) (answer : Result (Unit {0}) ServeFault) : Type 0 where
  pub text : OnOk answer ((input text : List ℕ) × (others : ℕ)
      × Consumes (remaining reader) (remaining reader_after) input × IsReadToEnd (remaining reader_after) input
      × IsDialogue input text others × Appends (written writer) (written writer_after) text
      × (others ≡ 0 → (refusals : ℕ) × RunsWhole input text refusals))
  pub broken : answer ≡ Err ReadFault → (input text : List ℕ) × Consumes (remaining reader) (remaining reader_after) input
      × IsBroken input text × Appends (written writer) (written writer_after) text
  pub unread : answer ≡ Err OutOfMemory → reader_after ≡ reader
  pub unwritten : answer ≡ Err OutOfMemory → writer_after ≡ writer
  pub read_fault : TellsReads (read_failed reader) (read_failed reader_after) answer
  pub write_fault : TellsWrites (write_failed writer) (write_failed writer_after) answer

-- the exit status for an answer
abbrev pub serve_status : Result (Unit {0}) ServeFault → ℕ
serve_status (Ok finished) = done
serve_status (Err ReadFault) = broken_stream
serve_status (Err WriteFault) = broken_stream
serve_status (Err OutOfMemory) = no_memory
