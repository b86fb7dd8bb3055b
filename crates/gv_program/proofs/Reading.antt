-- From what the words are read as to what the program does.
use Rattle.std.proofs.Common.{◌≡◌, ◌≢◌, ◌⊎◌, ℕ, List, [], ◌∷◌, length, Bool, false, Option, Some, None, IsSome, Result, Ok, Err, refl, sym, subst, codes, inl, inr, ap, ◌∙◌, arith}
use Rattle.std.specs.Borrow.{Bor}
use Rattle.clap.specs.Kinds.{IsAmong}
use Rattle.clap.specs.Faults.{fault_of}
use Rattle.clap.specs.Values.{kind_of}
use Rattle.clap.proofs.OnLiterals.{clap_on_literals}
use Rattle.clap.specs.declared.error.Error.{Error}
use Rattle.clap.specs.declared.error.kind.ErrorKind.{ErrorKind}
use Rattle.clap.specs.declared.error.kind.ErrorKind.TheVariants as kind
use Rattle.gv_types.specs.Limits.{IsFromOneTo}
use Rattle.gv_session.specs.declared.fault.ScriptFault.{ScriptFault}
use Rattle.gv_serve.specs.declared.fault.ServeFault.{ServeFault}
use Rattle.gv_threads.specs.declared.fault.ThreadsFault.{ThreadsFault}
use Rattle.gv_program.specs.CommandLine.{AreReadAs, IsEntered, IsTask, NamesFile, command_line, entered, file_named, most_queues, text_of}
use Rattle.gv_program.specs.declared.words.Task.{Task}
use Rattle.gv_program.specs.declared.words.Task.TheVariants.{Run, Serve, Replay, Draw, Compare, Threads}
use Rattle.gv_program.specs.declared.words.WordsFault.{WordsFault}
use Rattle.gv_program.specs.declared.words.WordsFault.TheVariants.{OutOfMemory}
use Rattle.gv_program.specs.Refused.{IsStatusOfKind, IsStatusOfOne}
use Rattle.gv_program.specs.Run.{HasRun, HasRunSome, HasRunThreads, exit_status, threads_status}
use Rattle.gv_program.specs.Serving.{HasServed, serve_status}
use Rattle.gv_program.specs.Status.{bad_words, broken_stream, done}
use Rattle.gv_program.specs.Task.{IsDone}

abbrev begins_with : Option (List ℕ) → ℕ
begins_with (Some (letter ∷ more)) = letter
begins_with other = 0

abbrev length_of : Option (List ℕ) → ℕ
length_of (Some word) = length word
length_of other = 0

apart : (a b : Option (List ℕ)) → begins_with a ≢ begins_with b → a ≡ b → ⊥
apart a b other same = other (ap begins_with same)

longer : (a b : Option (List ℕ)) → length_of a ≢ length_of b → a ≡ b → ⊥
longer a b other same = other (ap length_of same)

abbrev the_run : Option (List ℕ)
the_run = Some (codes "run")

abbrev the_threads : Option (List ℕ)
the_threads = Some (codes "threads")

no_text : (file : Option (Bor (List ℕ))) → text_of file ≡ None → file ≡ None
no_text None is = refl
no_text (Some text) is = absurd cc

none_is_some : (o : Option (List ℕ)) → o ≡ None → IsSome o → ⊥
none_is_some None is some = absurd cc
none_is_some (Some text) is some = absurd cc

module _ {R W : Type 0} (remaining : R → Option (List ℕ)) (read_failed : R → Bool) (written : W → Option (List ℕ)) (write_failed : W → Bool) (reader reader_after : R) (writer writer_after : W) where
  abbrev Done : Task → ℕ → Type 0
  Done = IsDone remaining read_failed written write_failed reader reader_after writer writer_after

  -- the task of words that are read as `run` and name no file
  pub run_done : (words : List (List ℕ)) (task : Task) (status : ℕ) → IsEntered (entered words) task → NamesFile words task → Done task status
      → entered words ≡ the_run → file_named words ≡ None
      → (answer : Result (Unit {0}) ScriptFault) × HasRun remaining read_failed written write_failed reader reader_after writer writer_after answer × (status ≡ exit_status answer)
  run_done words (Run explain None) status is names did run none = did
  run_done words (Run explain (Some file)) status is names did run none = absurd (let named : Some file.now ≡ None = names run ∙ none in cc)
  run_done words (Serve json file) status is names did run none = absurd (apart (Some (codes "serve")) the_run (λ e. omega (arith, e)) (sym is ∙ run))
  run_done words (Replay asked) status is names did run none = absurd (longer (Some (codes "replay")) the_run (λ e. omega (arith, e)) (sym is ∙ run))
  run_done words (Draw at width quiet file) status is names did run none = absurd (apart (Some (codes "draw")) the_run (λ e. omega (arith, e)) (sym is ∙ run))
  run_done words (Compare asked) status is names did run none = absurd (apart (Some (codes "compare")) the_run (λ e. omega (arith, e)) (sym is ∙ run))
  run_done words (Threads queues turns explain) status is names did run none = absurd (apart the_threads the_run (λ e. omega (arith, e)) (sym is ∙ run))

  -- and of those that name a file
  pub run_file_done : (words : List (List ℕ)) (task : Task) (status : ℕ) → IsEntered (entered words) task → NamesFile words task → Done task status
      → entered words ≡ the_run → IsSome (file_named words)
      → (reader_after ≡ reader) × HasRunSome written writer writer_after status
  run_file_done words (Run explain None) status is names did run some = absurd (none_is_some (file_named words) (sym (names run)) some)
  run_file_done words (Run explain (Some file)) status is names did run some = did
  run_file_done words (Serve json file) status is names did run some = absurd (apart (Some (codes "serve")) the_run (λ e. omega (arith, e)) (sym is ∙ run))
  run_file_done words (Replay asked) status is names did run some = absurd (longer (Some (codes "replay")) the_run (λ e. omega (arith, e)) (sym is ∙ run))
  run_file_done words (Draw at width quiet file) status is names did run some = absurd (apart (Some (codes "draw")) the_run (λ e. omega (arith, e)) (sym is ∙ run))
  run_file_done words (Compare asked) status is names did run some = absurd (apart (Some (codes "compare")) the_run (λ e. omega (arith, e)) (sym is ∙ run))
  run_file_done words (Threads queues turns explain) status is names did run some = absurd (apart the_threads the_run (λ e. omega (arith, e)) (sym is ∙ run))

  -- the task of words that are read as `threads`
  pub threads_done : (words : List (List ℕ)) (task : Task) (status : ℕ) → IsEntered (entered words) task → IsTask task → Done task status
      → entered words ≡ the_threads
      → (count : ℕ) × IsFromOneTo most_queues count × (answer : Result (Unit {0}) ThreadsFault)
      × HasRunThreads remaining read_failed written write_failed reader reader_after writer writer_after count answer × (status ≡ threads_status answer)
  threads_done words (Run explain file) status is fits did threads = absurd (is.1 threads)
  threads_done words (Serve json file) status is fits did threads = absurd (apart (Some (codes "serve")) the_threads (λ e. omega (arith, e)) (sym is ∙ threads))
  threads_done words (Replay asked) status is fits did threads = absurd (apart (Some (codes "replay")) the_threads (λ e. omega (arith, e)) (sym is ∙ threads))
  threads_done words (Draw at width quiet file) status is fits did threads = absurd (apart (Some (codes "draw")) the_threads (λ e. omega (arith, e)) (sym is ∙ threads))
  threads_done words (Compare asked) status is fits did threads = absurd (apart (Some (codes "compare")) the_threads (λ e. omega (arith, e)) (sym is ∙ threads))
  threads_done words (Threads queues turns explain) status is fits did threads = (queues, fits.0, did.0, did.1, did.2)

  -- the task of the word `run` alone, and of `serve`
  pub run_alone : (task : Task) (status : ℕ) → (◌≡◌ {A = Result Task WordsFault} (Ok task) (Ok (Run false None))) ⊎ (◌≡◌ {A = Result Task WordsFault} (Ok task) (Err OutOfMemory))
      → Done task status → (answer : Result (Unit {0}) ScriptFault) × HasRun remaining read_failed written write_failed reader reader_after writer writer_after answer × (status ≡ exit_status answer)
  run_alone task status (inl is) did = let same : task ≡ Run false None = cc in subst (λ t. Done t status) same did
  run_alone task status (inr is) did = absurd cc

  pub serve_alone : (task : Task) (status : ℕ) → (◌≡◌ {A = Result Task WordsFault} (Ok task) (Ok (Serve false None))) ⊎ (◌≡◌ {A = Result Task WordsFault} (Ok task) (Err OutOfMemory))
      → Done task status → (answer : Result (Unit {0}) ServeFault) × HasServed remaining read_failed written write_failed reader reader_after writer writer_after answer × (status ≡ serve_status answer)
  serve_alone task status (inl is) did = let same : task ≡ Serve false None = cc in subst (λ t. Done t status) same did
  serve_alone task status (inr is) did = absurd cc

version_asked : (name : List ℕ) → fault_of command_line (name ∷ codes "--version" ∷ []) ≡ kind.DisplayVersion ∷ []
unfolding clap_on_literals
version_asked name = refl

-- of the word `--version` clap gives the version, and nothing else
asks_for_version : (words : List (List ℕ)) (name : List ℕ) → words ≡ name ∷ codes "--version" ∷ []
    → fault_of command_line words ≡ kind.DisplayVersion ∷ []
asks_for_version words name e = rw e (version_asked name)

pub version_is_no_task : (words : List (List ℕ)) (name : List ℕ) → words ≡ name ∷ codes "--version" ∷ []
    → fault_of command_line words ≡ [] → ⊥
version_is_no_task words name e none = let same = asks_for_version words name e in absurd cc

pub version_is_shown : (words : List (List ℕ)) (name : List ℕ) (error : Error)
    → words ≡ name ∷ codes "--version" ∷ [] → IsAmong (kind_of error) (fault_of command_line words)
    → kind_of error ≡ kind.DisplayVersion
version_is_shown words name error e among = elim (rw (asks_for_version words name e) at among) [
  | inl same ↦ same
  | inr none ↦ absurd none
]

-- words that are read as a subcommand have no error that is printed
pub read_has_no_error : {T : Type 0} (name : List ℕ) (words : List (List ℕ)) (error : Error)
    → AreReadAs name words → IsAmong (kind_of error) (fault_of command_line words) → T
read_has_no_error name words error read among = absurd (subst (λ kinds. IsAmong (kind_of error) kinds) read.0 among)

-- the status of what is printed is that of its kind
status_of_kind : (k : ErrorKind) (status : ℕ) → (k ≢ kind.DisplayHelp → k ≢ kind.DisplayVersion → status ≡ bad_words)
    → ((k ≡ kind.DisplayHelp) ⊎ (k ≡ kind.DisplayVersion) → (status ≡ done) ⊎ (status ≡ broken_stream)) → IsStatusOfKind k status
status_of_kind kind.DisplayHelp status refused shown = shown (inl refl)
status_of_kind kind.DisplayVersion status refused shown = shown (inr refl)
status_of_kind other status refused shown = refused (λ e. absurd cc) (λ e. absurd cc)

pub status_of_one : (words : List (List ℕ)) (error : Error) (status : ℕ) → IsAmong (kind_of error) (fault_of command_line words)
    → (kind_of error ≢ kind.DisplayHelp → kind_of error ≢ kind.DisplayVersion → status ≡ bad_words)
    → ((kind_of error ≡ kind.DisplayHelp) ⊎ (kind_of error ≡ kind.DisplayVersion) → (status ≡ done) ⊎ (status ≡ broken_stream))
    → IsStatusOfOne (fault_of command_line words) status
status_of_one words error status among refused shown = inr (kind_of error, among, status_of_kind (kind_of error) status refused shown)
