-- How the program ends where the command line refuses its arguments, or prints help or the version.
use Rattle.std.specs.Prelude.{◌≡◌, ◌⊎◌, ℕ, [], ◌∷◌}
use Rattle.clap.specs.Kinds.{Kinds, IsAmong}
use Rattle.clap.specs.declared.error.kind.ErrorKind.{ErrorKind}
use Rattle.clap.specs.declared.error.kind.ErrorKind.TheVariants as kind
use Rattle.gv_program.specs.Status.{bad_words, broken_stream, done, no_memory}

-- The exit status for an error of this kind. Help and the version are printed, if somebody takes them; all else is bad words.
abbrev pub IsStatusOfKind : ErrorKind → ℕ → Type 0
IsStatusOfKind kind.DisplayHelp status = (status ≡ done) ⊎ (status ≡ broken_stream)
IsStatusOfKind kind.DisplayVersion status = (status ≡ done) ⊎ (status ≡ broken_stream)
IsStatusOfKind other status = status ≡ bad_words

-- the exit status for an error that has one of these kinds, or for want of memory
abbrev pub IsStatusOfOne : Kinds → ℕ → Type 0
IsStatusOfOne kinds status = (status ≡ no_memory) ⊎ ((one : ErrorKind) × IsAmong one kinds × IsStatusOfKind one status)

-- nothing is refused: help is asked for, or the version
abbrev pub AskForText : Kinds → Type 0
AskForText kinds = (kinds ≡ kind.DisplayHelp ∷ []) ⊎ (kinds ≡ kind.DisplayVersion ∷ [])
