-- The exit statuses of the program.
use Rattle.std.specs.Prelude.{ℕ, [], ◌∷◌, Contains}

-- the task was done, or help or the version was asked for and printed
abbrev pub done : ℕ
done = 0

-- the script has a bad line or is too long
abbrev pub bad_script : ℕ
bad_script = 1

-- the words of the command line are refused
abbrev pub bad_words : ℕ
bad_words = 2

-- standard input or standard output failed
abbrev pub broken_stream : ℕ
broken_stream = 3

-- the system refused to give memory
abbrev pub no_memory : ℕ
no_memory = 4

-- the queues of a threads script did not start, or disagree
abbrev pub bad_queues : ℕ
bad_queues = 5

-- one of the six
abbrev pub IsStatus : ℕ → Type 0
IsStatus = Contains (done ∷ bad_script ∷ bad_words ∷ broken_stream ∷ no_memory ∷ bad_queues ∷ [])
