-- The lines of a dialogue.
use Rattle.std.specs.Prelude.{ℕ, List, [], ◌∷◌, Option, Some, None, if◌then◌else◌, codes, bytes_eq}
use Rattle.gv_lines.specs.OptionSteps.{◌>>=◌}
use Rattle.gv_lines.specs.Words.{words, first_number, queue_of, ended}
use Rattle.gv_lines.specs.Clause.{bind_clauses, clauses_read}
use Rattle.gv_lines.specs.Grammar.{parsed}
use Rattle.gv_lines.specs.declared.line.Line.{Line}
use Rattle.gv_lines.specs.declared.serve_line.ServeLine.{ServeLine}
use Rattle.gv_lines.specs.declared.serve_line.ServeLine.TheVariants.{Run, Put, Turn, GiveUp, Forget, Trim, Show, Past}

-- put, or put CLAUSE ; CLAUSE ..
abbrev pub put_line : List (List ℕ) → Option ServeLine
put_line words = do
  read ← clauses_read (bind_clauses words)
  Some (Put read)

-- turn NUM, below the number of queues
abbrev pub turn_line : List (List ℕ) → Option ServeLine
turn_line words = do
  number ← first_number words
  queue ← queue_of number.0
  ended number.1 (Turn queue)

-- giveup NUM, below the number of queues
abbrev pub give_up_line : List (List ℕ) → Option ServeLine
give_up_line words = do
  number ← first_number words
  queue ← queue_of number.0
  ended number.1 (GiveUp queue)

-- forget NUM NUM, the first below the number of queues
abbrev pub forget_line : List (List ℕ) → Option ServeLine
forget_line words = do
  number ← first_number words
  queue ← queue_of number.0
  to ← first_number number.1
  ended to.1 (Forget queue to.0)

-- trim, and no more
abbrev pub trim_line : List (List ℕ) → Option ServeLine
trim_line words = ended words Trim

-- show NUM
abbrev pub show_line : List (List ℕ) → Option ServeLine
show_line words = do
  entry ← first_number words
  ended entry.1 (Show entry.0)

-- past NUM
abbrev pub past_line : List (List ℕ) → Option ServeLine
past_line words = do
  addr ← first_number words
  ended addr.1 (Past addr.0)

-- a line that the language has not, by its first word and the words behind it
abbrev pub added_line : List ℕ → List (List ℕ) → Option ServeLine
added_line first more =
    if bytes_eq first (codes "put") then put_line more
    else if bytes_eq first (codes "turn") then turn_line more
    else if bytes_eq first (codes "giveup") then give_up_line more
    else if bytes_eq first (codes "forget") then forget_line more
    else if bytes_eq first (codes "trim") then trim_line more
    else if bytes_eq first (codes "show") then show_line more
    else if bytes_eq first (codes "past") then past_line more
    else None

abbrev pub added_words : List (List ℕ) → Option ServeLine
added_words [] = None
added_words (first ∷ more) = added_line first more

abbrev pub added : List ℕ → Option ServeLine
added text = added_words (words text)

-- a line of the language, or else one that a dialogue adds
abbrev pub run_or : Option Line → Option ServeLine → Option ServeLine
run_or (Some line) other = Some (Run line)
run_or None other = other

-- what a line of a dialogue says
unfoldable pub serve_parsed : List ℕ → Option ServeLine
serve_parsed text = run_or (parsed text) (added text)
