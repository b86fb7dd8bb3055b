-- The lines of the language.
use Rattle.std.specs.Prelude.{ℕ, List, [], ◌∷◌, Option, Some, None, ◌==◌, if◌then◌else◌, codes, bytes_eq}
use Rattle.std.specs.List.{list_all}
use Rattle.std.specs.Char.{is_ascii}
use Rattle.gv_lines.specs.OptionSteps.{◌>>=◌}
use Rattle.gv_lines.specs.Words.{words, clauses, first_name, first_number, queue_of, ended}
use Rattle.gv_lines.specs.Operation.{planned_operation}
use Rattle.gv_lines.specs.Clause.{point_of, bind_clauses, clauses_read}
use Rattle.gv_lines.specs.Job.{accesses_read}
use Rattle.gv_lines.specs.declared.keyword.Keyword.{Keyword}
use Rattle.gv_lines.specs.declared.keyword.Keyword.TheVariants as keyword
use Rattle.gv_lines.specs.declared.line.Line.{Line}
use Rattle.gv_lines.specs.declared.line.Line.TheVariants.{Silent, Space, Limits, Buffer, Destroy, Uses, Timeline, Raise, Value, Bind, Plan, Map, At, Tables, Rewind, Journal, Withdraw, Settle, Told, Job, End}

-- space START LEN RSTART RLEN
abbrev pub space_line : List (List ℕ) → Option Line
space_line words = do
  start ← first_number words
  len ← first_number start.1
  reserved_start ← first_number len.1
  reserved_len ← first_number reserved_start.1
  ended reserved_len.1 (Space start.0 len.0 reserved_start.0 reserved_len.0)

-- limits BUFFERS MAPPINGS ITEMS
abbrev pub limits_line : List (List ℕ) → Option Line
limits_line words = do
  buffers ← first_number words
  mappings ← first_number buffers.1
  items ← first_number mappings.1
  ended items.1 (Limits buffers.0 mappings.0 items.0)

-- buffer NAME PAGES
abbrev pub buffer_line : List (List ℕ) → Option Line
buffer_line words = do
  name ← first_name words
  pages ← first_number name.1
  ended pages.1 (Buffer name.0 pages.0)

-- destroy NAME
abbrev pub destroy_line : List (List ℕ) → Option Line
destroy_line words = do
  name ← first_name words
  ended name.1 (Destroy name.0)

-- uses NAME
abbrev pub uses_line : List (List ℕ) → Option Line
uses_line words = do
  name ← first_name words
  ended name.1 (Uses name.0)

-- timeline NAME
abbrev pub timeline_line : List (List ℕ) → Option Line
timeline_line words = do
  name ← first_name words
  ended name.1 (Timeline name.0)

-- raise NAME NUM
abbrev pub raise_line : List (List ℕ) → Option Line
raise_line words = do
  point ← point_of words
  Some (Raise point)

-- value NAME
abbrev pub value_line : List (List ℕ) → Option Line
value_line words = do
  name ← first_name words
  ended name.1 (Value name.0)

-- bind, or bind CLAUSE ; CLAUSE ..
abbrev pub bind_line : List (List ℕ) → Option Line
bind_line words = do
  read ← clauses_read (bind_clauses words)
  Some (Bind read)

-- plan OPERATION
abbrev pub plan_line : List (List ℕ) → Option Line
plan_line words = do
  operation ← planned_operation words
  Some (Plan operation)

-- map
abbrev pub map_line : List (List ℕ) → Option Line
map_line words = ended words Map

-- at NUM
abbrev pub at_line : List (List ℕ) → Option Line
at_line words = do
  addr ← first_number words
  ended addr.1 (At addr.0)

-- tables
abbrev pub tables_line : List (List ℕ) → Option Line
tables_line words = ended words Tables

-- rewind
abbrev pub rewind_line : List (List ℕ) → Option Line
rewind_line words = ended words Rewind

-- journal
abbrev pub journal_line : List (List ℕ) → Option Line
journal_line words = ended words Journal

-- withdraw NUM
abbrev pub withdraw_line : List (List ℕ) → Option Line
withdraw_line words = do
  entry ← first_number words
  ended entry.1 (Withdraw entry.0)

-- settle NUM
abbrev pub settle_line : List (List ℕ) → Option Line
settle_line words = do
  to ← first_number words
  ended to.1 (Settle to.0)

-- told NUM, below the number of queues
abbrev pub told_line : List (List ℕ) → Option Line
told_line words = do
  number ← first_number words
  queue ← queue_of number.0
  ended number.1 (Told queue)

-- job ACCESS ; ACCESS ..
abbrev pub job_line : List (List ℕ) → Option Line
job_line words = do
  accesses ← accesses_read (clauses words)
  Some (Job accesses)

-- end NUM
abbrev pub end_line : List (List ℕ) → Option Line
end_line words = do
  job ← first_number words
  ended job.1 (End job.0)

-- the same of a word that is none of the first fifteen
abbrev pub keyword_from_withdraw : List ℕ → Option Keyword
keyword_from_withdraw word =
    if bytes_eq word (codes "withdraw") then Some keyword.Withdraw
    else if bytes_eq word (codes "settle") then Some keyword.Settle
    else if bytes_eq word (codes "told") then Some keyword.Told
    else if bytes_eq word (codes "job") then Some keyword.Job
    else if bytes_eq word (codes "end") then Some keyword.End
    else None

-- the same of a word that is none of the first ten
abbrev pub keyword_from_map : List ℕ → Option Keyword
keyword_from_map word =
    if bytes_eq word (codes "map") then Some keyword.Map
    else if bytes_eq word (codes "at") then Some keyword.At
    else if bytes_eq word (codes "tables") then Some keyword.Tables
    else if bytes_eq word (codes "rewind") then Some keyword.Rewind
    else if bytes_eq word (codes "journal") then Some keyword.Journal
    else keyword_from_withdraw word

-- the same of a word that is none of the first five
abbrev pub keyword_from_timeline : List ℕ → Option Keyword
keyword_from_timeline word =
    if bytes_eq word (codes "timeline") then Some keyword.Timeline
    else if bytes_eq word (codes "raise") then Some keyword.Raise
    else if bytes_eq word (codes "value") then Some keyword.Value
    else if bytes_eq word (codes "bind") then Some keyword.Bind
    else if bytes_eq word (codes "plan") then Some keyword.Plan
    else keyword_from_map word

-- the keyword that a word is
abbrev pub keyword_of : List ℕ → Option Keyword
keyword_of word =
    if bytes_eq word (codes "space") then Some keyword.Space
    else if bytes_eq word (codes "limits") then Some keyword.Limits
    else if bytes_eq word (codes "buffer") then Some keyword.Buffer
    else if bytes_eq word (codes "destroy") then Some keyword.Destroy
    else if bytes_eq word (codes "uses") then Some keyword.Uses
    else keyword_from_timeline word

-- a line that begins with this keyword, by the words behind it
abbrev pub line_of : Keyword → List (List ℕ) → Option Line
line_of keyword.Space = space_line
line_of keyword.Limits = limits_line
line_of keyword.Buffer = buffer_line
line_of keyword.Destroy = destroy_line
line_of keyword.Uses = uses_line
line_of keyword.Timeline = timeline_line
line_of keyword.Raise = raise_line
line_of keyword.Value = value_line
line_of keyword.Bind = bind_line
line_of keyword.Plan = plan_line
line_of keyword.Map = map_line
line_of keyword.At = at_line
line_of keyword.Tables = tables_line
line_of keyword.Rewind = rewind_line
line_of keyword.Journal = journal_line
line_of keyword.Withdraw = withdraw_line
line_of keyword.Settle = settle_line
line_of keyword.Told = told_line
line_of keyword.Job = job_line
line_of keyword.End = end_line

-- a line by its words
abbrev pub worded : List (List ℕ) → Option Line
worded [] = None
worded (first ∷ more) = do
  keyword ← keyword_of first
  line_of keyword more

-- the sign that a comment begins with
abbrev pub comment_sign : ℕ
comment_sign = 35

-- an empty line and a comment say nothing
abbrev pub line_said : List ℕ → Option Line
line_said [] = Some Silent
line_said (c ∷ cs) = if c == comment_sign then Some Silent else worded (words (c ∷ cs))

-- what a line says; one with a byte that is not ASCII is none, also inside a comment
unfoldable pub parsed : List ℕ → Option Line
parsed text = if list_all is_ascii text then line_said text else None
